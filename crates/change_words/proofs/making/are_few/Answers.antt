use Rattle.std.specs.Prelude.{sum_by}
use Rattle.change_words.specs.Changes.{edit_count}
use Rattle.change_words.proofs.MakingLemmas.{few_told}
use Rattle.change_words.proofs.making.are_few.Goals as goal

pub returns : goal.returns
returns c = few_told c.edit_total.result (sum_by edit_count c.args.changes.now) c.edit_total.ensures
