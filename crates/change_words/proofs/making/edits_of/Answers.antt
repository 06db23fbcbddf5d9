use Rattle.std.proofs.Common.{sym}
use Rattle.std.specs.Prelude.{nat_le, sum_by}
use Rattle.change_words.specs.Changes.{edit_count}
use Rattle.change_words.proofs.MakingLemmas.{accepted_if, few_made, too_many, unmoved_if}
use Rattle.change_words.proofs.making.edits_of.Goals as goal

pub returns-then-not-are_few-clause-made : goal.returns-then-not-are_few-clause-made
returns-then-not-are_few-clause-made g c = too_many (nat_le (sum_by edit_count c.args.changes.now) 64) _ (sym c.if-not-are_few.ensures)

pub returns-clause-made : goal.returns-clause-made
returns-clause-made g c = few_made (nat_le (sum_by edit_count c.args.changes.now) 64) _ c.edits_of_few.result (sym c.if-not-are_few.ensures) c.edits_of_few.ensures

pub returns-clause-accepted : goal.returns-clause-accepted
returns-clause-accepted g c =
    accepted_if c.edits_of_few.result c.args.changes.now c.args.graph.now (few_made (nat_le (sum_by edit_count c.args.changes.now) 64) _ c.edits_of_few.result (sym c.if-not-are_few.ensures) c.edits_of_few.ensures)

pub returns-clause-unmoved : goal.returns-clause-unmoved
returns-clause-unmoved g c =
    unmoved_if c.edits_of_few.result c.args.changes.now c.args.graph.now (few_made (nat_le (sum_by edit_count c.args.changes.now) 64) _ c.edits_of_few.result (sym c.if-not-are_few.ensures) c.edits_of_few.ensures)
