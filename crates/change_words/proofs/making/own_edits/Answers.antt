use Rattle.std.proofs.Common.{Option, subst, sym, Bor}
use Rattle.std.specs.Prelude.{option_copied}
use Rattle.stage_graph.specs.declared.stage.Stage.{Stage}
use Rattle.change_words.specs.Making.{IsMade, listed, own_edits}
use Rattle.change_words.specs.Results.{then_on}
use Rattle.change_words.proofs.making.own_edits.Goals as goal

pub returns-in-Some : goal.returns-in-Some
returns-in-Some c =
    subst (λ (stage : Option (Bor Stage)). IsMade c.own_of_stage.result (then_on (own_edits c.args.change.now c.args.before (option_copied stage)) listed)) (sym c.in-Some.is) c.own_of_stage.ensures
