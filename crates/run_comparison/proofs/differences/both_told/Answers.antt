use Rattle.std.proofs.Common.{Some, ap, ◌∙◌, sym}
use Rattle.std.proofs.lemmas.Bool.{cond-false, cond-true}
use Rattle.run_comparison.proofs.differences.both_told.Goals as goal

pub returns-then-is_told : goal.returns-then-is_told
returns-then-is_told g c = ap Some c.both.ensures ∙ sym (cond-true _ _ _ (sym c.is_told.ensures ∙ c.if-is_told.true))

pub returns-else-is_told : goal.returns-else-is_told
returns-else-is_told g c = sym (cond-false _ _ _ (sym c.is_told.ensures ∙ c.if-is_told.false))
