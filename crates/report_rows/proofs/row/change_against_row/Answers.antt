use Rattle.std.proofs.Common.{Some, ap, ◌∙◌, sym}
use Rattle.std.proofs.lemmas.Bool.{cond-false, cond-true}
use Rattle.report_rows.proofs.row.change_against_row.Goals as goal

pub returns-then-is_changed : goal.returns-then-is_changed
returns-then-is_changed g c = ap Some c.against_row.ensures ∙ sym (cond-true _ _ _ (sym c.is_changed.ensures ∙ c.if-is_changed.true))

pub returns-else-is_changed : goal.returns-else-is_changed
returns-else-is_changed g c = sym (cond-false _ _ _ (sym c.is_changed.ensures ∙ c.if-is_changed.false))
