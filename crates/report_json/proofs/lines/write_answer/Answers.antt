use Rattle.std.proofs.Common.{◌≤◌, ap, subst, sym, ◌∙◌}
use Rattle.serde_json.specs.Data.{Data, depth}
use Rattle.serde_json.specs.Read.{max_depth}
use Rattle.serde_json.specs.Written.{has_float}
use Rattle.serde_json.specs.View.{view}
use Rattle.text_io.proofs.Written.{AppendsPrefix-none}
use Rattle.report_json.proofs.Exact.{at_line_exact}
use Rattle.report_json.proofs.Listing.{on_err}
use Rattle.report_json.proofs.lines.write_answer.Goals as goal

pub returns-in_err-numbered-clause-err : goal.returns-in_err-numbered-clause-err
returns-in_err-numbered-clause-err g c = on_err _ (AppendsPrefix-none _ _)

pub returns-in_err-text-clause-err : goal.returns-in_err-text-clause-err
returns-in_err-text-clause-err g c = on_err _ (AppendsPrefix-none _ _)

pub line_of-requires-clause-exact : goal.line_of-requires-clause-exact
line_of-requires-clause-exact g c =
    ap has_float c.in_ok-numbered.ensures
    ∙ (at_line_exact 126 c.args.line (view c.args.answer) (record { no_float = c.requires.exact; shallow = c.requires.shallow })).no_float

pub line_of-requires-clause-shallow : goal.line_of-requires-clause-shallow
line_of-requires-clause-shallow g c =
    subst (λ (d : Data). depth d ≤ max_depth) (sym c.in_ok-numbered.ensures)
    (at_line_exact 126 c.args.line (view c.args.answer) (record { no_float = c.requires.exact; shallow = c.requires.shallow })).shallow
