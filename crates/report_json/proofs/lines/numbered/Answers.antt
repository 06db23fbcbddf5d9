use Rattle.std.proofs.Common.{Some, ap, sym, codes, ◌∙◌}
use Rattle.serde_json.specs.Data.{Members, object, put}
use Rattle.serde_json.specs.View.{view}
use Rattle.serde_json.proofs.Views.{view-Object}
use Rattle.report_json.specs.Json.{at_line, count}
use Rattle.report_json.proofs.lines.numbered.Goals as goal

pub returns-in_ok-count-in-Object : goal.returns-in_ok-count-in-Object
returns-in_ok-count-in-Object c =
    c.into_value.ensures
    ∙ ap object c.in_ok-count-in-Object.ensures
    ∙ ap (λ (ms : Members). object (put (codes "line") (count c.args.line) ms)) c.of-object.ensures
    ∙ sym (ap (at_line (Some c.args.line)) (ap view c.in-Object.is ∙ view-Object c.in-Object.members))
