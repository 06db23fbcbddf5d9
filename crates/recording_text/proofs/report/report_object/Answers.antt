use Rattle.std.proofs.Common.{◌∙◌, ap, ◌++◌, [], ◌∷◌}
use Rattle.json.specs.Print.{print}
use Rattle.json.specs.Tree.{json_tokens}
use Rattle.recording_text.specs.Reports.{report_json, report_object}
use Rattle.recording_text.proofs.report.report_object.Goals as goal

pub returns : goal.returns
unfolding report_object
returns g c =
    let tokens = json_tokens (report_json c.args.answered c.args.number c.args.graph.now) in
    c.in_ok-push.ensures.items
    ∙ ap (λ l. l ++ 10 ∷ []) (c.into_bytes-bytes.ensures ∙ ap print (c.in_ok-push_report.ensures ∙ ap (λ l. l ++ tokens) c.in_ok-line.ensures))
