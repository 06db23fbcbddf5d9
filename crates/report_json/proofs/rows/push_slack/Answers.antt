use Rattle.std.proofs.Common.{◌∷◌, [], ap, codes, refl}
use Rattle.report_rows.specs.Rows.{latest_start}
use Rattle.report_rows.specs.declared.row.Row.TheVariants as a_row
use Rattle.report_json.specs.Json.{count, optional, text}
use Rattle.report_json.specs.Rows.{row_members}
use Rattle.report_json.proofs.Pushed.{member_is, next_row, object_told, one_row}
use Rattle.report_json.proofs.rows.push_slack.Goals as goal

pub returns : goal.returns
returns c =
    object_told
    ((codes "latest", optional count (latest_start c.args.start c.args.slack)) ∷ (codes "name", text c.args.name.now) ∷ (codes "slack", optional count c.args.slack)
    ∷ (codes "start", count c.args.start) ∷ [])
    refl c.end_object.result (row_members (a_row.Slack c.args.name.now c.args.slack c.args.start)) _ _ _ _ refl c.in_ok-begin_object.ensures
    (next_row _ _ _ _ _ _
    (next_row _ _ _ _ _ _
    (next_row _ _ _ _ _ _
    (one_row _ _ _ _ (member_is _ _ _ _ _ (ap (optional count) c.latest_start-latest.ensures) c.in_ok-optional_count.ensures))
    c.in_ok-text.ensures)
    c.in_ok-optional_count-2.ensures)
    c.in_ok-count.ensures)
    c.end_object.ensures
