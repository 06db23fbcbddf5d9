use Rattle.std.proofs.Common.{◌∷◌, [], ap, codes, refl}
use Rattle.stage_graph.specs.Texts.{op_text}
use Rattle.report_rows.specs.declared.row.Row.TheVariants as a_row
use Rattle.report_json.specs.Json.{count, optional, outcome_json, text}
use Rattle.report_json.specs.Rows.{moment_in, outcome_in, row_members}
use Rattle.report_json.proofs.Pushed.{member_is, next_row, object_told, one_row}
use Rattle.report_json.proofs.rows.push_state.Goals as goal

pub returns : goal.returns
returns c =
    let standing = c.args.standing.now in
    object_told
    ((codes "moment", optional count (moment_in standing)) ∷ (codes "name", text c.args.name.now) ∷ (codes "op", text (op_text c.args.op))
    ∷ (codes "outcome", optional outcome_json (outcome_in standing)) ∷ (codes "rank", count c.args.rank) ∷ [])
    refl c.end_object.result (row_members (a_row.State c.args.name.now c.args.op c.args.rank standing)) _ _ _ _ refl c.in_ok-begin_object.ensures
    (next_row _ _ _ _ _ _
    (next_row _ _ _ _ _ _
    (next_row _ _ _ _ _ _
    (next_row _ _ _ _ _ _
    (one_row _ _ _ _ c.in_ok-push_moment.ensures)
    c.in_ok-text.ensures)
    (member_is _ _ _ _ _ (ap text c.text-op.ensures) c.in_ok-text-2.ensures))
    c.in_ok-push_outcome.ensures)
    (member_is _ _ _ _ _ (ap count c.from.ensures) c.in_ok-count.ensures))
    c.end_object.ensures
