use Rattle.std.proofs.Common.{◌∷◌, [], codes, refl}
use Rattle.report_json.specs.Json.{count, optional, outcome_json}
use Rattle.report_json.specs.Rows.{moment_in, outcome_in, own_members}
use Rattle.report_json.proofs.Pushed.{next_row, object_told, one_row}
use Rattle.report_json.proofs.rows.push_own.Goals as goal

pub returns : goal.returns
returns c =
    let standing = c.args.standing.now in
    object_told
    ((codes "moment", optional count (moment_in standing)) ∷ (codes "outcome", optional outcome_json (outcome_in standing)) ∷ (codes "queued", count c.args.queued)
    ∷ (codes "ran", count c.args.ran) ∷ [])
    refl c.end_object.result (own_members c.args.queued c.args.ran standing) _ _ _ _ refl c.in_ok-begin_object.ensures
    (next_row _ _ _ _ _ _
    (next_row _ _ _ _ _ _
    (next_row _ _ _ _ _ _
    (one_row _ _ _ _ c.in_ok-push_moment.ensures)
    c.in_ok-push_outcome.ensures)
    c.in_ok-count.ensures)
    c.in_ok-count-2.ensures)
    c.end_object.ensures
