use Rattle.std.proofs.Common.{◌∷◌, [], ap, codes, refl}
use Rattle.time_sweep.specs.declared.haste.Part.TheVariants.{Queue}
use Rattle.report_json.specs.Heads.{left_members}
use Rattle.report_json.specs.Json.{count}
use Rattle.report_json.proofs.Pushed.{member_is, object_told, one_row}
use Rattle.report_json.proofs.haste.push_queue.Goals as goal

pub returns : goal.returns
returns c =
    object_told ((codes "queued", count c.args.percent) ∷ []) refl
    c.end_object.result (left_members Queue c.args.percent) _ _ _ _ refl c.in_ok-begin_object.ensures
    (one_row _ _ _ _ (member_is _ _ _ _ _ (ap count c.from-percent.ensures) c.in_ok-count.ensures))
    c.end_object.ensures
