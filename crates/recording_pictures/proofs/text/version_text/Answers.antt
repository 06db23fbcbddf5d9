use Rattle.std.proofs.Common.{◌≡◌, Some, option_copied, subst}
use Rattle.stage_graph.specs.Plain.{PlainGraph}
use Rattle.recording_pictures.specs.Pictures.{target_of}
use Rattle.recording_pictures.proofs.Pictured.{live_target}
use Rattle.recording_pictures.proofs.text.version_text.Goals as goal

pub target_text-requires-after_bounds : goal.target_text-requires-after_bounds
target_text-requires-after_bounds g c κs within =
    let P : PlainGraph → Type 0 = λ graph. target_of graph (option_copied c.args.asked.stage) ≡ Some c.in_ok-target.target in
    live_target c.args.version.now.graph (option_copied c.args.asked.stage) c.in_ok-target.target (subst P c.graph.ensures.graph c.in_ok-target.ensures)

pub returns-in-Ok : goal.returns-in-Ok
returns-in-Ok g c =
    let P : PlainGraph → Type 0 = λ graph. target_of graph (option_copied c.args.asked.stage) ≡ Some c.in_ok-target.target in
    record { target = c.in_ok-target.target; found = subst P c.graph.ensures.graph c.in_ok-target.ensures; shown = c.in-Ok.ensures }
