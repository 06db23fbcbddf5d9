use denote.Param.Send.{param_sync, arg_sync}
use Rattle.version_store.proofs.Crossing.{version_sync}
use Rattle.time_sweep.proofs.Crossing.{captures_marked_sync, captures_sync, parts_sync}
use Rattle.time_sweep.proofs.trials.tried.Goals as goal

pub run-answer-requires-sync-F : goal.run-answer-requires-sync-F
run-answer-requires-sync-F g c κs within = search (param_sync, arg_sync, captures_sync, captures_marked_sync, parts_sync, version_sync)
