use denote.Param.Send.{param_sync, arg_sync}
use Rattle.version_store.proofs.Crossing.{version_sync}
use Rattle.time_sweep.proofs.Crossing.{captures_sync}
use Rattle.reply_rescue.proofs.Crossing.{sought_sync}
use Rattle.reply_rescue.proofs.rescues.tried.Goals as goal

pub run-answer-requires-sync-F : goal.run-answer-requires-sync-F
run-answer-requires-sync-F g c κs within = search (param_sync, arg_sync, captures_sync, sought_sync, version_sync)
