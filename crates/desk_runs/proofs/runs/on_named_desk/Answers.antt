use denote.Param.Send.{sendable}
use Rattle.desk.proofs.SharedCrossing.{stages_send, stages_sync}
use Rattle.desk_runs.proofs.runs.on_named_desk.Goals as goal

pub text_of_run-requires-send-K-Stages : goal.text_of_run-requires-send-K-Stages
text_of_run-requires-send-K-Stages g c κs within = search (sendable, stages_send)

pub text_of_run-requires-sync-K-Stages : goal.text_of_run-requires-sync-K-Stages
text_of_run-requires-sync-K-Stages g c κs within = search (sendable, stages_sync) depth 60 fits 100000
