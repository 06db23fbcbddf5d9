use denote.Param.Send.{sendable}
use Rattle.desk.proofs.SharedCrossing.{stages_send, stages_sync}
use Rattle.desk_runs.proofs.runs.on_new_desk.Goals as goal

pub new-archive-requires-send-R-Stages : goal.new-archive-requires-send-R-Stages
new-archive-requires-send-R-Stages g c κs = search (sendable, stages_send)

pub new-archive-requires-sync-R-Stages : goal.new-archive-requires-sync-R-Stages
new-archive-requires-sync-R-Stages g c κs = search (sendable, stages_sync) depth 60 fits 100000
