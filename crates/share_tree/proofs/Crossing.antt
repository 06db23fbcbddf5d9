-- A list may be sent to another thread, and lent to it, where its items may be both. The searches need the highest
-- tree as the first variant of the enum: with the lowest first they end at a limit.
use denote.RattleType.{RattleType}
use denote.Param.Send.{IsSend, IsSync, sendable}
use Rattle.std.proofs.Crossing.{crosses}
use Rattle.share_tree.specs.declared.again.Again as Again
use Rattle.share_tree.specs.contracts.shared.Shared as shared

pub shared_send : (T : RattleType) (a : Again.Ghosts T.Denot) → IsSend T → IsSync T → IsSend (shared.the_row T a)
shared_send T a s y = search (sendable, crosses) depth 60 fits 100000

pub shared_sync : (T : RattleType) (a : Again.Ghosts T.Denot) → IsSend T → IsSync T → IsSync (shared.the_row T a)
shared_sync T a s y = search (sendable, crosses) depth 60 fits 100000
