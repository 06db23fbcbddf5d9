-- What the closure that makes trials captures may be shared by threads, if the version may.
use denote.Ref.{NamedLft}
use denote.Param.Send.{IsSync, sendable}
use denote.Param.SendFields.{declared_sync}
use Rattle.std.proofs.Crossing.{crosses}
use Rattle.time_sweep.proofs.Crossing.{start_sync}
use Rattle.reply_rescue.specs.contracts.trials.Sought as sought

pub sought_sync : (ℓ : NamedLft) → IsSync (sought.the_row ℓ)
sought_sync ℓ = declared_sync (sought.the_type ℓ) (start_sync ℓ, (search (sendable, crosses) depth 60 fits 100000, (search (sendable, crosses) depth 60 fits 100000, tt)))
