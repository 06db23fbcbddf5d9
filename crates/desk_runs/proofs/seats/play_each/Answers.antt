use denote.Param.Send.{sendable}
use Rattle.desk_runs.proofs.Crossing.{seat_send}
use Rattle.desk_runs.proofs.seats.play_each.Goals as goal

pub for_each_mut-requires-send-T : goal.for_each_mut-requires-send-T
for_each_mut-requires-send-T g c κs within = let b = c.type_bounds in search (sendable, seat_send)
