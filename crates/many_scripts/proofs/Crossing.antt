-- Which parts of a seat may be sent to another thread.
use denote.RattleType.{RattleType}
use denote.Ref.{NamedLft}
use denote.Param.Send.{IsSend, IsSync, sendable}
use denote.Param.SendFields.{declared_send}
use Rattle.std.proofs.Crossing.{crosses}
use Rattle.std.specs.declared.sync.ledger.Ledger as Ledger
use Rattle.desk.proofs.Crossing.{client_send, desk_sync}
use Rattle.desk.proofs.SharedCrossing.{states_send, states_sync, ranks_send, ranks_sync, dependents_send, dependents_sync, stages_send, stages_sync}
use Rattle.desk.specs.declared.name.Naming as Naming
use Rattle.many_scripts.specs.contracts.fault.ManyFault as many_fault
use Rattle.many_scripts.specs.contracts.seats.Seat as seat

many_fault_send : IsSend many_fault.the_row
many_fault_send = search (sendable, crosses) depth 60 fits 100000

pub seat_send : (κ : NamedLft) (N H R : RattleType) (gn : Naming.Ghosts N.Denot) (gl : Ledger.Ghosts N.Denot)
    → IsSend N → IsSync N → IsSend H → IsSync H → IsSend R → IsSend (seat.the_row κ N H R gn gl)
seat_send κ N H R gn gl sn yn sh yh sr = declared_send (seat.the_type κ N H R gn gl) (
  search sendable,
  (
    search (sendable, crosses) depth 60 fits 100000,
    (
      search (sendable, desk_sync, states_send, states_sync, ranks_send, ranks_sync, dependents_send, dependents_sync, stages_send, stages_sync) depth 60 fits 100000,
      (
        search sendable,
        (
          search sendable,
          (
            search (sendable, client_send, states_send, states_sync, ranks_send, ranks_sync, dependents_send, dependents_sync, stages_send, stages_sync) depth 60 fits 100000,
            (
              search sendable,
              (search (sendable, crosses, many_fault_send) depth 60 fits 100000, tt),
            ),
          ),
        ),
      ),
    ),
  ),
)
