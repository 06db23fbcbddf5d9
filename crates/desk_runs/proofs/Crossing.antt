-- Which parts of a seat may be sent to another thread, where the name of its desk may be.
use denote.RattleType.{RattleType}
use denote.Ref.{NamedLft}
use denote.Param.Send.{IsSend, IsSync, sendable}
use denote.Param.SendFields.{declared_send}
use Rattle.std.proofs.Crossing.{crosses}
use Rattle.std.specs.declared.sync.ledger.Ledger as Ledger
use Rattle.stage_graph.proofs.Crossing.{edits_send, edits_sync}
use Rattle.desk.proofs.Crossing.{client_send, desk_sync}
use Rattle.desk.proofs.SharedCrossing.{states_send, states_sync, ranks_send, ranks_sync, dependents_send, dependents_sync, stages_send, stages_sync}
use Rattle.desk.specs.declared.name.Naming as Naming
use Rattle.desk_runs.specs.contracts.seats.Seat as seat
use Rattle.desk_runs.specs.contracts.steps.Answer as answer
use Rattle.desk_runs.specs.contracts.steps.Request as request
use Rattle.desk_runs.specs.contracts.steps.Script as script
use Rattle.desk_runs.specs.contracts.steps.Step as step

request_send : IsSend request.the_row
request_send = search (sendable, crosses, edits_send, edits_sync) depth 60 fits 100000

answer_send : IsSend answer.the_row
answer_send = search (sendable, crosses) depth 60 fits 100000

step_send : IsSend step.the_row
step_send = declared_send step.the_type (search sendable, (request_send, (search sendable, (answer_send, tt))))

script_send : IsSend script.the_row
script_send = search (sendable, crosses, step_send) depth 60 fits 100000

pub seat_send : (κ : NamedLft) (N H : RattleType) (gn : Naming.Ghosts N.Denot) (gl : Ledger.Ghosts N.Denot)
    → IsSend N → IsSync N → IsSend H → IsSync H → IsSend (seat.the_row κ N H gn gl)
seat_send κ N H gn gl sn yn sh yh = declared_send (seat.the_type κ N H gn gl) (
  search sendable,
  (
    search (sendable, crosses) depth 60 fits 100000,
    (
      search (sendable, desk_sync, states_send, states_sync, ranks_send, ranks_sync, dependents_send, dependents_sync, stages_send, stages_sync) depth 60 fits 100000,
      (
        search (sendable, crosses) depth 60 fits 100000,
        (
          search (sendable, client_send, states_send, states_sync, ranks_send, ranks_sync, dependents_send, dependents_sync, stages_send, stages_sync) depth 60 fits 100000,
          (search (sendable, script_send), tt),
        ),
      ),
    ),
  ),
)
