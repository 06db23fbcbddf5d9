-- Which parts of the shared representation may be sent to another thread.
use denote.RattleType.{RattleType}
use denote.Builtin.{u32}
use denote.Param.Send.{IsSend, IsSync, sendable}
use Rattle.std.proofs.Crossing.{crosses}
use Rattle.std.proofs.MapsCrossing.{crosses as maps_cross}
use Rattle.share_tree.specs.declared.again.Again as Again
use Rattle.share_tree.specs.contracts.again.Held as held
use Rattle.share_tree.specs.contracts.again.HeldAgain.TheImpl as held_again
use Rattle.share_tree.specs.contracts.again.U32Again.TheImpl as u32_again
use Rattle.share_tree.specs.contracts.again.OptionAgain.TheImpl as option_again
use Rattle.std.specs.contracts.option.Option as option
use Rattle.stage_graph.specs.contracts.places.Places as places
use Rattle.share_tree.specs.contracts.shared.Shared as shared
use Rattle.act_expr.proofs.Crossing.{expr_send, expr_sync}
use Rattle.stage_graph.proofs.Crossing.{places_send, places_sync, name_send, name_sync, outcome_send, outcome_sync, ends_send, ends_sync}
use Rattle.stage_graph.specs.contracts.stage.Stage as stage
use Rattle.stage_ops.specs.contracts.state.State as state
use Rattle.propagate.specs.contracts.kept.KeptState as kept

shared_send : (T : RattleType) (a : Again.Ghosts T.Denot) → IsSend T → IsSync T → IsSend (shared.the_row T a)
shared_send T a s y = search (sendable, crosses) depth 60 fits 100000

shared_sync : (T : RattleType) (a : Again.Ghosts T.Denot) → IsSend T → IsSync T → IsSync (shared.the_row T a)
shared_sync T a s y = search (sendable, crosses) depth 60 fits 100000

stage_send : IsSend stage.the_row
stage_send = search (sendable, crosses, maps_cross, name_send, outcome_send, ends_send, expr_send) depth 60 fits 100000

stage_sync : IsSync stage.the_row
stage_sync = search (sendable, crosses, maps_cross, name_sync, outcome_sync, ends_sync, expr_sync) depth 60 fits 100000

state_send : IsSend state.the_row
state_send = search (sendable, crosses) depth 60 fits 100000

state_sync : IsSync state.the_row
state_sync = search (sendable, crosses) depth 60 fits 100000

kept_send : IsSend kept.the_row
kept_send = search (sendable, crosses, state_send, state_sync) depth 60 fits 100000

kept_sync : IsSync kept.the_row
kept_sync = search (sendable, crosses, state_send, state_sync) depth 60 fits 100000

-- the shared representation's lists of what is held
abbrev list_of : RattleType → RattleType
list_of T = shared.the_row (held.the_row T) (held_again.ghosts T held_again.no_dict)

abbrev stages : RattleType
stages = shared.the_row (option.the_row (held.the_row stage.the_row)) (option_again.ghosts (held.the_row stage.the_row) (held_again.ghosts stage.the_row held_again.no_dict) option_again.no_dict option_again.no_dict)

abbrev ranks : RattleType
ranks = shared.the_row u32 u32_again.ghosts

list_send : (T : RattleType) → IsSend T → IsSync T → IsSend (list_of T)
list_send T s y = search (sendable, crosses, shared_send) depth 60 fits 100000

list_sync : (T : RattleType) → IsSend T → IsSync T → IsSync (list_of T)
list_sync T s y = search (sendable, crosses, shared_sync) depth 60 fits 100000

pub ranks_send : IsSend ranks
ranks_send = search (sendable, crosses, shared_send) depth 60 fits 100000

pub ranks_sync : IsSync ranks
ranks_sync = search (sendable, crosses, shared_sync) depth 60 fits 100000

pub stages_send : IsSend stages
stages_send = search (sendable, crosses, shared_send, stage_send, stage_sync) depth 60 fits 100000

pub stages_sync : IsSync stages
stages_sync = search (sendable, crosses, shared_sync, stage_send, stage_sync) depth 60 fits 100000

pub states_send : IsSend (list_of kept.the_row)
states_send = list_send kept.the_row kept_send kept_sync

pub states_sync : IsSync (list_of kept.the_row)
states_sync = list_sync kept.the_row kept_send kept_sync

pub dependents_send : IsSend (list_of places.the_row)
dependents_send = list_send places.the_row places_send places_sync

pub dependents_sync : IsSync (list_of places.the_row)
dependents_sync = list_sync places.the_row places_send places_sync
