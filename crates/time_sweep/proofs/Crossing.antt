-- What the closure that makes trials captures may be shared by threads, if the version may.
use mathlib.Core.List.{[], ◌∷◌}
use mir.Syntax.{Sym}
use denote.Builtin.{One}
use denote.RattleType.{RattleType}
use denote.Ref.{NamedLft}
use denote.Param.Send.{IsSync, sendable}
use denote.Param.SendFields.{declared_sync}
use denote.Struct.Field.{shr_ref_field}
use denote.Struct.Tuple.{TupleAt}
use Rattle.std.proofs.Crossing.{crosses}
use Rattle.std.specs.contracts.alloc.Global as Heap
use Rattle.std.below.core.specs.contracts.marker.ClosureMark as mark
use Rattle.act_expr.proofs.Crossing.{expr_sync}
use Rattle.stage_graph.proofs.Crossing.{name_sync, places_sync, outcome_sync, ends_sync}
use Rattle.stage_graph.specs.contracts.stage.Stage as stage
use Rattle.time_sweep.specs.contracts.parts.Parts as parts
use Rattle.time_sweep.specs.contracts.standing.Standing as standing
use Rattle.time_sweep.specs.contracts.trial_start.TrialStart as start

stage_sync : IsSync stage.the_row
stage_sync = search (sendable, crosses, name_sync, places_sync, outcome_sync, ends_sync, expr_sync) depth 60 fits 100000

standing_sync : (ℓ : NamedLft) → IsSync (standing.the_row ℓ)
standing_sync ℓ = search (sendable, crosses, stage_sync) depth 60 fits 100000

pub start_sync : (ℓ : NamedLft) → IsSync (start.the_row ℓ)
start_sync ℓ = search (sendable, crosses, standing_sync) depth 60 fits 100000

pub parts_sync : (ℓ : NamedLft) → IsSync (parts.the_row ℓ)
parts_sync ℓ = declared_sync (parts.the_type ℓ) (start_sync ℓ, (search (sendable, crosses) depth 60 fits 100000, (search sendable, (search (sendable, crosses) depth 60 fits 100000, tt))))

-- V: the version, W: what the trials start from
pub captures_sync : (ν : Sym) (ℓ ℓ' ℓ'' : NamedLft) (V W : RattleType) (one : One V.mir) (two : One W.mir) → IsSync V → IsSync W
    → IsSync (TupleAt ν ((shr_ref_field ℓ Heap.the_row tt).row ∷ (shr_ref_field ℓ' V one).row ∷ (shr_ref_field ℓ'' W two).row ∷ []))
captures_sync ν ℓ ℓ' ℓ'' V W one two sync also = search sendable depth 60 fits 100000

-- M: the types that only the closure's code names
pub captures_marked_sync : (ν : Sym) (ℓ ℓ' ℓ'' : NamedLft) (V W M : RattleType) (one : One V.mir) (two : One W.mir) → IsSync V → IsSync W
    → IsSync (TupleAt ν ((shr_ref_field ℓ Heap.the_row tt).row ∷ (shr_ref_field ℓ' V one).row ∷ (shr_ref_field ℓ'' W two).row ∷ mark.the_row M ∷ []))
captures_marked_sync ν ℓ ℓ' ℓ'' V W M one two sync also = search sendable depth 60 fits 100000
