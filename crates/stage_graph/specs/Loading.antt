-- The plain graph that a list of stages with names makes, or the first refusal.
use Rattle.std.specs.Prelude.{ℕ, ◌+◌, ◌≡◌, Bool, false, nat_eq, List, [], ◌∷◌, Option, Some, None, Result, Ok, Err}
use Rattle.act_expr.specs.declared.outcome.Mode.{Mode}
use Rattle.stage_graph.specs.declared.stage.Stage.{Stage}
use Rattle.stage_graph.specs.declared.stage.Spec.{Spec}
use Rattle.stage_graph.specs.declared.fault.Refusal.{Refusal}
use Rattle.stage_graph.specs.declared.fault.Refused.{Refused}
use Rattle.stage_graph.specs.declared.fault.Fault.{Fault}
use Rattle.stage_graph.specs.declared.fault.Fault.TheVariants.{Refused as RefusedAt, Cycle, Memory}
use Rattle.stage_graph.specs.Plain.{PlainGraph}
use Rattle.stage_graph.specs.Checks.{checks_of, first_refusal}
use Rattle.stage_graph.specs.Names.{place_of, stage_of}

-- the name is found first at the place
abbrev pub is_first : ℕ → Option ℕ → Bool
is_first place None = false
is_first place (Some first) = nat_eq first place

abbrev pub refusal_of : (List ℕ → Option ℕ) → ℕ → Spec → Option Refusal
refusal_of find place spec = first_refusal (checks_of (is_first place (find spec.name)) find place spec)

abbrev pub or_later : ℕ → Option Refusal → Option Refused → Option Refused
or_later place (Some refusal) later = Some (record { at = place; refusal = refusal })
or_later place None later = later

-- the first refusal, stage by stage, where the first of these stages stands at a place
abbrev pub first_refused : (List ℕ → Option ℕ) → ℕ → List Spec → Option Refused
first_refused find place [] = None
first_refused find place (spec ∷ specs) = or_later place (refusal_of find place spec) (first_refused find (place + 1) specs)

-- each name is found first at the place of its stage, where the first of these stages stands at a place
abbrev pub AreFirst : (List ℕ → Option ℕ) → ℕ → List Spec → Type 0
AreFirst find place [] = Unit {0}
AreFirst find place (spec ∷ specs) = (find spec.name ≡ Some place) × AreFirst find (place + 1) specs

-- the stages, one after the other
abbrev pub stages_from : (List ℕ → Option ℕ) → ℕ → List Spec → List (Option Stage)
stages_from find place [] = []
stages_from find place (spec ∷ specs) = Some (stage_of find place spec) ∷ stages_from find (place + 1) specs

abbrev pub unless_refused_at : Option Refused → PlainGraph → Result PlainGraph Refused
unless_refused_at None graph = Ok graph
unless_refused_at (Some refused) graph = Err refused

-- the graph that the stages make, before the check for cycles; names are those of the whole list
unfoldable pub loaded : Mode → List Spec → Result PlainGraph Refused
loaded mode specs = unless_refused_at (first_refused (place_of specs) 0 specs) (record { mode = mode; places = stages_from (place_of specs) 0 specs })

-- a fault is the first refusal, or out of memory
abbrev pub IsRefused : Option Refused → Fault → Type 0
IsRefused first (RefusedAt refused) = first ≡ Some refused
IsRefused first (Cycle path) = ⊥
IsRefused first Memory = Unit {0}
