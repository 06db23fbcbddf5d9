-- What edits make of a plain graph, or the refusal.
use Rattle.std.specs.Prelude.{ℕ, ◌≡◌, not, ◌&&◌, List, [], ◌∷◌, ◌++◌, length, Option, Some, None, is_some, slice_set, Result, Ok, Err, position}
use Rattle.act_expr.specs.Expression.{Expression}
use Rattle.act_expr.specs.declared.outcome.Outcome.{Outcome}
use Rattle.stage_graph.specs.declared.checks.Checks.{Checks}
use Rattle.stage_graph.specs.declared.end.End.{End}
use Rattle.stage_graph.specs.declared.stage.Stage.{Stage}
use Rattle.stage_graph.specs.declared.stage.Spec.{Spec}
use Rattle.stage_graph.specs.declared.edit.Edit.{Edit}
use Rattle.stage_graph.specs.declared.edit.Edit.TheVariants.{PinResult, PinMoment, SetTimes, SetAction, SetEnds, Add, Remove, Rewire}
use Rattle.stage_graph.specs.declared.fault.Refusal.{Refusal}
use Rattle.stage_graph.specs.declared.fault.Refusal.TheVariants.{NoStage, InUse}
use Rattle.stage_graph.specs.declared.fault.EditFault.{EditFault}
use Rattle.stage_graph.specs.declared.fault.EditFault.TheVariants.{Refused, Memory}
use Rattle.stage_graph.specs.Operations.{has_action}
use Rattle.stage_graph.specs.Plain.{PlainGraph, place_named, stage_named, uses}
use Rattle.stage_graph.specs.Checks.{passing, first_refusal, checks_of, has_arity, are_known, are_few, is_tick, is_pin, are_ends, are_after, action_fault}
use Rattle.stage_graph.specs.Names.{places_of, stage_of}

abbrev pub unless_refused : {A : Type 0} → Option Refusal → A → Result A Refusal
unless_refused None value = Ok value
unless_refused (Some refusal) value = Err refusal

-- the value, or the first of the checks that fails
abbrev pub allowed : {A : Type 0} → Checks → A → Result A Refusal
allowed checks value = unless_refused (first_refusal checks) value

-- the fault is the refusal, or out of memory
abbrev pub IsFaultOf : Option Refusal → EditFault → Type 0
IsFaultOf first (Refused refusal) = first ≡ Some refusal
IsFaultOf first Memory = Unit {0}

-- ---- the stage that an edit names, with the edit applied

abbrev pub with_result : Option Outcome → Stage → Result Stage Refusal
with_result result stage = Ok (record stage { pin_result = result })

abbrev pub with_moment : Option ℕ → Stage → Result Stage Refusal
with_moment moment stage = allowed (record passing { within = is_pin moment }) (record stage { pin_moment = moment })

abbrev pub with_times : ℕ → ℕ → Stage → Result Stage Refusal
with_times queued runs stage =
    allowed (record passing { within = is_tick queued && is_tick runs; acts = has_action stage.op }) (record stage { queued = queued; runs = runs })

abbrev pub with_action : Expression → Stage → Result Stage Refusal
with_action action stage =
    allowed (record passing { acts = has_action stage.op; action = action_fault (Some action) }) (record stage { action = Some action })

abbrev pub with_ends : List End → Stage → Result Stage Refusal
with_ends ends stage =
    allowed (record passing { within = are_ends ends; in_time = are_after stage.created ends }) (record stage { ends = ends })

-- where `find` gives the place of a name
abbrev pub with_feeds : (List ℕ → Option ℕ) → List (List ℕ) → List (List ℕ) → Stage → Result Stage Refusal
with_feeds find sources inner stage =
    allowed (record passing {
      arity = has_arity stage.op (length sources) (length inner);
      known = are_known find sources && are_known find inner;
      within = are_few (length sources) && are_few (length inner);
    }) (record stage { sources = places_of find sources; inner = places_of find inner })

-- what an edit makes of the stage that it names; to add and to remove change no stage
abbrev pub stage_edit : (List ℕ → Option ℕ) → Edit → Stage → Result Stage Refusal
stage_edit find (PinResult name result) stage = with_result result stage
stage_edit find (PinMoment name moment) stage = with_moment moment stage
stage_edit find (SetTimes name queued runs) stage = with_times queued runs stage
stage_edit find (SetAction name action) stage = with_action action stage
stage_edit find (SetEnds name ends) stage = with_ends ends stage
stage_edit find (Rewire name sources inner) stage = with_feeds find sources inner stage
stage_edit find (Add spec) stage = Ok stage
stage_edit find (Remove name) stage = Ok stage

-- ---- the graph, with an edit applied

-- the stage takes the place of the one that stood there
abbrev pub standing : PlainGraph → Result Stage Refusal → Result PlainGraph Refusal
standing graph (Ok stage) = Ok (record graph { places = slice_set graph.places stage.place (Some stage) })
standing graph (Err refusal) = Err refusal

abbrev pub changed_at : PlainGraph → Edit → Option Stage → Result PlainGraph Refusal
changed_at graph edit None = Err NoStage
changed_at graph edit (Some stage) = standing graph (stage_edit (place_named graph.places) edit stage)

-- the edit changes the stage of a name
abbrev pub changed_stage : PlainGraph → List ℕ → Edit → Result PlainGraph Refusal
changed_stage graph name edit = changed_at graph edit (stage_named graph.places name)

-- the stage stands at a new place
abbrev pub appended : PlainGraph → Stage → PlainGraph
appended graph stage = record graph { places = graph.places ++ Some stage ∷ [] }

abbrev pub added : Spec → PlainGraph → Result PlainGraph Refusal
added spec graph =
    let find : List ℕ → Option ℕ = place_named graph.places in
    allowed (checks_of (not (is_some (find spec.name))) find (length graph.places) spec) (appended graph (stage_of find (length graph.places) spec))

-- the first dependent of the place: the first place whose stage has it as a feed
abbrev pub first_dependent : List (Option Stage) → ℕ → Option ℕ
first_dependent places place = position (uses place) places

abbrev pub unless_used : PlainGraph → ℕ → Option ℕ → Result PlainGraph Refusal
unless_used graph place None = Ok (record graph { places = slice_set graph.places place None })
unless_used graph place (Some dependent) = Err (InUse dependent)

abbrev pub removed_at : PlainGraph → Option ℕ → Result PlainGraph Refusal
removed_at graph None = Err NoStage
removed_at graph (Some place) = unless_used graph place (first_dependent graph.places place)

-- what one edit makes of the graph
abbrev pub edited : Edit → PlainGraph → Result PlainGraph Refusal
edited (Add spec) graph = added spec graph
edited (Remove name) graph = removed_at graph (place_named graph.places name)
edited (PinResult name result) graph = changed_stage graph name (PinResult name result)
edited (PinMoment name moment) graph = changed_stage graph name (PinMoment name moment)
edited (SetTimes name queued runs) graph = changed_stage graph name (SetTimes name queued runs)
edited (SetAction name action) graph = changed_stage graph name (SetAction name action)
edited (SetEnds name ends) graph = changed_stage graph name (SetEnds name ends)
edited (Rewire name sources inner) graph = changed_stage graph name (Rewire name sources inner)

-- the result is the answer, or out of memory
abbrev pub IsAnswer : {A : Type 0} → Result A EditFault → Result A Refusal → Type 0
IsAnswer (Ok value) answer = answer ≡ Ok value
IsAnswer (Err (Refused refusal)) answer = answer ≡ Err refusal
IsAnswer (Err Memory) answer = Unit {0}
