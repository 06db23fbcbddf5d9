-- The checks of a stage, one by one, and the order in which they are made.
use Rattle.std.specs.Prelude.{ℕ, ◌^◌, Bool, true, false, not, ◌||◌, ◌&&◌, ◌==◌, nat_eq, nat_lt, nat_le, if◌then◌else◌, List, [], ◌∷◌, length, Option, Some, None, Ok, Err, is_some, Result, ⊤}
use Rattle.std.specs.Char.{is_ascii_alphanumeric}
use Rattle.std.specs.List.{list_all}
use Rattle.act_expr.specs.Expression.{Expression}
use Rattle.act_expr.specs.Meaning.{check}
use Rattle.act_expr.specs.declared.expr.ExprFault.{ExprFault}
use Rattle.stage_graph.specs.declared.op.Op.{Op}
use Rattle.stage_graph.specs.declared.end.Act.{Act}
use Rattle.stage_graph.specs.declared.end.Act.TheVariants.{Complete, CompleteExceptionally, Cancel, OrTimeout, CompleteOnTimeout}
use Rattle.stage_graph.specs.declared.end.End.{End}
use Rattle.stage_graph.specs.declared.stage.Spec.{Spec}
use Rattle.stage_graph.specs.declared.checks.Checks.{Checks}
use Rattle.stage_graph.specs.declared.fault.Refusal.{Refusal}
use Rattle.stage_graph.specs.declared.fault.Refusal.TheVariants.{NameTaken, BadName, Arity, NoSource, Limit, EndBeforeCreated, NoAction, Expr}
use Rattle.stage_graph.specs.Operations.{source_count, picks, has_action}

-- an ASCII letter or digit, or `_`
abbrev pub is_first_byte : ℕ → Bool
is_first_byte b = is_ascii_alphanumeric b || b == 95

-- an ASCII letter or digit, `_`, `-` or `.`
abbrev pub is_name_byte : ℕ → Bool
is_name_byte b = is_first_byte b || (b == 45 || b == 46)

abbrev pub begins_well : List ℕ → Bool
begins_well [] = false
begins_well (b ∷ bs) = is_first_byte b

-- a name of a stage
abbrev pub is_name : List ℕ → Bool
is_name text = begins_well text && (nat_le (length text) 64 && list_all is_name_byte text)

-- an operation with this number of sources where the number is fixed
abbrev pub takes_count : Option ℕ → ℕ → Bool
takes_count None count = true
takes_count (Some fixed) count = nat_eq fixed count

-- as many sources as the operation has, and inner stages only where it picks one
abbrev pub has_arity : Op → ℕ → ℕ → Bool
has_arity op sources inner = takes_count (source_count op) sources && (picks op || nat_eq inner 0)

-- an action exactly where the operation has one
abbrev pub fits_action : Op → Option Expression → Bool
fits_action op None = not (has_action op)
fits_action op (Some action) = has_action op

-- each of the names is found
abbrev pub are_known : (List ℕ → Option ℕ) → List (List ℕ) → Bool
are_known find names = list_all (λ name. is_some (find name)) names

-- not too many stages
abbrev pub are_few : ℕ → Bool
are_few count = nat_le count 1024

-- a place of a graph
abbrev pub is_place : ℕ → Bool
is_place place = nat_lt place 65536

-- no later than the last tick
abbrev pub is_tick : ℕ → Bool
is_tick ticks = nat_le ticks (2 ^ 40)

abbrev pub is_pin : Option ℕ → Bool
is_pin None = true
is_pin (Some moment) = is_tick moment

-- how long after its `at` an end acts
abbrev pub delay_of : Act → ℕ
delay_of (Complete value) = 0
delay_of (CompleteExceptionally name) = 0
delay_of Cancel = 0
delay_of (OrTimeout delay) = delay
delay_of (CompleteOnTimeout delay value) = delay

abbrev pub is_end : End → Bool
is_end end = is_tick end.at && is_tick (delay_of end.act)

-- not too many ends, and none too late
abbrev pub are_ends : List End → Bool
are_ends ends = nat_le (length ends) 16 && list_all is_end ends

-- no end is set before the creation
abbrev pub are_after : ℕ → List End → Bool
are_after created ends = list_all (λ end. nat_le created end.at) ends

-- time only where the operation has an action
abbrev pub fits_times : Op → ℕ → ℕ → Bool
fits_times op queued runs = has_action op || (nat_eq queued 0 && nat_eq runs 0)

abbrev pub fault_in : Result ⊤ ExprFault → Option ExprFault
fault_in (Ok fine) = None
fault_in (Err fault) = Some fault

-- what is wrong with an action
abbrev pub action_fault : Option Expression → Option ExprFault
action_fault None = None
action_fault (Some action) = fault_in (check action)

-- the checks that all pass
abbrev pub passing : Checks
passing = record {
  free = true;
  named = true;
  arity = true;
  known = true;
  within = true;
  in_time = true;
  acts = true;
  action = None;
}

abbrev pub action_refusal : Option ExprFault → Option Refusal
action_refusal None = None
action_refusal (Some fault) = Some (Expr fault)

-- the first check that fails, in the order of all refusals
abbrev pub first_refusal : Checks → Option Refusal
first_refusal checks =
    if not checks.free then Some NameTaken
    else (if not checks.named then Some BadName
    else (if not checks.arity then Some Arity
    else (if not checks.known then Some NoSource
    else (if not checks.within then Some Limit
    else (if not checks.in_time then Some EndBeforeCreated
    else (if not checks.acts then Some NoAction
    else action_refusal checks.action))))))

-- the numbers of a stage that is to stand at a place
abbrev pub is_within : ℕ → Spec → Bool
is_within place spec =
    is_place place && (are_few (length spec.sources) && (are_few (length spec.inner)
    && (is_tick spec.created && (is_tick spec.queued && (is_tick spec.runs && (is_pin spec.pin_moment && are_ends spec.ends))))))

-- the checks of a stage that is to stand at a place, as far as they depend only on the stage
abbrev pub checks_alone : ℕ → Spec → Checks
checks_alone place spec = record {
  free = true;
  named = is_name spec.name;
  arity = has_arity spec.op (length spec.sources) (length spec.inner) && fits_action spec.op spec.action;
  known = true;
  within = is_within place spec;
  in_time = are_after spec.created spec.ends;
  acts = fits_times spec.op spec.queued spec.runs;
  action = action_fault spec.action;
}

-- the checks of a whole stage, where `find` gives the place of a name
abbrev pub checks_of : Bool → (List ℕ → Option ℕ) → ℕ → Spec → Checks
checks_of free find place spec = record (checks_alone place spec) { free = free; known = are_known find spec.sources && are_known find spec.inner }
