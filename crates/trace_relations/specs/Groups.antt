-- Calls of one caller to the same, in groups.
use Rattle.std.specs.Prelude.{◌≡◌, ℕ, ◌&&◌, List, Bool, true, length, nat_eq, not, is_some, Some, slice_get, unwrap_or, filter}
use Rattle.std.specs.List.{list_any}
use Rattle.trace_relations.specs.declared.call_groups.Group.{Group}
use Rattle.trace_relations.specs.declared.call_groups.Groups.{Groups}
use Rattle.trace_relations.specs.Attempts.{Attempts, CallsOf, is_failed_call, is_same_call, same_caller}
use Rattle.trace_relations.specs.FreePlaces.{AreFree}
use Rattle.trace_relations.specs.Groupings.{number_in}

-- the other is a call of the same caller to the same
abbrev pub is_of_group : CallsOf → ℕ → ℕ → Bool
is_of_group calls call other = same_caller (calls.callers call) (calls.callers other) && is_same_call (slice_get calls.spans call) (slice_get calls.spans other)

-- the calls of the group of one, in the order of starts
abbrev pub group_of : CallsOf → List ℕ → ℕ → List ℕ
group_of calls order call = filter (is_of_group calls call) order

-- whether the call at a place of a group tries no other
abbrev pub is_free : Attempts → List ℕ → ℕ → Bool
is_free attempts group number = not (is_some (attempts.previous (unwrap_or (slice_get group number) 0)))

-- the group of a call has a number
pub record HasGroup (calls : CallsOf) (order : List ℕ) (attempts : Attempts) (call : ℕ) (groups : Groups) : Type 0 where
  pub number : ℕ
  pub group : Group
  pub number_is : number_in groups.of_spans.items call ≡ Some number
  pub there : slice_get groups.groups.items number ≡ Some group
  pub calls_are : group.calls.items ≡ group_of calls order call
  pub free_are : AreFree group.free (length group.calls.items) (is_free attempts group.calls.items)

-- a call of the order, which failed
pub record IsFailed (calls : CallsOf) (order : List ℕ) (call : ℕ) : Type 0 where
  pub failed : is_failed_call calls call ≡ true
  pub among : list_any (nat_eq call) order ≡ true

-- each call that failed has its group, and the calls of one group have one number
pub record AreGroups (calls : CallsOf) (order : List ℕ) (attempts : Attempts) (groups : Groups) : Type 0 where
  pub each : (call : ℕ) → IsFailed calls order call → HasGroup calls order attempts call groups
  pub alike : (call other number : ℕ) → IsFailed calls order call → IsFailed calls order other → is_of_group calls call other ≡ true → number_in groups.of_spans.items call ≡ Some number → number_in groups.of_spans.items other ≡ Some number
