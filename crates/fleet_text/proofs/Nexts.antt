-- The next entry of a table that is read, where the JSON says a table that is sound.
use Rattle.std.proofs.Common.{ℕ, ◌≡◌, ◌<◌, List, length, get_or, take, Some, subst}
use Rattle.std.specs.List.{All}
use Rattle.std.specs.Map.{keys_of}
use Rattle.std.specs.Ordering.{nat_cmp}
use Rattle.std.specs.declared.cmp.Ordering.TheVariants.{Less}
use Rattle.std.proofs.lemmas.List.Elements.{All-from_recursion}
use Rattle.serde_json.specs.Data.{Data}
use Rattle.serde_json.specs.Find.{as_array}
use Rattle.serde_json.specs.View.{items_view, view}
use Rattle.serde_json.specs.declared.value.Value.{Value}
use Rattle.fleet_summary.specs.declared.facts.Failure.{Failure}
use Rattle.fleet_summary.specs.declared.group.GroupCounts.{GroupCounts}
use Rattle.fleet_summary.specs.Failures.{IsFailures}
use Rattle.fleet_summary.specs.Groups.{IsGroups}
use Rattle.fleet_summary.specs.Histogram.{IsHistogram}
use Rattle.fleet_summary.specs.Names.{failure_cmp, name_cmp}
use Rattle.fleet_text.specs.Says.{SaysEntry, SaysFailure, SaysFailures, SaysGroup, SaysGroups, SaysHistogram}
use Rattle.fleet_text.proofs.ReadLists.{AreSaid, next_of}
use Rattle.fleet_text.proofs.ReadTables.{IsFailureEntry, IsGroupEntry, IsHistogramEntry, failure-entry, group-entry, histogram-entry}
use Rattle.fleet_text.proofs.Said.{entry_one, failure_one, group_one}

-- the value says an entry, which comes after those that were read
pub record IsNextEntry (value : Value) (now : List (ℕ × ℕ)) : Type 0 where
  pub own : ℕ × ℕ
  pub said : SaysEntry (view value) own
  pub entry : IsHistogramEntry now own.0 own.1

pub entry_next : (d : Data) (values : List Value) (all now : List (ℕ × ℕ)) (index : ℕ) (value : Value) → as_array d ≡ Some (items_view values) → IsHistogram all → SaysHistogram d all → index < length values →
    value ≡ get_or values index value → AreSaid SaysEntry (take index values) now → IsNextEntry value now
entry_next d values all now index value found sound is below there each =
    let next = next_of SaysEntry entry_one d values all now index value found is below there each in
    record { own = next.own; said = next.said; entry = histogram-entry all now next.own next.rest next.is sound }

pub entry_last : (value : Value) (now : List (ℕ × ℕ)) (own : ℕ × ℕ) → IsNextEntry value now → SaysEntry (view value) own → All (λ other. nat_cmp other own.0 ≡ Less) (keys_of now)
entry_last value now own next said =
    subst (λ (entry : ℕ × ℕ). All (λ other. nat_cmp other entry.0 ≡ Less) (keys_of now)) (entry_one (view value) next.own own next.said said)
    (All-from_recursion (λ other. nat_cmp other next.own.0 ≡ Less) (keys_of now) next.entry.before)

-- the value says a group, which comes after those that were read
pub record IsNextGroup (value : Value) (now : List (List ℕ × GroupCounts)) : Type 0 where
  pub own : List ℕ × GroupCounts
  pub said : SaysGroup (view value) own
  pub entry : IsGroupEntry now own.0 own.1

pub group_next : (d : Data) (values : List Value) (all now : List (List ℕ × GroupCounts)) (index : ℕ) (value : Value) → as_array d ≡ Some (items_view values) → IsGroups all → SaysGroups d all → index < length values →
    value ≡ get_or values index value → AreSaid SaysGroup (take index values) now → IsNextGroup value now
group_next d values all now index value found sound is below there each =
    let next = next_of SaysGroup group_one d values all now index value found is below there each in
    record { own = next.own; said = next.said; entry = group-entry all now next.own next.rest next.is sound }

pub group_last : (value : Value) (now : List (List ℕ × GroupCounts)) (own : List ℕ × GroupCounts) → IsNextGroup value now → SaysGroup (view value) own → All (λ other. name_cmp other own.0 ≡ Less) (keys_of now)
group_last value now own next said =
    subst (λ (entry : List ℕ × GroupCounts). All (λ other. name_cmp other entry.0 ≡ Less) (keys_of now)) (group_one (view value) next.own own next.said said)
    (All-from_recursion (λ other. name_cmp other next.own.0 ≡ Less) (keys_of now) next.entry.before)

-- the value says a failure, which comes after those that were read
pub record IsNextFailure (value : Value) (now : List (Failure × ℕ)) : Type 0 where
  pub own : Failure × ℕ
  pub said : SaysFailure (view value) own
  pub entry : IsFailureEntry now own.0 own.1

pub failure_next : (d : Data) (values : List Value) (all now : List (Failure × ℕ)) (index : ℕ) (value : Value) → as_array d ≡ Some (items_view values) → IsFailures all → SaysFailures d all → index < length values →
    value ≡ get_or values index value → AreSaid SaysFailure (take index values) now → IsNextFailure value now
failure_next d values all now index value found sound is below there each =
    let next = next_of SaysFailure failure_one d values all now index value found is below there each in
    record { own = next.own; said = next.said; entry = failure-entry all now next.own next.rest next.is sound }

pub failure_last : (value : Value) (now : List (Failure × ℕ)) (own : Failure × ℕ) → IsNextFailure value now → SaysFailure (view value) own → All (λ other. failure_cmp other own.0 ≡ Less) (keys_of now)
failure_last value now own next said =
    subst (λ (entry : Failure × ℕ). All (λ other. failure_cmp other entry.0 ≡ Less) (keys_of now)) (failure_one (view value) next.own own next.said said)
    (All-from_recursion (λ other. failure_cmp other next.own.0 ≡ Less) (keys_of now) next.entry.before)
