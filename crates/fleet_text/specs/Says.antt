-- What the JSON of a summary says. A member that a summary has not is passed over.
use Rattle.std.specs.Prelude.{ℕ, ◌≡◌, List, Some, codes}
use Rattle.std.specs.List.{AllZip}
use Rattle.serde_json.specs.Data.{Data, string}
use Rattle.serde_json.specs.Find.{as_array, get}
use Rattle.serde_json.specs.View.{items_of}
use Rattle.fleet_summary.specs.declared.facts.Failure.{Failure}
use Rattle.fleet_summary.specs.declared.group.GroupCounts.{GroupCounts}
use Rattle.fleet_summary.specs.declared.replies.Replies.{Replies}
use Rattle.fleet_summary.specs.declared.summary.Summary.{Summary}
use Rattle.fleet_text.specs.declared.basis.Basis.{Basis}
use Rattle.fleet_text.specs.declared.part.PartSummary.{PartSummary}
use Rattle.fleet_text.specs.Json.{entry_json, grouped_json, text_or_null}
use Rattle.json_objects.specs.Objects.{count_json}

-- an array, whose items say the values of a list one by one
pub record SaysList {X : Type 0} (says : Data → X → Type 0) (d : Data) (values : List X) : Type 0 where
  pub items : List Data
  pub found : as_array d ≡ Some (items_of items)
  pub each : AllZip says items values

-- an object, whose member of a name says a value
pub record SaysIn {X : Type 0} (says : Data → X → Type 0) (name : List ℕ) (d : Data) (value : X) : Type 0 where
  pub own : Data
  pub found : get name d ≡ Some own
  pub said : says own value

abbrev pub SaysEntry : Data → ℕ × ℕ → Type 0
SaysEntry d entry = d ≡ entry_json entry

abbrev pub SaysHistogram : Data → List (ℕ × ℕ) → Type 0
SaysHistogram = SaysList SaysEntry

pub record SaysGroup (d : Data) (group : List ℕ × GroupCounts) : Type 0 where
  pub name : get (codes "name") d ≡ Some (string group.0)
  pub traces : get (codes "traces") d ≡ Some (count_json group.1.traces)
  pub spans : get (codes "spans") d ≡ Some (count_json group.1.spans)
  pub paths : get (codes "paths") d ≡ Some (count_json group.1.paths)
  pub sooner : get (codes "sooner") d ≡ Some (count_json group.1.sooner)
  pub ran : SaysIn SaysHistogram (codes "ran") d group.1.ran
  pub queued : SaysIn SaysHistogram (codes "queued") d group.1.queued
  pub times : SaysIn SaysHistogram (codes "times") d group.1.times
  pub times_then : SaysIn SaysHistogram (codes "timesThen") d group.1.times_then

abbrev pub SaysGroups : Data → List (List ℕ × GroupCounts) → Type 0
SaysGroups = SaysList SaysGroup

pub record SaysFailure (d : Data) (failure : Failure × ℕ) : Type 0 where
  pub exception : get (codes "exception") d ≡ Some (string failure.0.exception)
  pub group : get (codes "group") d ≡ Some (string failure.0.group)
  pub replies : get (codes "replies") d ≡ Some (count_json failure.1)

abbrev pub SaysFailures : Data → List (Failure × ℕ) → Type 0
SaysFailures = SaysList SaysFailure

pub record SaysReplies (d : Data) (replies : Replies) : Type 0 where
  pub count : get (codes "count") d ≡ Some (count_json replies.count)
  pub failed : get (codes "failed") d ≡ Some (count_json replies.failed)
  pub times : SaysIn SaysHistogram (codes "times") d replies.times

pub record SaysBasis (d : Data) (basis : Basis) : Type 0 where
  pub by : get (codes "by") d ≡ Some (grouped_json basis.by)
  pub reply : get (codes "reply") d ≡ Some (text_or_null basis.reply)
  pub unit : get (codes "unit") d ≡ Some (text_or_null basis.unit)
  pub tried : get (codes "try") d ≡ Some (text_or_null basis.tried)

pub record SaysSummary (d : Data) (summary : Summary) : Type 0 where
  pub replies : SaysIn SaysReplies (codes "replies") d summary.replies
  pub groups : SaysIn SaysGroups (codes "groups") d summary.groups
  pub failures : SaysIn SaysFailures (codes "failures") d summary.failures

-- a summary in form 2
pub record SaysPart (d : Data) (part : PartSummary) : Type 0 where
  pub form : get (codes "whatif-fleet") d ≡ Some (count_json 2)
  pub basis : SaysBasis d part.basis
  pub summary : SaysSummary d part.summary
