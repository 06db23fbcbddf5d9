-- What is written of a summary says it, and what says a summary says one.
use Rattle.std.proofs.Common.{ℕ, ◌≡◌, List, [], ◌∷◌, Option, Some, None, map, sym, refl, ap, ◌∙◌}
use Rattle.std.specs.List.{AllZip}
use Rattle.std.specs.Prelude.{codes}
use Rattle.serde_json.specs.Data.{Data, string}
use Rattle.serde_json.specs.Find.{get}
use Rattle.fleet_summary.specs.declared.facts.Failure.{Failure}
use Rattle.fleet_summary.specs.declared.group.GroupCounts.{GroupCounts}
use Rattle.fleet_summary.specs.declared.replies.Replies.{Replies}
use Rattle.fleet_summary.specs.declared.group_by.GroupBy.{GroupBy}
use Rattle.fleet_summary.specs.declared.group_by.GroupBy.TheVariants.{Span, Service}
use Rattle.fleet_text.specs.declared.part.PartSummary.{PartSummary}
use Rattle.fleet_text.specs.Json.{entry_json, failure_json, failures_json, group_json, grouped_json, groups_json, histogram_json, part_json, replies_json, text_or_null}
use Rattle.json_objects.specs.Objects.{count_json}
use Rattle.fleet_text.specs.Says.{SaysBasis, SaysEntry, SaysFailure, SaysFailures, SaysGroup, SaysGroups, SaysHistogram, SaysIn, SaysPart, SaysReplies, SaysSummary}
use Rattle.fleet_text.proofs.ReadLists.{SaysOne, list_one}

-- ---- what is written

each_written : {X : Type 0} (says : Data → X → Type 0) (json : X → Data) → ((x : X) → says (json x) x) → (xs : List X) → AllZip says (map json xs) xs
each_written says json own [] = tt
each_written says json own (x ∷ xs) = (own x, each_written says json own xs)

histogram_written : (histogram : List (ℕ × ℕ)) → SaysHistogram (histogram_json histogram) histogram
histogram_written histogram = record { items = map entry_json histogram; found = refl; each = each_written SaysEntry entry_json (λ entry. refl) histogram }

group_written : (group : List ℕ × GroupCounts) → SaysGroup (group_json group) group
group_written group = record {
  name = refl;
  traces = refl;
  spans = refl;
  paths = refl;
  sooner = refl;
  ran = record { own = histogram_json group.1.ran; found = refl; said = histogram_written group.1.ran };
  queued = record { own = histogram_json group.1.queued; found = refl; said = histogram_written group.1.queued };
  times = record { own = histogram_json group.1.times; found = refl; said = histogram_written group.1.times };
  times_then = record { own = histogram_json group.1.times_then; found = refl; said = histogram_written group.1.times_then };
}

groups_written : (groups : List (List ℕ × GroupCounts)) → SaysGroups (groups_json groups) groups
groups_written groups = record { items = map group_json groups; found = refl; each = each_written SaysGroup group_json group_written groups }

failure_written : (failure : Failure × ℕ) → SaysFailure (failure_json failure) failure
failure_written failure = record { exception = refl; group = refl; replies = refl }

failures_written : (failures : List (Failure × ℕ)) → SaysFailures (failures_json failures) failures
failures_written failures = record { items = map failure_json failures; found = refl; each = each_written SaysFailure failure_json failure_written failures }

replies_written : (replies : Replies) → SaysReplies (replies_json replies) replies
replies_written replies = record { count = refl; failed = refl; times = record { own = histogram_json replies.times; found = refl; said = histogram_written replies.times } }

pub part_written : (part : PartSummary) → SaysPart (part_json part) part
part_written part = record {
  form = refl;
  basis = record { by = refl; reply = refl; unit = refl; tried = refl };
  summary = record {
    replies = record { own = replies_json part.summary.replies; found = refl; said = replies_written part.summary.replies };
    groups = record { own = groups_json part.summary.groups; found = refl; said = groups_written part.summary.groups };
    failures = record { own = failures_json part.summary.failures; found = refl; said = failures_written part.summary.failures };
  };
}

-- ---- what says one value at most

pub entry_one : SaysOne SaysEntry
entry_one d x y is also =
    let same : entry_json x ≡ entry_json y = sym is ∙ also in
    let step : x.0 ≡ y.0 = cc in
    let number : x.1 ≡ y.1 = cc in
    λ i. (step i, number i)

in_one : {X : Type 0} (says : Data → X → Type 0) → SaysOne says → (name : List ℕ) (d : Data) (x y : X) → SaysIn says name d x → SaysIn says name d y → x ≡ y
in_one says one name d x y is also =
    let same : is.own ≡ also.own = cc (sym is.found ∙ also.found) in
    one is.own x y is.said (rw same also.said)

pub histogram_one : SaysOne SaysHistogram
histogram_one = list_one SaysEntry entry_one

count_one : (name : List ℕ) (d : Data) (x y : ℕ) → get name d ≡ Some (count_json x) → get name d ≡ Some (count_json y) → x ≡ y
count_one name d x y is also = let same : Some (count_json x) ≡ Some (count_json y) = sym is ∙ also in cc

text_one : (name : List ℕ) (d : Data) (x y : List ℕ) → get name d ≡ Some (string x) → get name d ≡ Some (string y) → x ≡ y
text_one name d x y is also = let same : Some (string x) ≡ Some (string y) = sym is ∙ also in cc

text_or_null-one : (x y : Option (List ℕ)) → text_or_null x ≡ text_or_null y → x ≡ y
text_or_null-one None None same = refl
text_or_null-one None (Some y) same = cc
text_or_null-one (Some x) None same = cc
text_or_null-one (Some x) (Some y) same = let texts : x ≡ y = cc in ap (λ text. Some text) texts

optional_one : (name : List ℕ) (d : Data) (x y : Option (List ℕ)) → get name d ≡ Some (text_or_null x) → get name d ≡ Some (text_or_null y) → x ≡ y
optional_one name d x y is also = let same : Some (text_or_null x) ≡ Some (text_or_null y) = sym is ∙ also in text_or_null-one x y cc

grouped-one : (x y : GroupBy) → grouped_json x ≡ grouped_json y → x ≡ y
grouped-one Span Span same = refl
grouped-one Span Service same = cc
grouped-one Service Span same = cc
grouped-one Service Service same = refl

grouped_one : (name : List ℕ) (d : Data) (x y : GroupBy) → get name d ≡ Some (grouped_json x) → get name d ≡ Some (grouped_json y) → x ≡ y
grouped_one name d x y is also = let same : Some (grouped_json x) ≡ Some (grouped_json y) = sym is ∙ also in grouped-one x y cc

pub group_one : SaysOne SaysGroup
group_one d x y is also =
    let name = text_one (codes "name") d x.0 y.0 is.name also.name in
    let traces = count_one (codes "traces") d x.1.traces y.1.traces is.traces also.traces in
    let spans = count_one (codes "spans") d x.1.spans y.1.spans is.spans also.spans in
    let paths = count_one (codes "paths") d x.1.paths y.1.paths is.paths also.paths in
    let soon = count_one (codes "sooner") d x.1.sooner y.1.sooner is.sooner also.sooner in
    let ran = in_one SaysHistogram histogram_one (codes "ran") d x.1.ran y.1.ran is.ran also.ran in
    let queued = in_one SaysHistogram histogram_one (codes "queued") d x.1.queued y.1.queued is.queued also.queued in
    let times = in_one SaysHistogram histogram_one (codes "times") d x.1.times y.1.times is.times also.times in
    let times_then = in_one SaysHistogram histogram_one (codes "timesThen") d x.1.times_then y.1.times_then is.times_then also.times_then in
    λ i. (name i, record { traces = traces i; spans = spans i; paths = paths i; sooner = soon i; ran = ran i; queued = queued i; times = times i; times_then = times_then i })

pub groups_one : SaysOne SaysGroups
groups_one = list_one SaysGroup group_one

pub failure_one : SaysOne SaysFailure
failure_one d x y is also =
    let exception = text_one (codes "exception") d x.0.exception y.0.exception is.exception also.exception in
    let group = text_one (codes "group") d x.0.group y.0.group is.group also.group in
    let replies = count_one (codes "replies") d x.1 y.1 is.replies also.replies in
    λ i. (record { exception = exception i; group = group i }, replies i)

pub failures_one : SaysOne SaysFailures
failures_one = list_one SaysFailure failure_one

pub replies_one : SaysOne SaysReplies
replies_one d x y is also =
    let count = count_one (codes "count") d x.count y.count is.count also.count in
    let failed = count_one (codes "failed") d x.failed y.failed is.failed also.failed in
    let times = in_one SaysHistogram histogram_one (codes "times") d x.times y.times is.times also.times in
    λ i. record { count = count i; failed = failed i; times = times i }

pub basis_one : SaysOne SaysBasis
basis_one d x y is also =
    let by = grouped_one (codes "by") d x.by y.by is.by also.by in
    let reply = optional_one (codes "reply") d x.reply y.reply is.reply also.reply in
    let unit = optional_one (codes "unit") d x.unit y.unit is.unit also.unit in
    let tried = optional_one (codes "try") d x.tried y.tried is.tried also.tried in
    λ i. record { by = by i; reply = reply i; unit = unit i; tried = tried i }

pub summary_one : SaysOne SaysSummary
summary_one d x y is also =
    let replies = in_one SaysReplies replies_one (codes "replies") d x.replies y.replies is.replies also.replies in
    let groups = in_one SaysGroups groups_one (codes "groups") d x.groups y.groups is.groups also.groups in
    let failures = in_one SaysFailures failures_one (codes "failures") d x.failures y.failures is.failures also.failures in
    λ i. record { replies = replies i; groups = groups i; failures = failures i }

pub part_one : SaysOne SaysPart
part_one d x y is also =
    let basis = basis_one d x.basis y.basis is.basis also.basis in
    let summary = summary_one d x.summary y.summary is.summary also.summary in
    λ i. record { basis = basis i; summary = summary i }
