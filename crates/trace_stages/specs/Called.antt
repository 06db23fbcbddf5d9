-- What was called when spans gave up.
use Rattle.std.specs.Prelude.{◌≡◌, ℕ, ◌<◌, ◌==◌, ◌&&◌, List, [], ◌++◌, Bool, is_none, is_some, length, nat_eq, not, if◌then◌else◌, Option, Some, None, Vec, slice_get, filter, map}
use Rattle.std.specs.Option.{option_eq}
use Rattle.std.specs.declared.alloc.Global.{Global}
use Rattle.trace_relations.specs.Ancestry.{parent_at, start_at}
use Rattle.trace_relations.specs.Attempts.{Attempts}
use Rattle.trace_relations.specs.Moments.{interval_at}
use Rattle.trace_relations.specs.Relations.{PlainRelations}
use Rattle.trace_stages.specs.declared.walk.called.Called.{Called}
use Rattle.trace_stages.specs.declared.walk.stage_id.StageId.{StageId}
use Rattle.trace_stages.specs.declared.walk.stage_id.StageId.TheVariants.{Whole, Tried}
use Rattle.trace_stages.specs.Moments.{At}

-- the stage that stands for the end of a call: of one that was tried again what that came to
abbrev pub call_end : Attempts → ℕ → StageId
call_end attempts place = if is_some (attempts.next place) then Tried place else Whole place

abbrev pub is_open : PlainRelations → ℕ → Bool
is_open relations place = is_none (interval_at relations.intervals place).end

abbrev pub called_by : PlainRelations → ℕ → Called
called_by relations place = record { span = place; start = start_at relations.intervals place; stage = call_end relations.attempts place; is_open = is_open relations place }

abbrev pub gave_up : PlainRelations → ℕ → ℕ → Bool
gave_up relations caller place = option_eq nat_eq (parent_at relations.given_up place) (Some caller)

abbrev pub starts : At → Bool
starts at = at.0.1 == 1

-- the spans that start or end at moments
abbrev pub starting : List At → List ℕ
starting moments = map (λ at. at.1.1) (filter starts moments)

abbrev pub ends : At → Bool
ends at = not (starts at)

abbrev pub ending : List At → List ℕ
ending moments = map (λ at. at.1.1) (filter ends moments)

abbrev pub starts_open : PlainRelations → At → Bool
starts_open relations at = starts at && is_open relations at.1.1

-- those that have ended in the order of ends, then those that have not in the order of starts
abbrev pub by_end : PlainRelations → List At → List ℕ
by_end relations moments = ending moments ++ filter (is_open relations) (starting moments)

-- what a span had called when it gave up, in that order
abbrev pub called : PlainRelations → List At → ℕ → List Called
called relations moments caller = map (called_by relations) (filter (gave_up relations caller) (by_end relations moments))

abbrev pub called_in : Option (Vec Called Global) → List Called
called_in None = []
called_in (Some all) = all.items

abbrev pub called_at : List (Vec Called Global) → ℕ → List Called
called_at all span = called_in (slice_get all span)

-- the lists have what each span had called
abbrev pub HasCalled : PlainRelations → List At → List (Vec Called Global) → Type 0
HasCalled relations moments all = (span : ℕ) → span < length relations.intervals → called_at all span ≡ called relations moments span
