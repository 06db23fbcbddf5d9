-- All that is known of the spans of a trace and of the joins of their stages.
use Rattle.std.specs.Prelude.{ℕ, List, [], ◌∷◌, ◌++◌, length, map, Option, unwrap_or, slice_get}
use Rattle.std.specs.List.{range_with_len}
use Rattle.trace_stages.specs.declared.outcomes.Outcome.{Outcome}
use Rattle.trace_stages.specs.declared.scene.Scene.{Scene}
use Rattle.trace_stages.specs.declared.stage.Exception.{Exception}
use Rattle.trace_stages.specs.Beginnings.{all_entries, nothing_joined}
use Rattle.trace_stages.specs.EndOutcomes.{own_sight}
use Rattle.trace_stages.specs.Known.{PlainKnown, had_at, plain_known}
use Rattle.trace_stages.specs.Outcomes.{PlainSight, failing, join_outcomes, plain_outcomes}
use Rattle.trace_stages.specs.PlainJoins.{plain_joins}
use Rattle.trace_stages.specs.HandedOn.{all_handed}
use Rattle.trace_stages.specs.Joins.{PlainJoined, plain_joined}
use Rattle.trace_stages.specs.declared.walk.stage_id.StageId.{StageId}

abbrev pub list_at : {X : Type 0} → List (List X) → ℕ → List X
list_at lists place = unwrap_or (slice_get lists place) []

abbrev pub entry_at : List PlainJoined → ℕ → PlainJoined
entry_at entries place = unwrap_or (slice_get entries place) nothing_joined

-- the join by which a span hands a failure on, if it has one
abbrev pub handed_join : List StageId → List (List StageId)
handed_join [] = []
handed_join (source ∷ sources) = (source ∷ sources) ∷ []

-- the joins of what a span has
abbrev pub span_joins : PlainKnown → List (List StageId) → ℕ → List (List StageId)
span_joins known handed place = (had_at known.hads place).joins ++ handed_join (list_at handed place)

-- how the joins of what each span has end
abbrev pub span_outcomes : PlainKnown → (ℕ → Option Exception) → List (List StageId) → ℕ → List Outcome
span_outcomes known failures handed place = join_outcomes (own_sight known failures) (span_joins known handed place)

abbrev pub all_outcomes : PlainKnown → (ℕ → Option Exception) → List (List StageId) → List (List Outcome)
all_outcomes known failures handed = map (span_outcomes known failures handed) (range_with_len 0 (length known.relations.intervals))

abbrev pub whole_sight : PlainKnown → (ℕ → Option Exception) → List (List Outcome) → PlainSight
whole_sight known failures outcomes = record { known = known; failures = failures; joins = outcomes }

-- how the joins at the starts of spans end
abbrev pub all_entry_outcomes : PlainSight → List PlainJoined → List (List Outcome)
all_entry_outcomes sight entries = map (λ joined. join_outcomes sight joined.joins) entries

-- what is known of the spans of a trace and of their joins, by the places of spans
pub record PlainScene : Type 0 where
  pub known : PlainKnown
  pub failures : ℕ → Option Exception
  -- the sources of the joins by which spans hand failures on
  pub handed : List (List StageId)
  -- how the joins of what each span has end
  pub outcomes : List (List Outcome)
  -- from what each span begins, and its joins
  pub entries : List PlainJoined
  -- how those joins end
  pub entry_outcomes : List (List Outcome)

abbrev pub plain_scene : Scene → PlainScene
plain_scene scene = record {
  known = plain_known scene.known;
  failures = failing scene.failures;
  handed = plain_joins scene.handed.items;
  outcomes = plain_outcomes scene.outcomes.items;
  entries = map plain_joined scene.entries.items;
  entry_outcomes = plain_outcomes scene.entry_outcomes.items;
}

abbrev pub scene_with : PlainKnown → (ℕ → Option Exception) → List (List StageId) → List (List Outcome) → PlainScene
scene_with known failures handed outcomes = record {
  known = known;
  failures = failures;
  handed = handed;
  outcomes = outcomes;
  entries = all_entries known;
  entry_outcomes = all_entry_outcomes (whole_sight known failures outcomes) (all_entries known);
}

-- all that is known of spans that fail so
abbrev pub scene_of : PlainKnown → (ℕ → Option Exception) → PlainScene
scene_of known failures = scene_with known failures (all_handed known failures) (all_outcomes known failures (all_handed known failures))
