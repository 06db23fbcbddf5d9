-- The stages of the spans of a trace.
use Rattle.std.specs.Prelude.{◌≡◌, ℕ, List, length, map, not}
use Rattle.std.specs.List.{range_with_len}
use Rattle.trace_relations.specs.declared.as_told.AsTold.{AsTold}
use Rattle.trace_relations.specs.Relations.{PlainRelations}
use Rattle.trace_spans.specs.declared.span.Span.{Span}
use Rattle.trace_stages.specs.declared.stage.Stages.{Stages}
use Rattle.trace_stages.specs.declared.tour.visit.Visit.{Visit}
use Rattle.trace_stages.specs.Bounds.{bound}
use Rattle.trace_stages.specs.Failures.{failures_by}
use Rattle.trace_stages.specs.Fates.{fate}
use Rattle.trace_stages.specs.Held.{PlainHolding}
use Rattle.trace_stages.specs.Holdings.{held}
use Rattle.trace_stages.specs.Known.{PlainHad, PlainKnown}
use Rattle.trace_stages.specs.Moments.{AreMoments, At}
use Rattle.trace_stages.specs.Naming.{PlainStage, imported, plain_stages}
use Rattle.trace_stages.specs.Order.{ordered}
use Rattle.trace_stages.specs.Scene.{PlainScene, scene_of}
use Rattle.trace_stages.specs.TwoStages.{has_two}
use Rattle.trace_stages.specs.Visits.{children, visits}

-- what is kept of what a span has after its walk
abbrev pub had_by : PlainHolding → PlainHad
had_by holding = record { has = holding.has; joins = holding.joins; works = holding.works; begins = holding.begins; answer = holding.answer }

abbrev pub had : PlainRelations → List At → ℕ → PlainHad
had relations moments place = had_by (held relations moments place)

-- what is known of spans, by the moments of their trace
abbrev pub known_of : List Span → PlainRelations → AsTold → List At → PlainKnown
known_of spans relations as_told moments = record {
  relations = relations;
  fates = map (fate spans) (range_with_len 0 (length spans));
  has_two = has_two relations.hosts relations.waiting;
  hads = map (had relations moments) (range_with_len 0 (length relations.intervals));
  children = children relations.parents relations.order;
  bounds = map (bound relations) (range_with_len 0 (length relations.intervals));
  hands_on = not as_told.calls;
}

abbrev pub IsKnown : List Span → PlainRelations → AsTold → PlainKnown → Type 0
IsKnown spans relations as_told known = (moments : List At) × (AreMoments relations.intervals moments × (known ≡ known_of spans relations as_told moments))

abbrev pub stages_with : PlainScene → List Visit → List PlainStage
stages_with scene all_visits = map (imported scene) (ordered scene all_visits)

-- the stages of what is known, in the order of visits
abbrev pub stages_in : PlainKnown → List Visit → List PlainStage
stages_in known all_visits = stages_with (scene_of known (failures_by known all_visits)) all_visits

-- the stages of spans, by the moments of their trace
abbrev pub stages_by : List Span → PlainRelations → AsTold → List At → List PlainStage
stages_by spans relations as_told moments = stages_in (known_of spans relations as_told moments) (visits relations.parents relations.order)

-- these are the stages of the recording of spans
abbrev pub AreStages : List Span → PlainRelations → AsTold → Stages → Type 0
AreStages spans relations as_told stages =
    (moments : List At) × (AreMoments relations.intervals moments × (plain_stages stages.0.items ≡ stages_by spans relations as_told moments))
