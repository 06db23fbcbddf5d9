-- What holds of the stages of each trace.
use Rattle.std.proofs.Common.{◌≡◌, ℕ, ◌+◌, ◌<◌, ◌≤◌, List, length, map, ◌∙◌, arith}
use Rattle.std.specs.Prelude.{Ok}
use Rattle.act_expr.specs.declared.outcome.Mode.{Mode}
use Rattle.act_expr.specs.declared.outcome.Mode.TheVariants.{Computed}
use Rattle.stage_graph.specs.Loading.{loaded}
use Rattle.stage_graph.specs.Names.{place_of}
use Rattle.stage_graph.specs.Plain.{PlainGraph}
use Rattle.stage_graph.specs.declared.stage.Spec.{Spec}
use Rattle.trace_relations.specs.Relations.{PlainRelations}
use Rattle.trace_relations.specs.declared.as_told.AsTold.{AsTold}
use Rattle.trace_spans.specs.declared.span.Span.{Span}
use Rattle.trace_stages.specs.Moments.{At}
use Rattle.trace_stages.specs.Naming.{PlainStage, imported}
use Rattle.trace_stages.specs.declared.walk.stage_id.StageId.TheVariants.{Start, Whole, Tried, Limit, Answer}
use Rattle.trace_laws.specs.Circles.{EachSourceIsAStage, NoTraceHasACircle, trace_scene, trace_stages}
use Rattle.trace_laws.specs.Completes.{spec_of}
use Rattle.trace_laws.specs.Faithful.{EachTraceIsFaithful}
use Rattle.trace_laws.specs.Present.{EachSpanHasItsStages}
use Rattle.trace_laws.proofs.Completing.{EachIsMet, faithful_among}
use Rattle.trace_laws.proofs.Each.{in_contains}
use Rattle.trace_laws.proofs.Ranked.{few_loaded}
use Rattle.trace_laws.proofs.Ranking.{length_mapped, loaded_is, no_circle_among}
use Rattle.trace_laws.proofs.Relations.{family_is}
use Rattle.trace_laws.proofs.Sourcing.{attempt_stands, given_stands, have_sources, start_stands, whole_stands}

pub each_has_its_stages : EachSpanHasItsStages
each_has_its_stages unit as_told spans relations moments trace place lt =
    let is = family_is unit as_told spans relations trace.stand trace.few in
    let within : place < length relations.intervals = shorter place (length spans) (length relations.intervals) lt is.count in
    let all = trace_stages spans relations as_told moments in (
      in_contains all (Whole place) (whole_stands spans relations is moments trace.happen place within),
      λ two. in_contains all (Start place) (start_stands spans relations is moments trace.happen place within two),
      λ gave. (let both = given_stands spans relations is moments trace.happen place gave in (in_contains all (Limit place) both.0, in_contains all (Answer place) both.1)),
      λ again. in_contains all (Tried place) (attempt_stands spans relations is moments trace.happen place again),
    )
  where
    shorter : (a b c : ℕ) → a < b → c ≡ b → a < c
    shorter a b c lt same = omega arith

pub each_source_is_a_stage : EachSourceIsAStage
each_source_is_a_stage unit as_told spans relations moments trace few = have_sources spans relations (family_is unit as_told spans relations trace.stand trace.few) moments trace.happen few

-- a graph that is loaded has no more stages than a graph has places
few_stages : (as_told : AsTold) (spans : List Span) (relations : PlainRelations) (moments : List At) (spec : PlainStage → Spec) (mode : Mode) (graph : PlainGraph)
    → loaded mode (map spec (map (imported (trace_scene spans relations as_told moments)) (trace_stages spans relations as_told moments))) ≡ Ok graph → length (trace_stages spans relations as_told moments) ≤ 65_536
few_stages as_told spans relations moments spec mode graph loads =
    let specs = map spec (map (imported (trace_scene spans relations as_told moments)) (trace_stages spans relations as_told moments)) in
    let both = loaded_is mode specs graph loads in
    few (length specs) (length (trace_stages spans relations as_told moments))
    (length_mapped spec (map (imported (trace_scene spans relations as_told moments)) (trace_stages spans relations as_told moments)) ∙ length_mapped (imported (trace_scene spans relations as_told moments)) (trace_stages spans relations as_told moments))
    (few_loaded (place_of specs) 0 specs (omega arith) both.0)
  where
    few : (a b : ℕ) → a ≡ b → 0 + a ≤ 65_536 → b ≤ 65_536
    few a b same le = omega arith

pub no_circle : NoTraceHasACircle
no_circle unit as_told spans relations moments trace text spec named mode graph loads =
    let is = family_is unit as_told spans relations trace.stand trace.few in
    no_circle_among as_told spans relations is moments trace.happen (have_sources spans relations is moments trace.happen (few_stages as_told spans relations moments spec mode graph loads)) text spec named mode graph loads

-- each completes as its span ended, where what is evaluated meets each place's equation
pub faithful_where_met : EachIsMet → EachTraceIsFaithful
faithful_where_met meets unit as_told spans relations moments trace text exceptions graph loads =
    let is = family_is unit as_told spans relations trace.stand trace.few in
    faithful_among as_told spans relations is moments trace.happen
    (have_sources spans relations is moments trace.happen (few_stages as_told spans relations moments (spec_of text exceptions) Computed graph loads)) meets text exceptions graph loads
