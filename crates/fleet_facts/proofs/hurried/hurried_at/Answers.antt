use Rattle.std.proofs.Common.{◌≡◌, ◌∙◌, ℕ, Some, ap, subst, sym}
use Rattle.std.specs.Prelude.{option_copied}
use Rattle.stage_graph.specs.declared.stage.Stage.{Stage}
use Rattle.stage_graph.specs.Plain.{PlainGraph, stage_at}
use Rattle.stage_graph.specs.Sound.{IsSoundStage}
use Rattle.time_sweep.specs.Hastened.{whole_haste}
use Rattle.time_sweep.specs.WithStage.{IsFitting}
use Rattle.time_sweep.proofs.Hurrying.{fast_fits}
use Rattle.fleet_facts.proofs.Hurrying.{no_work, none_stands, took_none, took_some}
use Rattle.fleet_facts.proofs.hurried.hurried_at.Goals as goal

pub returns-then-not-works_for-clause-made : goal.returns-then-not-works_for-clause-made
returns-then-not-works_for-clause-made g c =
    sym (no_work c.args.version.now.graph c.args.stages.now c.args.group c.args.place (sym c.works_for.ensures ∙ c.if-not-works_for.true))

pub returns-in_default-clause-made : goal.returns-in_default-clause-made
returns-in_default-clause-made g c =
    sym (none_stands c.args.version.now.graph c.args.stages.now c.args.group c.args.place
    (ap (λ (graph : PlainGraph). stage_at graph.places c.args.place) (sym c.graph.ensures.graph) ∙ sym c.stage.ensures.stage ∙ ap option_copied c.in_default.is))

pub returns-then-not-takes_time-clause-made : goal.returns-then-not-takes_time-clause-made
returns-then-not-takes_time-clause-made g c =
    let graph = c.args.version.now.graph in
    let stage = c.in-Some.stage.now in
    let here : stage_at graph.places c.args.place ≡ Some stage =
    ap (λ (graph : PlainGraph). stage_at graph.places c.args.place) (sym c.graph.ensures.graph) ∙ sym c.in-Some.ensures.stage in
    sym (took_none graph c.args.stages.now c.args.group c.args.place stage here (sym c.works_for.ensures ∙ c.if-not-works_for.false) (sym c.takes_time.ensures ∙ c.if-not-takes_time.true))

pub returns-clause-made : goal.returns-clause-made
returns-clause-made g c =
    let graph = c.args.version.now.graph in
    let stage = c.in-Some.stage.now in
    let here : stage_at graph.places c.args.place ≡ Some stage =
    ap (λ (graph : PlainGraph). stage_at graph.places c.args.place) (sym c.graph.ensures.graph) ∙ sym c.in-Some.ensures.stage in
    ap (λ (one : Stage). Some one) c.in_ok-hastened.ensures
    ∙ sym (took_some graph c.args.stages.now c.args.group c.args.place stage here (sym c.works_for.ensures ∙ c.if-not-works_for.false) (sym c.takes_time.ensures ∙ c.if-not-takes_time.false))

pub returns-clause-fits : goal.returns-clause-fits
returns-clause-fits g c =
    let places = c.args.version.now.graph.places in
    let stage = c.in-Some.stage.now in
    let own : stage.place ≡ c.args.place = c.in-Some.ensures.sound.own_place in
    let here : stage_at places c.args.place ≡ Some stage =
    ap (λ (graph : PlainGraph). stage_at graph.places c.args.place) (sym c.graph.ensures.graph) ∙ sym c.in-Some.ensures.stage in
    let sound : IsSoundStage places c.args.place stage =
    subst (λ (graph : PlainGraph). IsSoundStage graph.places c.args.place stage) c.graph.ensures.graph c.in-Some.ensures.sound in
    subst (IsFitting places) (sym c.in_ok-hastened.ensures)
    (fast_fits places whole_haste stage (ap (stage_at places) own ∙ here) (subst (λ (place : ℕ). IsSoundStage places place stage) (sym own) sound))

pub returns-clause-own : goal.returns-clause-own
returns-clause-own g c = ap (λ (stage : Stage). stage.place) c.in_ok-hastened.ensures ∙ c.in-Some.ensures.sound.own_place
