use Rattle.std.proofs.Common.{◌≡◌, ◌∙◌, [], ℕ, List, Option, ap}
use Rattle.std.proofs.lemmas.Result.{on_ok_weaker}
use Rattle.stage_graph.specs.declared.stage.Stage.{Stage}
use Rattle.stage_graph.specs.Plain.{stage_at}
use Rattle.stage_ops.specs.declared.state.State.{State}
use Rattle.stage_ops.specs.Java.{java_step}
use Rattle.propagate.specs.Reach.{read_places, reads_at, reads_of}
use Rattle.version_store.specs.Plain.{PlainVersion}
use Rattle.version_store.specs.Queries.{state_of}
use Rattle.failure_origins.proofs.Listing.{handled_added}
use Rattle.failure_origins.proofs.lists.add_handled.Goals as goal

pub returns-in-Some-clause-lists : goal.returns-in-Some-clause-lists
returns-in-Some-clause-lists g c =
    let graph = c.args.version.now.graph in
    let place = c.args.place in
    let view = c.in-Some.view in
    let state : c.state-reads.result ≡ state_of graph place =
    c.state-reads.ensures ∙ ap (λ (version : PlainVersion). state_of version.graph view.place) c.in-Some.ensures.version ∙ ap (state_of graph) c.in-Some.ensures.place in
    let read : read_places view.stage.now c.state-reads.result.reads ≡ reads_at (java_step graph.mode) graph.places place =
    ap (λ (here : Option Stage). reads_of here c.state-reads.result.reads) c.in-Some.ensures.stage ∙ ap (λ (state : State). reads_of (stage_at graph.places place) state.reads) state in
    on_ok_weaker c.add_stage.result
    (handled_added c.args.origins.now place graph c.args.handled.now.items c.add_stage.new.handled.items (read_places view.stage.now c.state-reads.result.reads) read) c.add_stage.ensures.lists

pub returns-in-None-clause-lists : goal.returns-in-None-clause-lists
returns-in-None-clause-lists g c =
    let graph = c.args.version.now.graph in
    let place = c.args.place in
    let lists = c.args.handled.now.items in
    let nothing : List ℕ = [] in
    let read : nothing ≡ reads_at (java_step graph.mode) graph.places place = ap (λ (here : Option Stage). reads_of here (state_of graph place).reads) c.in-None.ensures.stage in
    handled_added c.args.origins.now place graph lists lists nothing read (λ passes count are. are)
