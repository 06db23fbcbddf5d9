use Rattle.std.proofs.Common.{◌∙◌, List, Option, ap, subst, sym}
use Rattle.std.specs.Option.{option_map_or}
use Rattle.stage_graph.specs.declared.stage.Stage.{Stage}
use Rattle.stage_ops.specs.declared.state.Done.{Done}
use Rattle.time_sweep.specs.Sweep.{completion_of}
use Rattle.time_sweep.specs.WithStage.{with_stages, AreFitting}
use Rattle.fleet_facts.proofs.group_facts.time_then.Goals as goal

pub completion_with_all-requires-clause-fit : goal.completion_with_all-requires-clause-fit
completion_with_all-requires-clause-fit g c κs inside = subst (AreFitting c.args.version.now.graph.places) (sym c.as_slice.ensures.value) c.in_ok-hurried.ensures.fit

pub returns-in-Some-clause-time : goal.returns-in-Some-clause-time
returns-in-Some-clause-time g c =
    let graph = c.args.version.now.graph in
    let reply = c.args.reply.now in
    ap (λ (then : Option Done). option_map_or (λ (done : Done). done.moment) then reply.time)
    (sym c.in-Some.is
    ∙ c.in_ok-done.ensures.done
    ∙ ap (λ (stages : List Stage). completion_of (with_stages graph stages) reply.start.target) (c.as_slice.ensures.value ∙ c.in_ok-hurried.ensures.hurried))

pub returns-clause-time : goal.returns-clause-time
returns-clause-time g c =
    let graph = c.args.version.now.graph in
    let reply = c.args.reply.now in
    ap (λ (then : Option Done). option_map_or (λ (done : Done). done.moment) then reply.time)
    (sym c.in-None.is
    ∙ c.in_ok-done.ensures.done
    ∙ ap (λ (stages : List Stage). completion_of (with_stages graph stages) reply.start.target) (c.as_slice.ensures.value ∙ c.in_ok-hurried.ensures.hurried))
