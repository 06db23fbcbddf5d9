use Rattle.std.proofs.Common.{◌≡◌, ◌∙◌, Option, Some, ap, subst, arith}
use Rattle.std.specs.Prelude.{IfNone, IfSome}
use Rattle.stage_ops.specs.declared.state.Done.{Done}
use Rattle.stage_ops.specs.declared.state.State.{State}
use Rattle.stage_ops.specs.Evaluation.{at}
use Rattle.stage_ops.specs.Java.{java_step}
use Rattle.propagate.proofs.Ranks.{live_within}
use Rattle.time_sweep.specs.Changed.{state_in}
use Rattle.time_sweep.specs.Sweep.{completion_of}
use Rattle.time_sweep.specs.WithStage.{with_stages}
use Rattle.time_sweep.proofs.completion.changed_completion.Goals as goal

pub done_now-requires : goal.done_now-requires
done_now-requires g c = let within = live_within c.args.version.now.graph.places c.args.target c.requires.live in omega (arith, within, c.requires.states.count)

pub returns-in-Some-clause-done : goal.returns-in-Some-clause-done
returns-in-Some-clause-done g c =
    subst (λ (early : Option Done). IfSome early (λ done. Some done ≡ completion_of (with_stages c.args.version.now.graph c.args.changed.now) c.args.target)) c.in-Some.is
    c.in_ok-early.ensures.early

pub returns-in-None-clause-done : goal.returns-in-None-clause-done
returns-in-None-clause-done g c =
    let graph = c.args.version.now.graph in
    let changes = c.settle.new.changes in
    let settled = subst (λ (early : Option Done). IfNone early (state_in c.args.before.now changes.at.items changes.list.items c.args.target
    ≡ at (java_step graph.mode) (with_stages graph c.args.changed.now).places c.args.target)) c.in-None.is c.in_ok-early.ensures.settled in
    c.done_now.ensures ∙ ap (λ (state : State). state.done) settled
