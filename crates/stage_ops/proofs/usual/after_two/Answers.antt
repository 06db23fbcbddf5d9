use Rattle.std.proofs.Common.{◌<◌, ◌++◌, sym, ap, ◌∙◌, length}
use Rattle.std.specs.Prelude.{max, slice_get}
use Rattle.std.proofs.lemmas.List.Elements.{All-contains, Contains-append_left}
use Rattle.stage_ops.specs.declared.natural.Progress.TheVariants.{Completes}
use Rattle.stage_ops.specs.declared.usual.Returned.{Returned}
use Rattle.stage_ops.specs.SourceLaws.{contains_named}
use Rattle.stage_ops.specs.States.{seen_at, state_at}
use Rattle.stage_ops.specs.Usual.{as_done, return_after}
use Rattle.stage_ops.proofs.UsualLemmas.{at_place}
use Rattle.stage_ops.proofs.usual.after_two.Goals as goal

pub normal_at-requires-2-clause-place : goal.normal_at-requires-2-clause-place
normal_at-requires-2-clause-place g c =
    let stage = c.args.stage.now in
    All-contains (λ feed. feed < length (g.L.Look.states c.args.look.now)) (stage.sources ++ stage.inner) c.args.second c.requires.limits.feeds
    (Contains-append_left stage.sources stage.inner c.args.second (contains_named stage.sources 1 c.args.second (ap (λ sources. slice_get sources 1) c.requires.both)))

pub returns : goal.returns
returns g c =
    let inputs = seen_at (state_at (g.L.Look.states c.args.look.now)) in
    let stage = c.args.stage.now in
    let one = c.in_ok-first.first in
    let other = c.in_ok-second.second in
    let trigger_is = c.max-trigger.ensures ∙ ap (max one.moment) c.max.ensures in
    let is = c.return_after.ensures ∙ ap (λ trigger. return_after stage trigger c.in_ok-own.own) trigger_is in
    λ mode.
    c.in_ok-own.ensures inputs c.args.first c.args.second one.moment other.moment c.requires.both
    (at_place inputs c.args.first one c.in_ok-first.ensures.source) (at_place inputs c.args.second other c.in_ok-second.ensures.source) mode
    ∙ sym (ap (λ (returned : Returned). Completes (as_done mode returned)) is)
