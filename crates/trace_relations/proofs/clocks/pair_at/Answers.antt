use Rattle.std.proofs.Common.{◌≡◌, Some, ◌∙◌, ap, sym}
use Rattle.std.specs.Prelude.{slice_get}
use Rattle.std.proofs.lemmas.Option.{same_Some}
use Rattle.trace_relations.specs.Clocks.{pair_with}
use Rattle.trace_relations.proofs.Finding.{got}
use Rattle.trace_relations.proofs.Pairing.{known_clock}
use Rattle.trace_relations.proofs.clocks.pair_at.Goals as goal

pub returns-clause-said : goal.returns-clause-said
returns-clause-said c = λ span is.
    let spans = c.args.spans.now in
    let calling : slice_get spans c.args.caller ≡ Some c.in_ok-calling.calling.now = got spans c.args.caller c.in_ok-calling.calling c.in_ok-calling.ensures.lookup in
    let own : slice_get spans c.args.place ≡ Some c.in_ok-span.span.now = got spans c.args.place c.in_ok-span.span c.in_ok-span.ensures.lookup in
    let same : c.in_ok-span.span.now ≡ span = same_Some c.in_ok-span.span.now span (sym own ∙ is) in
    let first = known_clock spans c.args.clocks.now c.args.caller c.clock_at-caller_clock.result c.in_ok-calling.calling.now calling (c.clock_at-caller_clock.ensures spans c.requires) in
    let second = known_clock spans c.args.clocks.now c.args.place c.clock_at-clock.result c.in_ok-span.span.now own (c.clock_at-clock.ensures spans c.requires) in
    c.pair_with.ensures.said spans c.args.caller c.args.place calling own first.0 second.0 ∙ ap (λ each. pair_with spans each (Some c.in_ok-calling.calling.now)) same ∙ ap (pair_with spans span) (sym calling)

pub returns-clause-among : goal.returns-clause-among
returns-clause-among c =
    let spans = c.args.spans.now in
    let calling : slice_get spans c.args.caller ≡ Some c.in_ok-calling.calling.now = got spans c.args.caller c.in_ok-calling.calling c.in_ok-calling.ensures.lookup in
    let own : slice_get spans c.args.place ≡ Some c.in_ok-span.span.now = got spans c.args.place c.in_ok-span.span c.in_ok-span.ensures.lookup in
    let first = known_clock spans c.args.clocks.now c.args.caller c.clock_at-caller_clock.result c.in_ok-calling.calling.now calling (c.clock_at-caller_clock.ensures spans c.requires) in
    let second = known_clock spans c.args.clocks.now c.args.place c.clock_at-clock.result c.in_ok-span.span.now own (c.clock_at-clock.ensures spans c.requires) in
    c.pair_with.ensures.among _ first.1 second.1
