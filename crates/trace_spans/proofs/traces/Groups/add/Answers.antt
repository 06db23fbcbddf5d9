use Rattle.std.proofs.Common.{◌≡◌, ◌<◌, ℕ, List, length, Some, set, ap, subst, arith}
use Rattle.std.proofs.lemmas.Bool.{false≢true}
use Rattle.trace_spans.specs.declared.span.Span.{Span}
use Rattle.trace_spans.specs.Groups.{AreGroups, place_in}
use Rattle.trace_spans.specs.Traces.{ids_of, with_id}
use Rattle.trace_spans.proofs.Grouping.{below, one_more_span, with_spans}
use Rattle.trace_spans.proofs.traces.Groups.add.Goals as goal

pub returns-in_ok-push-in-Some : goal.returns-in_ok-push-in-Some
returns-in_ok-push-in-Some c = λ spans are.
    let groups = c.place_of.new.self in
    let place = c.in_ok-place.place in
    let kept = subst (λ (id : List ℕ). AreGroups groups (with_id (ids_of spans) id) spans × (place_in (with_id (ids_of spans) id) id ≡ Some place)) c.as_str.ensures (c.in_ok-place.ensures spans are) in
    one_more_span groups (set groups.groups.items place (with_spans c.in-Some.group.now.trace c.push.new.self)) spans c.args.span place c.in-Some.group.now kept.0 kept.1 c.in-Some.ensures.value
    (ap (λ (all : List Span). set groups.groups.items place (with_spans c.in-Some.group.now.trace all)) c.in_ok-push-in-Some.ensures.added)

pub returns-in-None : goal.returns-in-None
returns-in-None c = λ spans are.
    let groups = c.place_of.new.self in
    let place = c.in_ok-place.place in
    let kept = subst (λ (id : List ℕ). AreGroups groups (with_id (ids_of spans) id) spans × (place_in (with_id (ids_of spans) id) id ≡ Some place)) c.as_str.ensures (c.in_ok-place.ensures spans are) in
    let lt : place < length groups.groups.items = below groups (with_id (ids_of spans) c.args.span.trace) spans c.args.span.trace place kept.0 kept.1 in
    absurd (false≢true (c.in-None.ensures.variant.1 (omega (arith, lt, groups.groups.ok.0))))
