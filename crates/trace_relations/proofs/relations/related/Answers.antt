use Rattle.std.proofs.Common.{refl, rules}
use Rattle.trace_relations.specs.Ancestry.{parent_at}
use Rattle.trace_relations.specs.KeptAttempts.{plain_attempts}
use Rattle.trace_relations.proofs.Relating.{given_up_seen, hosts_seen, in_turn_seen, next_kept, parents_seen, places_seen, related_is, spans_seen, tried_seen, waiting_seen}
use Rattle.trace_relations.proofs.relations.related.Goals as goal

pub tries_of-requires-clause-turn : goal.tries_of-requires-clause-turn
tries_of-requires-clause-turn c = in_turn_seen c.args.timed.intervals.items _ c.args.timed.order.items _ c.deref-3.ensures.value c.deref-5.ensures.value c.requires.order

pub tries_of-requires-clause-places : goal.tries_of-requires-clause-places
tries_of-requires-clause-places c = places_seen c.args.spans.now c.args.timed.intervals.items c.args.timed.order.items _ c.deref-5.ensures.value c.requires.order c.requires.count

pub tries_of-requires-clause-parents : goal.tries_of-requires-clause-parents
tries_of-requires-clause-parents c =
    spans_seen c.args.spans.now c.args.timed.intervals.items c.args.references.items c.in_ok-family.family.parents.items _ c.requires.references refl
    (parents_seen c.args.timed.intervals.items _ c.args.references.items _ _ _ c.in_ok-family.family.parents.items c.deref-2.ensures.value c.deref.ensures.value refl refl c.in_ok-family.ensures.parents)

pub returns-clause-related : goal.returns-clause-related
returns-clause-related c =
    let intervals = c.args.timed.intervals.items in
    let references = c.args.references.items in
    let order = c.args.timed.order.items in
    let family = c.in_ok-family.family in
    let tries = c.in_ok-tries.tries in
    let all =
    related_is c.args.as_told c.args.spans.now c.args.timed.origin intervals references order family.parents.items family.hosts.items family.waiting.items (plain_attempts tries.attempts) (parent_at tries.attempts.next.items) tries.given_up.items
    (record {
      references_are = c.requires.references;
      parents_are = parents_seen intervals _ references _ _ _ family.parents.items c.deref-2.ensures.value c.deref.ensures.value refl refl c.in_ok-family.ensures.parents;
      hosts_are = hosts_seen intervals _ family.parents.items _ family.hosts.items c.deref.ensures.value refl c.in_ok-family.ensures.hosts;
      waiting_are = waiting_seen c.args.spans.now intervals _ references _ family.parents.items _ family.waiting.items c.deref.ensures.value c.deref-2.ensures.value refl c.in_ok-family.ensures.waiting;
      attempts_are = tried_seen c.args.as_told c.args.spans.now intervals _ order _ family.hosts.items _ family.waiting.items _ (plain_attempts tries.attempts) c.deref-3.ensures.value c.deref-5.ensures.value refl refl c.in_ok-tries.ensures.attempts;
      next_is = next_kept tries.attempts.next.items;
      given_up_are = given_up_seen c.args.as_told c.args.spans.now order _ intervals _ references _ family.parents.items _ family.waiting.items _ tries.attempts.next.items _ tries.given_up.items c.deref-5.ensures.value c.deref-3.ensures.value c.deref-4.ensures.value refl refl refl c.in_ok-tries.ensures.given_up;
    }) in
    search (rules, all)
