use Rattle.std.proofs.Common.{◌∙◌, List, ℕ, ap, refl, sym}
use Rattle.std.specs.Prelude.{Option}
use Rattle.trace_relations.specs.Ancestry.{parent_at}
use Rattle.trace_relations.specs.KeptAttempts.{plain_attempts}
use Rattle.trace_relations.proofs.Relating.{given_up_seen, tried_seen}
use Rattle.trace_relations.proofs.relations.tries_of.Goals as goal

pub given_up_of-requires-clause-parents : goal.given_up_of-requires-clause-parents
given_up_of-requires-clause-parents c = λ place caller at. c.requires.parents place caller (ap (λ (those : List (Option ℕ)). parent_at those place) (sym c.deref-3.ensures.value) ∙ at)

pub returns : goal.returns
returns c =
    let family = c.args.family.now in
    record {
      attempts = tried_seen c.args.as_told c.args.spans.now c.args.intervals.now _ c.args.order.now _ family.hosts.items _ family.waiting.items _ (plain_attempts c.in_ok-attempts.attempts) refl refl c.deref.ensures.value c.deref-2.ensures.value c.in_ok-attempts.ensures;
      given_up = given_up_seen c.args.as_told c.args.spans.now c.args.order.now _ c.args.intervals.now _ c.args.references.now _ family.parents.items _ family.waiting.items _ c.in_ok-attempts.attempts.next.items _ c.in_ok-given_up.given_up.items refl refl refl c.deref-3.ensures.value c.deref-4.ensures.value c.deref-5.ensures.value c.in_ok-given_up.ensures;
    }
