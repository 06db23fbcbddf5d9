use Rattle.std.proofs.Common.{ℕ, ◌≡◌, ◌+◌, cond, eqb, unwrap_or, List, subst, ap, ◌∙◌, arith}
use Rattle.fleet_summary.specs.Histogram.{capped, count_at}
use Rattle.fleet_summary.proofs.HistogramAdded.{IsHistogram-inserted, count_at-added, count_at-kept}
use Rattle.fleet_summary.proofs.histogram.Histogram.add.Goals as goal

pub invariant_of-self : goal.invariant_of-self
invariant_of-self c =
    IsHistogram-inserted c.self.inside.numbers.entries c.insert.new.self.entries c.args.step c.saturating_add.result c.self.invariant
    c.in_ok-insert.ensures.entries c.in_ok-insert.ensures.ordered c.requires (omega (arith, c.saturating_add.ensures)) (omega (arith, c.saturating_add.ensures))

pub returns-in_ok-insert-clause-sound : goal.returns-in_ok-insert-clause-sound
returns-in_ok-insert-clause-sound c =
    IsHistogram-inserted c.self.inside.numbers.entries c.insert.new.self.entries c.args.step c.saturating_add.result c.self.invariant
    c.in_ok-insert.ensures.entries c.in_ok-insert.ensures.ordered c.requires (omega (arith, c.saturating_add.ensures)) (omega (arith, c.saturating_add.ensures))

pub returns-in_ok-insert-clause-added : goal.returns-in_ok-insert-clause-added
returns-in_ok-insert-clause-added c other =
    subst (λ (es : List (ℕ × ℕ)). count_at c.insert.new.self.entries other ≡ capped (count_at es other + cond (eqb other c.args.step) c.args.number 0)) c.self.view_is
    (count_at-added c.self.inside.numbers.entries c.insert.new.self.entries c.args.step c.args.number c.saturating_add.result
    (c.saturating_add.ensures ∙ ap (λ before. capped (before + c.args.number)) (c.unwrap_or-before.ensures ∙ ap (λ o. unwrap_or o 0) (c.copied.ensures ∙ c.get.ensures.value)))
    c.self.invariant c.in_ok-insert.ensures.updates.0 other)

pub returns-else-number-gt0-clause-added : goal.returns-else-number-gt0-clause-added
returns-else-number-gt0-clause-added c other =
    subst (λ (es : List (ℕ × ℕ)). count_at es other ≡ capped (count_at es other + cond (eqb other c.args.step) c.args.number 0)) c.self.view_is
    (count_at-kept c.self.inside.numbers.entries c.args.step c.args.number (omega arith) c.self.invariant other)
