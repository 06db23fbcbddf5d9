use Rattle.std.proofs.Common.{ℕ, ◌≡◌, ◌+◌, cond, unwrap_or, List, Some, subst, ap, ◌∙◌, arith}
use Rattle.std.specs.BTreeMap.{is_at}
use Rattle.std.specs.Map.{lookup}
use Rattle.std.specs.Ordering.{is_eq}
use Rattle.fleet_summary.specs.declared.facts.Failure.{Failure}
use Rattle.fleet_summary.specs.Histogram.{capped}
use Rattle.fleet_summary.specs.Failures.{failed_by}
use Rattle.fleet_summary.specs.Names.{failure_cmp}
use Rattle.fleet_summary.proofs.FailuresAdded.{IsFailures-put, failed_by-added, failed_by-kept}
use Rattle.fleet_summary.proofs.failures.FailureCounts.add.Goals as goal

pub invariant_of-self : goal.invariant_of-self
invariant_of-self c =
    IsFailures-put c.self.inside.replies.entries c.insert.new.self.entries c.in_ok-own.own c.saturating_add.result c.self.invariant
    c.in_ok-insert.ensures.entries c.in_ok-insert.ensures.ordered (omega (arith, c.saturating_add.ensures)) (omega (arith, c.saturating_add.ensures))

pub returns-in_ok-insert-clause-failures : goal.returns-in_ok-insert-clause-failures
returns-in_ok-insert-clause-failures c =
    IsFailures-put c.self.inside.replies.entries c.insert.new.self.entries c.in_ok-own.own c.saturating_add.result c.self.invariant
    c.in_ok-insert.ensures.entries c.in_ok-insert.ensures.ordered (omega (arith, c.saturating_add.ensures)) (omega (arith, c.saturating_add.ensures))

pub returns-in_ok-insert-clause-added : goal.returns-in_ok-insert-clause-added
returns-in_ok-insert-clause-added c other =
    subst (λ (es : List (Failure × ℕ)). failed_by c.insert.new.self.entries other ≡ capped (failed_by es other + cond (is_eq (failure_cmp other c.args.failure.now)) c.args.replies 0)) c.self.view_is
    (failed_by-added c.self.inside.replies.entries c.insert.new.self.entries c.args.failure.now c.args.replies c.saturating_add.result
    (c.saturating_add.ensures ∙ ap (λ before. capped (before + c.args.replies)) (c.unwrap_or-before.ensures ∙ ap (λ o. unwrap_or o 0) (c.copied.ensures ∙ c.get.ensures.value)))
    c.self.invariant
    (subst (λ (own : Failure). (q : Failure) → lookup (is_at (failure_cmp q)) c.insert.new.self.entries ≡ cond (is_at (failure_cmp own) q) (Some c.saturating_add.result) (lookup (is_at (failure_cmp q)) c.self.inside.replies.entries))
    c.in_ok-own.ensures c.in_ok-insert.ensures.updates.0)
    other)

pub returns-else-replies-gt0-clause-added : goal.returns-else-replies-gt0-clause-added
returns-else-replies-gt0-clause-added c other =
    subst (λ (es : List (Failure × ℕ)). failed_by es other ≡ capped (failed_by es other + cond (is_eq (failure_cmp other c.args.failure.now)) c.args.replies 0)) c.self.view_is
    (failed_by-kept c.self.inside.replies.entries c.args.failure.now c.args.replies (omega arith) c.self.invariant other)
