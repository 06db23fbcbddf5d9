use Rattle.std.proofs.Common.{ℕ, ◌≡◌, List, [], Err, refl, sym, subst, ap, ◌∙◌}
use Rattle.std.specs.List.{All}
use Rattle.std.specs.Map.{keys_of}
use Rattle.std.specs.declared.cmp.Ordering.TheVariants.{Less}
use Rattle.std.proofs.lemmas.Bool.{false≢true}
use Rattle.std.proofs.lemmas.List.Elements.{recursion_from_All}
use Rattle.std.proofs.lemmas.Result.{err_from_is_err_and}
use Rattle.fleet_summary.specs.declared.facts.Failure.{Failure}
use Rattle.fleet_summary.specs.Failures.{IsFailures}
use Rattle.fleet_summary.specs.Names.{failure_cmp}
use Rattle.fleet_summary.proofs.FailuresAdded.{IsFailures-none}
use Rattle.serde_json.specs.View.{view}
use Rattle.fleet_text.specs.declared.read_fault.ReadFault.{ReadFault}
use Rattle.fleet_text.specs.Back.{IsReadAs}
use Rattle.fleet_text.specs.Says.{SaysFailure}
use Rattle.fleet_text.proofs.Nexts.{failure_last, failure_next}
use Rattle.fleet_text.proofs.ReadLists.{AreSaid, AreSaid-all, AreSaid-more}
use Rattle.fleet_text.proofs.ReadTables.{failures-pushed}
use Rattle.fleet_text.proofs.Said.{failures_one}
use Rattle.fleet_text.proofs.reading_failures.failures_in.Goals as goal

-- all keys come before one
abbrev IsLast : List (Failure × ℕ) → Failure → Type 0
IsLast failures failure = All (λ other. failure_cmp other failure ≡ Less) (keys_of failures)

pub loop-failure-init : goal.loop-failure-init
loop-failure-init c = record {
  sound = subst IsFailures (sym c.new-failures.ensures) IsFailures-none;
  said = subst (AreSaid SaysFailure []) (sym c.new-failures.ensures) tt;
}

pub loop-failure-preserved : goal.loop-failure-preserved
loop-failure-preserved c =
    let now = c.loop-failure.failures in
    let failure = c.in_ok-failure.failure in
    let replies = c.in_ok-failure.replies in
    let last : IsLast now failure = subst (λ (es : List (Failure × ℕ)). IsLast es failure) c.by_failure.ensures.replies (c.if-not-is_last.ensures.0 refl) in
    record {
      sound = c.add.ensures.failures;
      said =
          AreSaid-more SaysFailure c.in_ok-values.values.now now c.add.new.self c.loop-failure.failure-index c.failure-item.result (failure, replies) c.loop-failure-test.true c.failure-item.is c.loop-failure.invariant.said c.in_ok-failure.ensures.said
          (failures-pushed now c.add.new.self failure replies c.loop-failure.invariant.sound c.add.ensures.failures (recursion_from_All (λ other. failure_cmp other failure ≡ Less) (keys_of now) last) c.in_ok-failure.ensures.some c.in_ok-failure.ensures.fits c.in_ok-add.ensures.added);
    }

pub returns-in_err-failure-clause-back : goal.returns-in_err-failure-clause-back
returns-in_err-failure-clause-back c all sound says =
    let next = failure_next (view c.args.value.now) c.in_ok-values.values.now all c.loop-failure.failures c.loop-failure.failure-index c.failure-item.result c.in_ok-values.ensures sound says c.loop-failure-test.true c.failure-item.is c.loop-failure.invariant.said in
    let p = err_from_is_err_and c.from_residual-in_err-failure.result c.from_residual-in_err-failure.ensures.1 in
    subst (λ r. IsReadAs {X = List (Failure × ℕ)} r all) (sym (p.1 ∙ ap (λ (fault : ReadFault). Err fault) p.2)) (c.in_err-failure.ensures.back next.own next.entry.some next.said)

pub returns-then-not-is_last-clause-back : goal.returns-then-not-is_last-clause-back
returns-then-not-is_last-clause-back c all sound says =
    let now = c.loop-failure.failures in
    let failure = c.in_ok-failure.failure in
    let next = failure_next (view c.args.value.now) c.in_ok-values.values.now all now c.loop-failure.failure-index c.failure-item.result c.in_ok-values.ensures sound says c.loop-failure-test.true c.failure-item.is c.loop-failure.invariant.said in
    let last : IsLast now failure = failure_last c.failure-item.result now (failure, c.in_ok-failure.replies) next c.in_ok-failure.ensures.said in
    absurd (false≢true (c.if-not-is_last.ensures.1 (subst (λ (es : List (Failure × ℕ)). IsLast es failure) (sym c.by_failure.ensures.replies) last)))

pub returns-clause-said : goal.returns-clause-said
returns-clause-said c = AreSaid-all SaysFailure (view c.args.value.now) c.in_ok-values.values.now c.loop-failure.failures c.loop-failure.failure-index c.loop-failure-test.false c.in_ok-values.ensures c.loop-failure.invariant.said

pub returns-clause-back : goal.returns-clause-back
returns-clause-back c all sound says = failures_one (view c.args.value.now) c.loop-failure.failures all (returns-clause-said c) says
