use Rattle.std.proofs.Common.{◌≡◌, ◌&&◌, ◌∙◌, Bool, Some, Err, is_some, sym, ap, length}
use Rattle.stage_graph.specs.declared.fault.Refusal.{Refusal}
use Rattle.stage_graph.specs.Names.{found}
use Rattle.stage_graph.specs.Edits.{unless_refused}
use Rattle.stage_graph.specs.Checks.{passing, first_refusal, has_arity, are_few}
use Rattle.stage_graph.proofs.Feeds.{is_some-known_feeds}
use Rattle.stage_graph.proofs.stage.Stage.with_feeds.Goals as goal
use Rattle.stage_graph.proofs.stage.Stage.with_feeds.Goals.{then-are_few, else-are_few}

-- the refusal of equal checks
told : {A : Type 0} (value : A) (arity known within has_arity is_known is_within : Bool) (refusal : Refusal) → arity ≡ has_arity → known ≡ is_known → within ≡ is_within
    → Some refusal ≡ first_refusal (record passing { arity = has_arity; known = is_known; within = is_within }) → unless_refused (first_refusal (record passing { arity = arity; known = known; within = within })) value ≡ Err refusal
told value arity known within has_arity is_known is_within refusal a k w is = rw (a, k, w) (ap (λ first. unless_refused first value) (sym is))

pub returns-in-Some : goal.returns-in-Some
returns-in-Some c =
    let sources = c.as_slice-source_count.ensures in
    let inner = c.as_slice-inner_count.ensures in
    let known = c.is_some.ensures ∙ ap is_some c.in_ok-feeds.ensures ∙ is_some-known_feeds (found c.args.names.now) c.args.sources.now c.args.inner.now in
    let within : (are_few (length c.args.sources.now) && are_few (length c.args.inner.now)) ≡ c.if-are_few.checks = rw (← sources, ← inner) (elim c.if-are_few.branch [
      | then-are_few w ↦ ap (λ few. few && are_few (length c.as_slice-inner_count.result.now)) (sym c.are_few.ensures ∙ w.if-are_few.true) ∙ sym w.are_few-then-are_few.ensures ∙ sym w.checks-is
      | else-are_few w ↦ ap (λ few. few && are_few (length c.as_slice-inner_count.result.now)) (sym c.are_few.ensures ∙ w.if-are_few.false) ∙ sym w.if-are_few.false ∙ sym w.checks-is
    ]) in
    told _ _ _ _ _ _ _ _ (rw (← sources, ← inner) (sym c.has_arity.ensures)) (sym known) within c.in-Some.ensures
