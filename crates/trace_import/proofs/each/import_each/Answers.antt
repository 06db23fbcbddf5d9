use Rattle.std.proofs.Common.{◌≡◌, ◌∙◌, ◌++◌, ◌∷◌, [], Err, List, ap, append_assoc, arith, refl, rules, subst, sym}
use Rattle.std.proofs.KnownBytes.{Appends-nil, Appends-trans}
use Rattle.std.proofs.lemmas.Result.{err_from_is_err_and}
use Rattle.trace_import.specs.Each.{AreImported, AreOutcomesOf}
use Rattle.trace_import.specs.declared.each.Outcome.{Outcome}
use Rattle.trace_import.proofs.Outcomes.{cut_short, one_more, stopped}
use Rattle.trace_import.proofs.each.import_each.Goals as goal

pub loop-trace-init : goal.loop-trace-init
loop-trace-init g c = (refl, [], (c.new-outcomes.ensures.items, refl), Appends-nil (g.S.Sink.held c.args.sink.now), refl)

pub loop-trace-preserved : goal.loop-trace-preserved
loop-trace-preserved g c =
    let so_far = c.loop-trace.invariant in
    let one = c.in_ok-outcome.ensures.written in
    let pushed : c.push.new.self.items ≡ c.loop-trace.outcomes.items ++ c.in_ok-outcome.outcome ∷ [] = search rules in (
      so_far.0
          ∙ ap (λ rest. c.loop-trace.yielded ++ rest) c.in-Some.ensures.steps.0
          ∙ sym (append_assoc c.loop-trace.yielded (c.in-Some.trace ∷ []) c.next.new.self.rest.items),
      so_far.1 ++ one.0,
      subst (λ (outcomes : List Outcome). AreOutcomesOf c.args.mapping (c.loop-trace.yielded ++ c.in-Some.trace ∷ []) outcomes (so_far.1 ++ one.0)) (sym pushed)
          (one_more c.args.mapping c.loop-trace.yielded c.loop-trace.outcomes.items so_far.1 c.in-Some.trace c.in_ok-outcome.outcome one.0 so_far.2 one.1),
      Appends-trans (g.S.Sink.held c.args.sink.now) (g.S.Sink.held c.loop-trace.sink) (g.S.Sink.held c.import_one.new.sink) so_far.1 one.0 so_far.3 one.2,
      omega (arith, c.in_ok-outcome.ensures.failures, so_far.4),
    )

pub returns-in_err-outcome-clause-written : goal.returns-in_err-outcome-clause-written
returns-in_err-outcome-clause-written g c =
    let so_far = c.loop-trace.invariant in
    let left = sym c.into_iter-trace-iterator.ensures.into_iter_gives.0 ∙ so_far.0 ∙ ap (λ rest. c.loop-trace.yielded ++ rest) c.in-Some.ensures.steps.0 in
    let p = err_from_is_err_and c.from_residual-in_err-outcome.result c.from_residual-in_err-outcome.ensures.1 in
    subst (AreImported c.args.bytes.now c.args.mapping (g.S.Sink.held c.args.sink.now) (g.S.Sink.held c.import_one.new.sink)) (sym (p.1 ∙ ap Err p.2))
    (stopped c.args.bytes.now c.args.mapping (g.S.Sink.held c.args.sink.now) (g.S.Sink.held c.loop-trace.sink) (g.S.Sink.held c.import_one.new.sink)
    c.in_ok-traces.traces.items c.loop-trace.yielded c.in-Some.trace c.next.new.self.rest.items c.loop-trace.outcomes.items so_far.1 c.in_err-outcome.field-0.0
    c.in_ok-traces.ensures left so_far.2 so_far.3 c.in_err-outcome.ensures.written)

pub returns-in_err-map_err-clause-written : goal.returns-in_err-map_err-clause-written
returns-in_err-map_err-clause-written g c =
    let so_far = c.loop-trace.invariant in
    let one = c.in_ok-outcome.ensures.written in
    let left = sym c.into_iter-trace-iterator.ensures.into_iter_gives.0 ∙ so_far.0 ∙ ap (λ rest. c.loop-trace.yielded ++ rest) c.in-Some.ensures.steps.0 in
    let p = err_from_is_err_and c.from_residual-in_err-map_err.result c.from_residual-in_err-map_err.ensures.1 in
    subst (AreImported c.args.bytes.now c.args.mapping (g.S.Sink.held c.args.sink.now) (g.S.Sink.held c.import_one.new.sink)) (sym (p.1 ∙ ap Err p.2))
    (cut_short c.args.bytes.now c.args.mapping (g.S.Sink.held c.args.sink.now) (g.S.Sink.held c.import_one.new.sink)
    c.in_ok-traces.traces.items (c.loop-trace.yielded ++ c.in-Some.trace ∷ []) c.next.new.self.rest.items (c.loop-trace.outcomes.items ++ c.in_ok-outcome.outcome ∷ []) (so_far.1 ++ one.0)
    c.in_ok-traces.ensures (left ∙ sym (append_assoc c.loop-trace.yielded (c.in-Some.trace ∷ []) c.next.new.self.rest.items))
    (one_more c.args.mapping c.loop-trace.yielded c.loop-trace.outcomes.items so_far.1 c.in-Some.trace c.in_ok-outcome.outcome one.0 so_far.2 one.1)
    (Appends-trans (g.S.Sink.held c.args.sink.now) (g.S.Sink.held c.loop-trace.sink) (g.S.Sink.held c.import_one.new.sink) so_far.1 one.0 so_far.3 one.2))
