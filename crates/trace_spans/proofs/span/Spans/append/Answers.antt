use Rattle.std.proofs.Common.{◌≡◌, [], ◌∷◌, ◌++◌, length, append_assoc, refl, sym, ap, ◌∙◌, arith}
use Rattle.std.proofs.lemmas.List.{append-nil}
use Rattle.trace_spans.proofs.Grouping.{none_left}
use Rattle.trace_spans.proofs.span.Spans.append.Goals as goal

pub loop-span-init : goal.loop-span-init
loop-span-init c = (refl, sym (append-nil c.args.self.now))

pub loop-span-preserved : goal.loop-span-preserved
loop-span-preserved c =
    let so_far = c.loop-span.invariant in (
      so_far.0
          ∙ ap (λ rest. c.loop-span.yielded ++ rest) c.in-Some.ensures.steps.0
          ∙ sym (append_assoc c.loop-span.yielded (c.in-Some.span ∷ []) c.next.new.self.rest.items),
      c.in_ok-push.ensures.added ∙ ap (λ spans. spans ++ c.in-Some.span ∷ []) so_far.1 ∙ append_assoc c.args.self.now c.loop-span.yielded (c.in-Some.span ∷ []),
    )

pub returns : goal.returns
returns c =
    let none : length c.loop-span.span-iterator.rest.items ≡ 0 = let empty = c.in-None.ensures.steps.0 in let fits = c.loop-span.span-iterator.rest.ok.0 in omega (arith, empty, fits) in
    let all : c.loop-span.yielded ≡ c.args.more =
    sym (append-nil c.loop-span.yielded)
    ∙ ap (λ rest. c.loop-span.yielded ++ rest) (sym (none_left c.loop-span.span-iterator.rest.items none))
    ∙ sym c.loop-span.invariant.0
    ∙ c.into_iter-span-iterator.ensures.into_iter_gives.0
    ∙ c.into_vec-span-items.ensures in
    c.loop-span.invariant.1 ∙ ap (λ spans. c.args.self.now ++ spans) all
