use Rattle.std.proofs.Common.{◌≡◌, [], ◌∷◌, ◌++◌, List, length, append_assoc, refl, sym, ap, subst, ◌∙◌, arith}
use Rattle.std.proofs.lemmas.List.{append-nil}
use Rattle.trace_spans.specs.declared.span.Span.{Span}
use Rattle.trace_spans.specs.Groups.{AreGroups}
use Rattle.trace_spans.specs.Traces.{ids_of}
use Rattle.trace_spans.proofs.Grouping.{none_left}
use Rattle.trace_spans.proofs.traces.grouped.Goals as goal

pub loop-span-init : goal.loop-span-init
unfolding ids_of
loop-span-init c = (refl, c.new-groups.ensures)

pub loop-span-preserved : goal.loop-span-preserved
loop-span-preserved c =
    let so_far = c.loop-span.invariant in (
      so_far.0
          ∙ ap (λ rest. c.loop-span.yielded ++ rest) c.in-Some.ensures.steps.0
          ∙ sym (append_assoc c.loop-span.yielded (c.in-Some.span ∷ []) c.next.new.self.rest.items),
      c.in_ok-add.ensures c.loop-span.yielded so_far.1,
    )

pub returns : goal.returns
returns c =
    let none : length c.loop-span.span-iterator.rest.items ≡ 0 = let empty = c.in-None.ensures.steps.0 in let fits = c.loop-span.span-iterator.rest.ok.0 in omega (arith, empty, fits) in
    let all : c.loop-span.yielded ≡ c.args.spans =
    sym (append-nil c.loop-span.yielded)
    ∙ ap (λ rest. c.loop-span.yielded ++ rest) (sym (none_left c.loop-span.span-iterator.rest.items none))
    ∙ sym c.loop-span.invariant.0
    ∙ c.into_iter-span-iterator.ensures.into_iter_gives.0
    ∙ c.into_vec-span-items.ensures in
    subst (λ (spans : List Span). AreGroups c.loop-span.groups (ids_of spans) spans) all c.loop-span.invariant.1
