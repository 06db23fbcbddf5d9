use Rattle.std.proofs.Common.{◌≡◌, [], ◌∷◌, ◌++◌, length, append_assoc, refl, sym, ap, ◌∙◌, arith, false}
use Rattle.std.proofs.lemmas.List.{append-nil}
use Rattle.trace_spans.specs.Traces.{spans_in, traces_of}
use Rattle.trace_spans.proofs.Grouping.{no_part_left, spans_in_more}
use Rattle.trace_spans.proofs.traces.joined_traces.Goals as goal

pub loop-part-init : goal.loop-part-init
loop-part-init c = (refl, c.new-spans.ensures)

pub loop-part-preserved : goal.loop-part-preserved
loop-part-preserved c =
    let so_far = c.loop-part.invariant in (
      so_far.0
          ∙ ap (λ rest. c.loop-part.yielded ++ rest) c.in-Some.ensures.steps.0
          ∙ sym (append_assoc c.loop-part.yielded (c.in-Some.part ∷ []) c.next.new.self.rest.items),
      c.in_ok-append.ensures ∙ ap (λ spans. spans ++ c.in-Some.part.spans) so_far.1 ∙ sym (spans_in_more c.loop-part.yielded c.in-Some.part),
    )

pub returns : goal.returns
returns c =
    let none : length c.loop-part.part-iterator.rest.items ≡ 0 = let empty = c.in-None.ensures.steps.0 in let fits = c.loop-part.part-iterator.rest.ok.0 in omega (arith, empty, fits) in
    let all : c.loop-part.yielded ≡ c.args.parts.items =
    sym (append-nil c.loop-part.yielded)
    ∙ ap (λ rest. c.loop-part.yielded ++ rest) (sym (no_part_left c.loop-part.part-iterator.rest.items none))
    ∙ sym c.loop-part.invariant.0
    ∙ c.into_iter-part-iterator.ensures.into_iter_gives.0 in
    c.in_ok-traces.ensures ∙ ap (λ spans. traces_of (record { spans = spans; is_cut = false })) (c.loop-part.invariant.1 ∙ ap spans_in all)
