use Rattle.std.proofs.Common.{◌≡◌, ◌+◌, ◌++◌, [], ◌∷◌, ◌∙◌, ap, arith, drop, map, subst, sym, take}
use Rattle.std.proofs.lemmas.List.{drop_more, map-append, take-append-drop, take_more}
use Rattle.trace_relations.specs.Clocks.{clock_of}
use Rattle.trace_relations.specs.KeptMoves.{HasClocks}
use Rattle.trace_relations.proofs.clocks.clocks_of.Goals as goal

pub loop-place-preserved : goal.loop-place-preserved
loop-place-preserved c =
    let spans = c.args.spans.now in
    let i = c.loop-place.place in
    let x = c.index-spans-place.result in
    let more : take (i + 1) spans ≡ take i spans ++ x ∷ [] = take_more spans i x (omega arith) ∙ ap (λ y. take i spans ++ y ∷ []) (sym c.index-spans-place.is) in
    let left : drop i spans ≡ x ∷ drop (i + 1) spans = drop_more spans i x (omega arith) ∙ ap (λ y. y ∷ drop (i + 1) spans) (sym c.index-spans-place.is) in
    let whole : spans ≡ take i spans ++ x ∷ drop (i + 1) spans = sym (take-append-drop i spans) ∙ ap (λ rest. take i spans ++ rest) left in
    let are = c.deref.ensures.value ∙ c.loop-place.invariant.clocks in
    let clock = c.in_ok-clock.ensures.clock spans (drop (i + 1) spans) whole are c.loop-place.invariant.known in
    record {
      clocks = c.in_ok-push.ensures.items ∙ ap (λ those. those ++ c.in_ok-clock.clock ∷ []) c.loop-place.invariant.clocks ∙ ap (λ k. map (clock_of spans) (take i spans) ++ k ∷ []) clock
          ∙ sym (map-append (clock_of spans) (take i spans) (x ∷ [])) ∙ ap (map (clock_of spans)) (sym more);
      known = subst (HasClocks c.next_clock.new.known) (sym more) (c.in_ok-clock.ensures.known spans are c.loop-place.invariant.known);
    }
