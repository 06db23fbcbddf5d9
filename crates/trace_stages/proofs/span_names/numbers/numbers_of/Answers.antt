use Rattle.std.proofs.Common.{◌≡◌, ℕ, ◌+◌, [], ◌∷◌, ◌++◌, Global, Option, Some, None, Vec, ap, get_or, sym, subst, take, ◌∙◌}
use Rattle.std.specs.Prelude.{option_map, slice_get}
use Rattle.std.proofs.lemmas.List.{take_more, take_all}
use Rattle.trace_stages.specs.Numbers.{AreCounts, AreNumbers}
use Rattle.trace_stages.proofs.Counting.{counted, numbered, uncounted, unnumbered}
use Rattle.trace_stages.proofs.span_names.numbers.numbers_of.Goals as goal
use Rattle.trace_stages.proofs.span_names.numbers.numbers_of.Goals.{in-Some+in_ok-count, in_default}

pub loop-place-preserved : goal.loop-place-preserved
loop-place-preserved c =
    let bases = c.as_slice-bases.result.now in
    let order = c.args.order.now in
    let i = c.loop-place.place-index in
    let x = get_or order i 0 in
    let more = take_more order i 0 c.loop-place-test.true in
    elim c.match-base_at.branch [
      | in-Some+in_ok-count w ↦
          let at : slice_get bases x ≡ Some w.in-Some.base.now = sym c.base_at.ensures ∙ ap (option_map (λ base. base.now)) w.in-Some.is in
          record {
            counted = subst (λ those. AreCounts c.match-base_at.counts bases those) (sym more)
                (subst (λ counts. AreCounts counts bases (take i order ++ x ∷ [])) (sym w.counts-is)
                (counted c.loop-place.counts w.count.new.counts bases w.in-Some.base.now (take i order) x (w.count_of-number.result + 1) at c.loop-place.invariant.counted (ap (λ n. n + 1) w.count_of-number.ensures) w.in_ok-count.ensures));
            numbered = subst (λ those. AreNumbers c.match-base_at.numbers.items bases those) (sym more)
                (subst (λ (numbers : Vec (Option ℕ) Global). AreNumbers numbers.items bases (take i order ++ x ∷ [])) (sym w.numbers-is)
                (numbered c.loop-place.numbers.items w.give.new.numbers.items bases w.in-Some.base.now (take i order) x (w.count_of-number.result + 1) at c.loop-place.invariant.numbered (ap (λ n. n + 1) (w.count_of-number.ensures ∙ c.loop-place.invariant.counted w.in-Some.base.now)) w.give.ensures.len w.give.ensures.given));
          }
      | in_default w ↦
          let at : slice_get bases x ≡ None = sym c.base_at.ensures ∙ ap (option_map (λ base. base.now)) w.in_default.is in
          record {
            counted = subst (λ those. AreCounts c.match-base_at.counts bases those) (sym more)
                (subst (λ counts. AreCounts counts bases (take i order ++ x ∷ [])) (sym w.counts-is)
                (uncounted c.loop-place.counts bases (take i order) x at c.loop-place.invariant.counted));
            numbered = subst (λ those. AreNumbers c.match-base_at.numbers.items bases those) (sym more)
                (subst (λ (numbers : Vec (Option ℕ) Global). AreNumbers numbers.items bases (take i order ++ x ∷ [])) (sym w.numbers-is)
                (unnumbered c.loop-place.numbers.items bases (take i order) x at c.loop-place.invariant.numbered));
          }
    ]

pub returns : goal.returns
returns c =
    let counts = c.loop-place.counts in
    let numbers = c.loop-place.numbers.items in
    let all = take_all c.loop-place.place-index c.args.order.now c.loop-place-test.false in (
      subst (λ bases. AreCounts counts bases c.args.order.now) c.as_slice-bases.ensures (subst (AreCounts counts c.as_slice-bases.result.now) all c.loop-place.invariant.counted),
      subst (λ bases. AreNumbers numbers bases c.args.order.now) c.as_slice-bases.ensures (subst (AreNumbers numbers c.as_slice-bases.result.now) all c.loop-place.invariant.numbered),
    )
