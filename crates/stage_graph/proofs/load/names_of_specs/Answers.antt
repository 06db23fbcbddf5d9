use Rattle.std.proofs.Common.{◌≡◌, ◌∙◌, ◌+◌, ◌-◌, ◌∷◌, ℕ, List, Option, false, not, is_some, drop, sym, ap, subst, arith}
use Rattle.std.specs.List.{position_from}
use Rattle.std.specs.Str.{bytes_eq}
use Rattle.std.proofs.lemmas.Bool.{true≢false}
use Rattle.std.proofs.lemmas.Iterator.Adapters.{position_from-zero}
use Rattle.std.proofs.lemmas.List.{drop_more}
use Rattle.stage_graph.specs.declared.stage.Spec.{Spec}
use Rattle.stage_graph.specs.Loading.{AreFirst}
use Rattle.stage_graph.specs.Names.{first_place}
use Rattle.stage_graph.proofs.Distinct.{Sets, first_with, none_of, own_with}
use Rattle.stage_graph.proofs.Lists.{same_function}
use Rattle.stage_graph.proofs.load.names_of_specs.Goals as goal

pub loop-place-preserved-then-are_distinct : goal.loop-place-preserved-then-are_distinct
loop-place-preserved-then-are_distinct c =
    let specs = c.args.specs.now in
    let place = c.loop-place.place in
    let spec = c.index-specs-place.result in
    let next : place ≡ place - 1 + 1 = omega (arith, c.loop-place-test.true) in
    let from : drop (place - 1) specs ≡ spec ∷ drop place specs =
    drop_more specs (place - 1) spec (omega (arith, c.loop-place.auto.place, c.loop-place-test.true)) ∙ ap (λ one. one ∷ drop (place - 1 + 1) specs) (sym c.index-specs-place.is) ∙ ap (λ k. spec ∷ drop k specs) (sym next) in
    let name : c.as_str.result.now ≡ spec.name = c.as_str.ensures ∙ ap (λ (spec : Spec). spec.name) (sym c.index-specs-place.is) in
    let sets = subst (Sets (first_place c.loop-place.names) (first_place c.set.new.self) (place - 1)) name c.in_ok-is_new.ensures.sets in
    record {
      first = λ name. first_with (first_place c.loop-place.names) (first_place c.set.new.self) spec (place - 1) place (drop place specs) next sets c.loop-place.invariant.first name
          ∙ ap (position_from (λ (spec : Spec). bytes_eq spec.name name) (place - 1)) (sym from);
      distinct = λ is_new.
          let none = none_of (first_place c.loop-place.names spec.name) (subst (λ (name : List ℕ). is_some (first_place c.loop-place.names name) ≡ not c.in_ok-is_new.is_new) name c.in_ok-is_new.ensures.new ∙ ap not is_new) in
          subst (AreFirst (first_place c.set.new.self) (place - 1)) (sym from)
          (own_with (first_place c.loop-place.names) (first_place c.set.new.self) spec (place - 1) place (drop place specs) next sets none (c.loop-place.invariant.distinct c.if-are_distinct.true));
    }

pub loop-place-preserved : goal.loop-place-preserved
loop-place-preserved c =
    let specs = c.args.specs.now in
    let place = c.loop-place.place in
    let spec = c.index-specs-place.result in
    let next : place ≡ place - 1 + 1 = omega (arith, c.loop-place-test.true) in
    let from : drop (place - 1) specs ≡ spec ∷ drop place specs =
    drop_more specs (place - 1) spec (omega (arith, c.loop-place.auto.place, c.loop-place-test.true)) ∙ ap (λ one. one ∷ drop (place - 1 + 1) specs) (sym c.index-specs-place.is) ∙ ap (λ k. spec ∷ drop k specs) (sym next) in
    let name : c.as_str.result.now ≡ spec.name = c.as_str.ensures ∙ ap (λ (spec : Spec). spec.name) (sym c.index-specs-place.is) in
    let sets = subst (Sets (first_place c.loop-place.names) (first_place c.set.new.self) (place - 1)) name c.in_ok-is_new.ensures.sets in
    record {
      first = λ name. first_with (first_place c.loop-place.names) (first_place c.set.new.self) spec (place - 1) place (drop place specs) next sets c.loop-place.invariant.first name
          ∙ ap (position_from (λ (spec : Spec). bytes_eq spec.name name) (place - 1)) (sym from);
      distinct = λ distinct. absurd (true≢false (sym distinct ∙ c.if-are_distinct.false));
    }

pub returns-clause-table : goal.returns-clause-table
returns-clause-table c = λ name.
    let first : c.loop-place.place ≡ 0 = omega (arith, c.loop-place-test.false) in
    c.in_ok-of.ensures name
    ∙ c.loop-place.invariant.first name
    ∙ ap (λ k. position_from (λ (spec : Spec). bytes_eq spec.name name) k (drop k c.args.specs.now)) first
    ∙ sym (position_from-zero (λ (spec : Spec). bytes_eq spec.name name) c.args.specs.now)

pub returns-clause-distinct : goal.returns-clause-distinct
returns-clause-distinct c = λ distinct.
    let first : c.loop-place.place ≡ 0 = omega (arith, c.loop-place-test.false) in
    let places = λ (name : List ℕ).
    c.loop-place.invariant.first name
    ∙ ap (λ k. position_from (λ (spec : Spec). bytes_eq spec.name name) k (drop k c.args.specs.now)) first
    ∙ sym (position_from-zero (λ (spec : Spec). bytes_eq spec.name name) c.args.specs.now) in
    subst (λ (find : List ℕ → Option ℕ). AreFirst find 0 c.args.specs.now) (same_function places)
    (subst (λ k. AreFirst (first_place c.loop-place.names) k (drop k c.args.specs.now)) first (c.loop-place.invariant.distinct distinct))
