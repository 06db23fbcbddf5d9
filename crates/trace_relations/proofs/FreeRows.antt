-- Places in a row, of which some are taken.
use Rattle.std.proofs.Common.{◌≡◌, ℕ, inl, inr, ◌+◌, ◌-◌, ◌<◌, ◌≤◌, [], ◌∷◌, ◌++◌, Bool, true, false, cond, eqb, get_or, length, set, Some, None, refl, sym, ap, ◌∙◌, arith}
use Rattle.std.specs.Prelude.{Option, slice_get, unwrap_or}
use Rattle.std.proofs.lemmas.Bool.{cases_lt, false≢true, cond-false, cond-true, eq-eqb, ne_eqb}
use Rattle.std.proofs.lemmas.List.{length-set, length_push}
use Rattle.std.proofs.lemmas.Option.{none-some, slice_get-get_or, slice_get_within}
use Rattle.trace_relations.specs.declared.free_places.FreePlaces.{FreePlaces}
use Rattle.trace_relations.specs.FreePlaces.{AreFree, IsFirstFree, IsFirstFrom, NoneIsFree, with_free}
use Rattle.trace_relations.proofs.Gets.{slice_get-set, slice_get_push}

pub with_free_here : (free : ℕ → Bool) (place : ℕ) (b : Bool) (other : ℕ) → other ≡ place → with_free free place b other ≡ b
with_free_here free place b other e = cond-true (eqb other place) b (free other) (eq-eqb other place e)

pub with_free_there : (free : ℕ → Bool) (place : ℕ) (b : Bool) (other : ℕ) → (other ≡ place → ⊥) → with_free free place b other ≡ free other
with_free_there free place b other ne = cond-false (eqb other place) b (free other) (ne_eqb other place ne)

taken_anyway : (b x : Bool) → x ≡ false → cond b false x ≡ false
taken_anyway true x e = refl
taken_anyway false x e = e

-- no places
pub none_free : (places : FreePlaces) → places.next.items ≡ [] → AreFree places 0 (λ place. true)
none_free places is =
    let none : (place next : ℕ) → slice_get places.next.items place ≡ Some next → ⊥ = λ place next h. none-some next (sym (ap (λ xs. slice_get xs place) is) ∙ h) in
    record {
      count_is = ap length is;
      not_before = λ place next h. absurd (none place next h);
      free_here = λ place h. refl;
      taken_until = λ place next other h from until. absurd (none place next h);
    }

-- one more, which is free
pub one_more_free : (old new : FreePlaces) (place count : ℕ) (free : ℕ → Bool) → place ≡ length old.next.items → new.next.items ≡ old.next.items ++ place ∷ [] → AreFree old count free → AreFree new (count + 1) (with_free free count true)
one_more_free old new place count free at is are =
    let count_is = are.count_is in
    record {
      count_is = ap length is ∙ length_push old.next.items place ∙ ap (λ n. n + 1) are.count_is;
      not_before = λ p n h. elim (slice_get_push old.next.items place p n (sym (ap (λ xs. slice_get xs p) is) ∙ h)) [
        | inl o ↦ let b = are.not_before p n o in (b.0, omega arith)
        | inr q ↦ (omega arith, omega arith)
      ];
      free_here = λ p h. elim (slice_get_push old.next.items place p p (sym (ap (λ xs. slice_get xs p) is) ∙ h)) [
        | inl o ↦ let lt = slice_get_within old.next.items p p o in with_free_there free count true p (λ e. omega arith) ∙ are.free_here p o
        | inr q ↦ with_free_here free count true p (omega arith)
      ];
      taken_until = λ p n other h from until. elim (slice_get_push old.next.items place p n (sym (ap (λ xs. slice_get xs p) is) ∙ h)) [
        | inl o ↦ let b = are.not_before p n o in with_free_there free count true other (λ e. omega arith) ∙ are.taken_until p n other o from until
        | inr q ↦ absurd (omega arith)
      ];
    }

-- a place that is taken
pub one_taken : (old new : FreePlaces) (place count : ℕ) (free : ℕ → Bool) → AreFree old count free → place < count → new.next.items ≡ set old.next.items place (place + 1) → AreFree new count (with_free free place false)
one_taken old new place count free are lt is = record {
  count_is = ap length is ∙ length-set old.next.items place (place + 1) ∙ are.count_is;
  not_before = λ p n h. elim (slice_get-set old.next.items place p (place + 1) n (sym (ap (λ xs. slice_get xs p) is) ∙ h)) [
    | inl q ↦ (omega arith, omega arith)
    | inr q ↦ are.not_before p n q.1
  ];
  free_here = λ p h. elim (slice_get-set old.next.items place p (place + 1) p (sym (ap (λ xs. slice_get xs p) is) ∙ h)) [
    | inl q ↦ absurd (omega arith)
    | inr q ↦ with_free_there free place false p q.0 ∙ are.free_here p q.1
  ];
  taken_until = λ p n other h from until. elim (slice_get-set old.next.items place p (place + 1) n (sym (ap (λ xs. slice_get xs p) is) ∙ h)) [
    | inl q ↦ with_free_here free place false other (omega arith)
    | inr q ↦ taken_anyway (eqb other place) (free other) (are.taken_until p n other q.1 from until)
  ];
}

-- a place on the way to the first free one knows that
pub one_shortened : (old new : FreePlaces) (place from to count : ℕ) (free : ℕ → Bool) → from ≤ place → place < to → new.next.items ≡ set old.next.items place to → IsFirstFrom count free from to → AreFree old count free → AreFree new count free
one_shortened old new place from to count free here before is first are =
    let within : to ≤ count = first.not_after (omega arith) in
    record {
      count_is = ap length is ∙ length-set old.next.items place to ∙ are.count_is;
      not_before = λ p n h. elim (slice_get-set old.next.items place p to n (sym (ap (λ xs. slice_get xs p) is) ∙ h)) [
        | inl q ↦ (omega arith, omega arith)
        | inr q ↦ are.not_before p n q.1
      ];
      free_here = λ p h. elim (slice_get-set old.next.items place p to p (sym (ap (λ xs. slice_get xs p) is) ∙ h)) [
        | inl q ↦ absurd (omega arith)
        | inr q ↦ are.free_here p q.1
      ];
      taken_until = λ p n other h after until. elim (slice_get-set old.next.items place p to n (sym (ap (λ xs. slice_get xs p) is) ∙ h)) [
        | inl q ↦ first.taken_until other (omega arith) (omega arith)
        | inr q ↦ are.taken_until p n other q.1 after until
      ];
    }

-- ---- the way to the first free place

-- no place from one on is free, up to another, which is behind it at most where a place knows it
pub record AreTaken (count : ℕ) (free : ℕ → Bool) (from place : ℕ) : Type 0 where
  pub not_before : from ≤ place
  pub not_after : from < place → place ≤ count
  pub taken_until : (other : ℕ) → from ≤ other → other < place → free other ≡ false

pub none_taken : (count : ℕ) (free : ℕ → Bool) (from place : ℕ) → place ≡ from → AreTaken count free from place
none_taken count free from place e = record {
  not_before = omega arith;
  not_after = λ lt. absurd (omega arith);
  taken_until = λ other after before. absurd (omega arith);
}

known_next : (o : Option ℕ) (place : ℕ) → place < unwrap_or o place → o ≡ Some (unwrap_or o place)
known_next None place lt = absurd (omega arith)
known_next (Some next) place lt = refl

taken_on : (places : FreePlaces) (count : ℕ) (free : ℕ → Bool) (from place next other : ℕ) → AreFree places count free → slice_get places.next.items place ≡ Some next → AreTaken count free from place → from ≤ other → other < next → free other ≡ false
taken_on places count free from place next other are is so_far after before = elim (cases_lt other place) [
  | inl lt ↦ so_far.taken_until other after lt
  | inr le ↦ are.taken_until place next other is le before
]

-- on to the place that a place knows
pub more_taken : (places : FreePlaces) (count : ℕ) (free : ℕ → Bool) (from place next : ℕ) → AreFree places count free → next ≡ unwrap_or (slice_get places.next.items place) place → place < next → AreTaken count free from place → AreTaken count free from next
more_taken places count free from place next are is lt so_far =
    let known : slice_get places.next.items place ≡ Some next = known_next (slice_get places.next.items place) place (omega arith) ∙ ap Some (sym is) in
    let b = are.not_before place next known in
    let here = so_far.not_before in
    record {
      not_before = omega arith;
      not_after = λ after. b.1;
      taken_until = λ other after before. taken_on places count free from place next other are known so_far after before;
    }

free_at : (places : FreePlaces) (count : ℕ) (free : ℕ → Bool) (place next : ℕ) → AreFree places count free → slice_get places.next.items place ≡ Some next → next ≤ place → free place ≡ true
free_at places count free place next are is le =
    let b = are.not_before place next is in
    let same : next ≡ place = omega arith in
    are.free_here place (is ∙ ap Some same)

-- a place that knows no other is the first free one, or behind all
pub first_is : (places : FreePlaces) (count : ℕ) (free : ℕ → Bool) (from place next : ℕ) → AreFree places count free → next ≡ unwrap_or (slice_get places.next.items place) place → next ≤ place → AreTaken count free from place → IsFirstFrom count free from place
first_is places count free from place next are is le so_far = record {
  not_before = so_far.not_before;
  not_after = so_far.not_after;
  taken_until = so_far.taken_until;
  free_there = λ lt.
      let within : place < length places.next.items = omega (arith, are.count_is) in
      let known = slice_get-get_or places.next.items place place within in
      free_at places count free place (get_or places.next.items place place) are known (omega (arith, is ∙ ap (λ o. unwrap_or o place) known));
}

-- the way comes to an end
pub further : (places : FreePlaces) (place next : ℕ) → next ≡ unwrap_or (slice_get places.next.items place) place → place < next → length places.next.items - next < length places.next.items - place
further places place next is lt =
    let known = known_next (slice_get places.next.items place) place (omega arith) in
    let within = slice_get_within places.next.items place (unwrap_or (slice_get places.next.items place) place) known in
    omega arith

-- what was found
pub none_is_first : (places : FreePlaces) (count : ℕ) (free : ℕ → Bool) (from place : ℕ) → AreFree places count free → IsFirstFrom count free from place → length places.next.items ≤ place → NoneIsFree count free from
none_is_first places count free from place are first behind = λ other after before. first.taken_until other after (omega (arith, are.count_is))

pub one_is_first : (places : FreePlaces) (count : ℕ) (free : ℕ → Bool) (from place : ℕ) → AreFree places count free → IsFirstFrom count free from place → place < length places.next.items → IsFirstFree count free from place
one_is_first places count free from place are first within =
    let lt : place < count = omega (arith, are.count_is) in
    (first.not_before, lt, first.free_there lt, first.taken_until)

pub count_below : (places : FreePlaces) (count : ℕ) (free : ℕ → Bool) (place : ℕ) → AreFree places count free → place < length places.next.items → place < count
count_below places count free place are within = omega (arith, are.count_is)

-- where all are free, one more leaves all free
with_true : (b : Bool) → cond b true true ≡ true
with_true true = refl
with_true false = refl

pub still_free : (places : FreePlaces) (count long : ℕ) → long ≡ count + 1 → AreFree places (count + 1) (with_free (λ place. true) count true) → AreFree places long (λ place. true)
still_free places count long e are = record {
  count_is = are.count_is ∙ sym e;
  not_before = λ place next is. let b = are.not_before place next is in (b.0, omega arith);
  free_here = λ place is. refl;
  taken_until = λ place next other is after before. absurd (false≢true (sym (are.taken_until place next other is after before) ∙ with_true (eqb other count)));
}
