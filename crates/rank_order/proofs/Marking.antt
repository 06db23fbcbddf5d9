-- Marks by any ranks: one more, one less, and those of the least rank removed.
use Rattle.std.proofs.Common.{◌≡◌, ℕ, ◌<◌, ◌≤◌, ◌≢◌, ◌⊎◌, Bool, true, false, List, [], ◌∷◌, ◌++◌, length, get_or, refl, ap, sym, ◌∙◌, subst, inl, inr, arith}
use Rattle.std.specs.Prelude.{not, ◌==◌, ◌&&◌, ◌||◌, AllPairs}
use Rattle.std.proofs.lemmas.Bool.{eqb-true, eq-eqb, eqb-false, cases_Bool, cases_order, or_cases, or_left, or_right, and_parts, and_from, not-true, false≢true}
use Rattle.std.proofs.Math.Bool.{or-false}
use Rattle.std.proofs.lemmas.List.Elements.{Contains-get_or}
use Rattle.std.proofs.lemmas.List.Quantifiers.{all_pairs_push}
use Rattle.rank_order.specs.Lists.{is_among}
use Rattle.rank_order.specs.Marks.{has_mark, has_place, is_marked, AreMarks, AreLeft, ComesBefore, IsFirst, IsPopped}
use Rattle.rank_order.specs.MarkHeaps.{IsMarkedAs}
use Rattle.rank_order.proofs.Members.{same_tests, contains_among, among_append, among_push_cases}

-- by its own rank a place is marked where it is that place
own_mark : (ranks : ℕ → ℕ) (rank place other : ℕ) → rank ≡ ranks place → (ranks other == rank && other == place) ≡ (other == place)
own_mark ranks rank place other own =
    same_tests (ranks other == rank && other == place) (other == place)
    (λ both. (and_parts (ranks other == rank) (other == place) both).1)
    (λ same. and_from (ranks other == rank) (other == place) (eq-eqb (ranks other) rank (ap ranks (eqb-true other place same) ∙ sym own)) same)

-- where there are no marks, no place has one
pub none_marked : (marks : List (ℕ × ℕ)) → length marks ≡ 0 → (rank place : ℕ) → has_mark marks rank place ≡ false
none_marked [] none rank place = refl
none_marked (mark ∷ marks) none rank place = absurd (omega arith)

pub no_marks : (marks : List (ℕ × ℕ)) → length marks ≡ 0 → (ranks : ℕ → ℕ) → AreMarks ranks marks
no_marks marks none ranks rank place has = absurd (false≢true (sym (none_marked marks none rank place) ∙ has))

pub marks_left : (marks left : List (ℕ × ℕ)) → AreLeft marks left → (ranks : ℕ → ℕ) → AreMarks ranks marks → AreMarks ranks left
marks_left marks left yet ranks are rank place has = are rank place (yet rank place has)

-- a place that is marked with any rank is marked with its own
pub marked_by : (ranks : ℕ → ℕ) (marks : List (ℕ × ℕ)) → AreMarks ranks marks → (place : ℕ) → has_place marks place ≡ true → is_marked ranks marks place ≡ true
marked_by ranks marks are place has = let (rank, here) = some_rank marks place has in subst (λ r. has_mark marks r place ≡ true) (are rank place here) here where
  some_rank : (marks : List (ℕ × ℕ)) (place : ℕ) → has_place marks place ≡ true → (rank : ℕ) × (has_mark marks rank place ≡ true)
  some_rank [] place has = absurd (false≢true has)
  some_rank (mark ∷ marks) place has = elim (or_cases (place == mark.1) (has_place marks place) has) [
    | inl same ↦ (mark.0, or_left (mark.0 == mark.0 && mark.1 == place) (has_mark marks mark.0 place) (and_from (mark.0 == mark.0) (mark.1 == place) (eq-eqb mark.0 mark.0 refl) (eq-eqb mark.1 place (sym (eqb-true place mark.1 same)))))
    | inr later ↦ let (rank, here) = some_rank marks place later in (rank, or_right (mark.0 == rank && mark.1 == place) (has_mark marks rank place) here)
  ]

-- to mark it again changes nothing
pub marked_again : (marked : ℕ → Bool) (place other : ℕ) → marked place ≡ true → marked other ≡ (marked other || other == place)
marked_again marked place other here = by (marked other) (other == place) (λ same. ap marked (eqb-true other place same) ∙ here) where
  by : (was same : Bool) → (same ≡ true → was ≡ true) → was ≡ (was || same)
  by true same h = refl
  by false true h = h refl
  by false false h = refl

pub stays : (old new : List (ℕ × ℕ)) (rank place : ℕ) → IsPopped old new rank place → AreLeft old new
stays old new rank place popped other_rank other has =
    (and_parts (has_mark old other_rank other) (not (other_rank == rank && other == place)) (sym (popped.rest other_rank other) ∙ has)).0

module _ (ranks : ℕ → ℕ) (old new : List (ℕ × ℕ)) (rank place : ℕ) where
  module _ (told : IsMarkedAs old new rank place) (own : rank ≡ ranks place) where
    -- one more mark
    pub marked_more : (other : ℕ) → is_marked ranks new other ≡ (is_marked ranks old other || other == place)
    marked_more other = elim (cases_Bool (other == place)) [
      | inl same ↦
          ap (λ x. has_mark new (ranks x) x) (eqb-true other place same)
          ∙ ap (λ r. has_mark new r place) (sym own)
          ∙ told.here
          ∙ sym (or_right (is_marked ranks old other) (other == place) same)
      | inr apart ↦ told.others (ranks other) other apart ∙ sym (ap (λ b. is_marked ranks old other || b) apart ∙ or-false (is_marked ranks old other))
    ]

    pub marks_more : AreMarks ranks old → AreMarks ranks new
    marks_more are other_rank other has = elim (cases_Bool (other == place)) [
      | inl same ↦
          let here : other ≡ place = eqb-true other place same in
          elim (told.ranks other_rank (ap (has_mark new other_rank) (sym here) ∙ has)) [
            | inl given ↦ given ∙ own ∙ ap ranks (sym here)
            | inr was ↦ are other_rank place was ∙ ap ranks (sym here)
          ]
      | inr apart ↦ are other_rank other (sym (told.others other_rank other apart) ∙ has)
    ]

  module _ (popped : IsPopped old new rank place) (are : AreMarks ranks old) where
    own : rank ≡ ranks place
    own = are rank place popped.here

    comes : (other : ℕ) → (rank < ranks other) ⊎ ((rank ≡ ranks other) × (place ≤ other)) → (place ≡ other) ⊎ ComesBefore ranks place other
    comes other (inl lower) = inr (inl (omega (arith, own)))
    comes other (inr (same, le)) = elim (cases_order place other) [
      | inl here ↦ inl here
      | inr apart ↦ elim apart [ inl below ↦ inr (inr (sym own ∙ same, below)) | inr above ↦ absurd (omega arith) ]
    ]

    -- one mark less
    pub first_taken : IsFirst ranks (is_marked ranks old) (is_marked ranks new) place
    first_taken = record {
      here = subst (λ r. has_mark old r place ≡ true) own popped.here;
      least = λ other has. comes other (popped.least (ranks other) other has);
      rest = λ other. popped.rest (ranks other) other ∙ ap (λ b. is_marked ranks old other && not b) (own_mark ranks rank place other own);
    }

-- Some of the marks of the least rank are removed, and are in the level in ascending order.
pub record IsTaking (ranks : ℕ → ℕ) (was now : List (ℕ × ℕ)) (rank : ℕ) (level : List ℕ) : Type 0 where
  pub are : AreMarks ranks now
  pub split : (place : ℕ) → is_marked ranks was place ≡ (is_among place level || is_marked ranks now place)
  pub level_rank : (place : ℕ) → is_among place level ≡ true → ranks place ≡ rank
  pub before : (one other : ℕ) → is_among one level ≡ true → is_marked ranks now other ≡ true → ranks other ≡ rank → one < other
  pub ascends : AllPairs (λ one other. one < other) level

-- one more mark of the rank is removed
pub taking_more : (ranks : ℕ → ℕ) (was old new : List (ℕ × ℕ)) (rank place : ℕ) (level : List ℕ) → IsTaking ranks was old rank level → IsPopped old new rank place → IsTaking ranks was new rank (level ++ place ∷ [])
taking_more ranks was old new rank place level taking popped =
    let first = first_taken ranks old new rank place popped taking.are in
    let here : ranks place ≡ rank = sym (taking.are rank place popped.here) in
    record {
      are = marks_left old new (stays old new rank place popped) ranks taking.are;
      split = λ other.
          taking.split other
          ∙ moved (is_among other level) (is_marked ranks old other) (other == place) (λ same. subst (λ x. is_marked ranks old x ≡ true) (sym (eqb-true other place same)) first.here)
          ∙ ap (λ b. b || (is_marked ranks old other && not (other == place))) (sym (among_append other level (place ∷ [])))
          ∙ ap (λ b. is_among other (level ++ place ∷ []) || b) (sym (first.rest other));
      level_rank = λ other among. elim (among_push_cases other place level among) [ inl yet ↦ taking.level_rank other yet | inr same ↦ ap ranks same ∙ here ];
      before = λ one other among has equal.
          let (marked, apart) = and_parts (is_marked ranks old other) (not (other == place)) (sym (first.rest other) ∙ has) in
          elim (among_push_cases one place level among) [
            | inl yet ↦ taking.before one other yet marked equal
            | inr same ↦ subst (λ x. x < other) (sym same) (next other here equal (eqb-false other place (not-true (other == place) apart)) (first.least other marked))
          ];
      ascends = all_pairs_push (λ one other. one < other) level place taking.ascends
          (λ k d l. taking.before (get_or level k d) place (contains_among (get_or level k d) level (Contains-get_or level k d l)) first.here here);
    } where
      next : (other : ℕ) → ranks place ≡ rank → ranks other ≡ rank → other ≢ place → (place ≡ other) ⊎ ComesBefore ranks place other → place < other
      next other here equal apart (inl same) = absurd (apart (sym same))
      next other here equal apart (inr (inl lower)) = absurd (omega arith)
      next other here equal apart (inr (inr (same, below))) = below

      moved : (among marked same : Bool) → (same ≡ true → marked ≡ true) → (among || marked) ≡ ((among || (same || false)) || (marked && not same))
      moved true marked same told = refl
      moved false true true told = refl
      moved false true false told = refl
      moved false false true told = absurd (false≢true (told refl))
      moved false false false told = refl
