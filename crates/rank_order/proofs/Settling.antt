-- Ranks that are corrected place by place, in the order of the ranks before.
use Rattle.std.proofs.Common.{◌≡◌, ◌≢◌, ℕ, ◌+◌, ◌<◌, ◌≤◌, ◌⊎◌, Bool, true, false, List, [], ◌∷◌, ◌++◌, length, refl, ap, sym, ◌∙◌, subst, inl, inr, arith, length-append}
use Rattle.std.specs.Prelude.{Contains, All, ◌==◌, if◌then◌else◌}
use Rattle.std.proofs.lemmas.Bool.{cases_Bool, cases_eq, true≢false, false≢true, eq-eqb, ne_eqb, cond-true, cond-false}
use Rattle.std.proofs.lemmas.List.Elements.{All-contains}
use Rattle.stage_graph.specs.Walk.{above_all}
use Rattle.rank_order.specs.Lists.{is_among, Ascends}
use Rattle.rank_order.specs.Ranking.{AreRanks, AreRanksBut, IsTraced, AreTraced}
use Rattle.rank_order.specs.Marks.{ComesBefore}
use Rattle.rank_order.proofs.Members.{false_unless, among_contains, among_push_self, among_push_left, among_push_cases, ascends_push}
use Rattle.rank_order.proofs.Listed.{same_above, above_le}
use Rattle.rank_order.proofs.Falling.{below_above, apart_short}

comes_apart : (ranks : ℕ → ℕ) (one other : ℕ) → ComesBefore ranks one other → one ≢ other
comes_apart ranks one other (inl lower) same = let equal = ap ranks same in omega arith
comes_apart ranks one other (inr (equal, below)) same = omega arith

comes_lower : (ranks : ℕ → ℕ) (one other last : ℕ) → ComesBefore ranks one other → ranks other < ranks last → ComesBefore ranks one last
comes_lower ranks one other last (inl lower) less = inl (omega arith)
comes_lower ranks one other last (inr (equal, below)) less = inl (omega arith)

comes_strict : (ranks : ℕ → ℕ) (one other : ℕ) → ComesBefore ranks one other → ComesBefore ranks other one → ⊥
comes_strict ranks one other (inl lower) (inl higher) = omega arith
comes_strict ranks one other (inl lower) (inr (equal, below)) = omega arith
comes_strict ranks one other (inr (equal, below)) (inl higher) = omega arith
comes_strict ranks one other (inr (equal, below)) (inr (same, above)) = omega arith

module _ (feeds : ℕ → List ℕ) (count : ℕ) (moved : List ℕ) (before : ℕ → ℕ) where
  -- the processed places have their new ranks, and a rank may be wrong only at marked places
  pub record IsSettling (looked : List ℕ) (marked : ℕ → Bool) (now : ℕ → ℕ) : Type 0 where
    pub right : (place : ℕ) → marked place ≡ false → now place ≡ above_all now (feeds place)
    pub kept : (place : ℕ) → is_among place looked ≡ false → now place ≡ before place
    pub in_order : (one other : ℕ) → is_among one looked ≡ true → marked other ≡ true → ComesBefore before one other
    pub ascending : Ascends (ComesBefore before) looked
    pub within : (place : ℕ) → (is_among place looked ≡ true) ⊎ (marked place ≡ true) → place < count
    pub small : (place : ℕ) → now place ≤ count + length looked
    pub traces : (place : ℕ) → (is_among place looked ≡ true) ⊎ (marked place ≡ true) → is_among place moved ≡ false → IsTraced feeds before now place

  -- the first of the marked places is processed, and if its rank changes its dependents are marked
  pub record IsStep (marked now_marked : ℕ → Bool) (now next : ℕ → ℕ) (place : ℕ) : Type 0 where
    pub here : marked place ≡ true
    pub least : (other : ℕ) → marked other ≡ true → (place ≡ other) ⊎ ComesBefore before place other
    pub hold : (other : ℕ) → next other ≡ (if other == place then above_all now (feeds place) else now other)
    pub come : (other : ℕ) → now_marked other ≡ true → ((marked other ≡ true) × (other ≢ place)) ⊎ ((above_all now (feeds place) ≢ now place) × Contains (feeds other) place × (is_among other moved ≡ false))
    pub go : (other : ℕ) → now_marked other ≡ false → (marked other ≡ false) ⊎ (other ≡ place)
    pub dependents_marked : (other : ℕ) → now_marked other ≡ false → Contains (feeds other) place → above_all now (feeds place) ≡ now place

  -- as many places were processed as there were turns
  pub record IsSettlingAfter (turns : ℕ) (marked : ℕ → Bool) (now : ℕ → ℕ) : Type 0 where
    pub looked : List ℕ
    pub count_is : length looked ≡ turns
    pub settling : IsSettling looked marked now

  module _ (its_dependents : (dependent feed : ℕ) → Contains (feeds dependent) feed → dependent < count) (are : AreRanksBut moved feeds before) where
    old_lower : (place feed : ℕ) → is_among place moved ≡ false → Contains (feeds place) feed → before feed < before place
    old_lower place feed other has = subst (λ r. before feed < r) (sym (are place other)) (below_above before (feeds place) feed has)

    -- a rank may be wrong only at the moved places
    pub settling_begins : (marked : ℕ → Bool) → ((place : ℕ) → marked place ≡ is_among place moved) → All (λ place. place < count) moved → ((place : ℕ) → before place ≤ count) → IsSettling [] marked before
    settling_begins marked told within small = record {
      right = λ place unmarked. are place (sym (told place) ∙ unmarked);
      kept = λ place none. refl;
      in_order = λ one other none. absurd (false≢true none);
      ascending = tt;
      within = λ place either. elim either [
        | inl none ↦ absurd (false≢true none)
        | inr here ↦ All-contains (λ x. x < count) moved place within (among_contains place moved (sym (told place) ∙ here))
      ];
      small = λ place. let low = small place in omega arith;
      traces = λ place either other. elim either [
        | inl none ↦ absurd (false≢true none)
        | inr here ↦ absurd (true≢false (sym here ∙ told place ∙ other))
      ];
    }

    -- each place whose rank changed was processed
    pub traced : (looked : List ℕ) (marked : ℕ → Bool) (now : ℕ → ℕ) → IsSettling looked marked now → AreTraced moved feeds before now
    traced looked marked now settling place changed other = elim (cases_Bool (is_among place looked)) [
      | inl here ↦ settling.traces place (inl here) other
      | inr none ↦ absurd (changed (settling.kept place none))
    ]

    -- one rank is set, of a marked place
    module _ (looked : List ℕ) (marked : ℕ → Bool) (now next : ℕ → ℕ) (place : ℕ) (settling : IsSettling looked marked now) (here : marked place ≡ true)
        (hold : (other : ℕ) → next other ≡ (if other == place then above_all now (feeds place) else now other)) where
      elsewhere : (other : ℕ) → other ≢ place → next other ≡ now other
      elsewhere other apart = hold other ∙ cond-false (other == place) (above_all now (feeds place)) (now other) (ne_eqb other place apart)

      at_place : next place ≡ above_all now (feeds place)
      at_place = hold place ∙ cond-true (place == place) (above_all now (feeds place)) (now place) (eq-eqb place place refl)

      was_kept : now place ≡ before place
      was_kept = settling.kept place (false_unless (is_among place looked) (λ among. comes_apart before place place (settling.in_order place place among here) refl))

      trace_stays : (other : ℕ) → IsTraced feeds before now other → IsTraced feeds before next other
      trace_stays other trace =
          let apart : trace.feed ≢ place = λ same. trace.changed (subst (λ x. now x ≡ before x) (sym same) was_kept) in
          record { feed = trace.feed; is_feed = trace.is_feed; changed = λ same. trace.changed (sym (elsewhere trace.feed apart) ∙ same); lower = trace.lower }

      -- each change can still be traced
      traced_then : AreTraced moved feeds before next
      traced_then other changed unmoved = elim (cases_eq other place) [
        | inl same ↦ trace_stays other (settling.traces other (inr (subst (λ x. marked x ≡ true) (sym same) here)) unmoved)
        | inr apart ↦ trace_stays other (traced looked marked now settling other (λ same. changed (elsewhere other apart ∙ same)) unmoved)
      ]

    module _ (looked : List ℕ) (marked now_marked : ℕ → Bool) (now next : ℕ → ℕ) (place : ℕ) (settling : IsSettling looked marked now) (step : IsStep marked now_marked now next place) where
      other_stays : (other : ℕ) → other ≢ place → next other ≡ now other
      other_stays other apart = elsewhere looked marked now next place settling step.here step.hold other apart

      now_right : next place ≡ above_all now (feeds place)
      now_right = at_place looked marked now next place settling step.here step.hold

      trace_on : (other : ℕ) → IsTraced feeds before now other → IsTraced feeds before next other
      trace_on other trace = trace_stays looked marked now next place settling step.here step.hold other trace

      -- where the rank changed, no unmarked place has it as a feed
      same_by_feeds : (other : ℕ) → now_marked other ≡ false → above_all now (feeds other) ≡ above_all next (feeds other)
      same_by_feeds other unmarked = same_above now next (feeds other) (λ feed has. elim (cases_eq feed place) [
        | inl same ↦
            let stays : above_all now (feeds place) ≡ now place = step.dependents_marked other unmarked (subst (Contains (feeds other)) same has) in
            subst (λ x. now x ≡ next x) (sym same) (sym (now_right ∙ stays))
        | inr apart ↦ sym (other_stays feed apart)
      ])

      right_then : (other : ℕ) → now_marked other ≡ false → next other ≡ above_all next (feeds other)
      right_then other unmarked = elim (cases_eq other place) [
        | inl same ↦ subst (λ x. next x ≡ above_all now (feeds x)) (sym same) now_right ∙ same_by_feeds other unmarked
        | inr apart ↦ other_stays other apart ∙ settling.right other (elim (step.go other unmarked) [ inl was ↦ was | inr same ↦ absurd (apart same) ]) ∙ same_by_feeds other unmarked
      ]

      kept_then : (other : ℕ) → is_among other (looked ++ place ∷ []) ≡ false → next other ≡ before other
      kept_then other none =
          other_stays other (λ same. true≢false (sym (subst (λ x. is_among x (looked ++ place ∷ []) ≡ true) (sym same) (among_push_self place looked)) ∙ none))
          ∙ settling.kept other (false_unless (is_among other looked) (λ among. true≢false (sym (among_push_left other place looked among) ∙ none)))

      in_order_then : (one other : ℕ) → is_among one (looked ++ place ∷ []) ≡ true → now_marked other ≡ true → ComesBefore before one other
      in_order_then one other among has = elim (step.come other has) [
        | inl was ↦ elim (among_push_cases one place looked among) [
          | inl earlier ↦ settling.in_order one other earlier was.0
          | inr same ↦ elim (step.least other was.0) [
            | inl equal ↦ absurd (was.1 (sym equal))
            | inr comes ↦ subst (λ x. ComesBefore before x other) (sym same) comes
          ]
        ]
        | inr dependent ↦
            let lower : before place < before other = old_lower other place dependent.2 dependent.1 in
            elim (among_push_cases one place looked among) [
              | inl earlier ↦ comes_lower before one place other (settling.in_order one place earlier step.here) lower
              | inr same ↦ subst (λ x. ComesBefore before x other) (sym same) (inl lower)
            ]
      ]

      within_then : (other : ℕ) → (is_among other (looked ++ place ∷ []) ≡ true) ⊎ (now_marked other ≡ true) → other < count
      within_then other either = elim either [
        | inl among ↦ elim (among_push_cases other place looked among) [
          | inl earlier ↦ settling.within other (inl earlier)
          | inr same ↦ subst (λ x. x < count) (sym same) (settling.within place (inr step.here))
        ]
        | inr has ↦ elim (step.come other has) [
          | inl was ↦ settling.within other (inr was.0)
          | inr dependent ↦ its_dependents other place dependent.1
        ]
      ]

      small_then : (other : ℕ) → next other ≤ count + length (looked ++ place ∷ [])
      small_then other =
          let size : length (looked ++ place ∷ []) ≡ length looked + 1 = length-append looked (place ∷ []) in
          elim (cases_eq other place) [
            | inl same ↦
                let low : above_all now (feeds place) ≤ count + length looked + 1 = above_le now (feeds place) (count + length looked + 1) (λ feed has. let less = settling.small feed in omega arith) in
                let is : next other ≡ above_all now (feeds place) = ap next same ∙ now_right in
                omega arith
            | inr apart ↦ let is = other_stays other apart in let low = settling.small other in omega arith
          ]

      traces_then : (other : ℕ) → (is_among other (looked ++ place ∷ []) ≡ true) ⊎ (now_marked other ≡ true) → is_among other moved ≡ false → IsTraced feeds before next other
      traces_then other either unmoved = elim either [
        | inl among ↦ elim (among_push_cases other place looked among) [
          | inl earlier ↦ trace_on other (settling.traces other (inl earlier) unmoved)
          | inr same ↦ trace_on other (settling.traces other (inr (subst (λ x. marked x ≡ true) (sym same) step.here)) unmoved)
        ]
        | inr has ↦ elim (step.come other has) [
          | inl was ↦ trace_on other (settling.traces other (inr was.0) unmoved)
          | inr dependent ↦ record {
            feed = place;
            is_feed = dependent.1;
            changed = λ same. dependent.0 (sym now_right ∙ same ∙ sym (was_kept looked marked now next place settling step.here step.hold));
            lower = λ feed has_feed. old_lower other feed unmoved has_feed;
          }
        ]
      ]

      pub settling_more : IsSettling (looked ++ place ∷ []) now_marked next
      settling_more = record {
        right = right_then;
        kept = kept_then;
        in_order = in_order_then;
        ascending = ascends_push (ComesBefore before) looked place settling.ascending (λ one among. settling.in_order one place among step.here);
        within = within_then;
        small = small_then;
        traces = traces_then;
      }

    pub after_begins : (marked : ℕ → Bool) → ((place : ℕ) → marked place ≡ is_among place moved) → All (λ place. place < count) moved → ((place : ℕ) → before place ≤ count) → IsSettlingAfter 0 marked before
    after_begins marked told within small = record { looked = []; count_is = refl; settling = settling_begins marked told within small }

    pub after_more : (turns : ℕ) (marked now_marked : ℕ → Bool) (now next : ℕ → ℕ) (place : ℕ) (after : IsSettlingAfter turns marked now) → IsStep marked now_marked now next place → IsSettlingAfter (turns + 1) now_marked next
    after_more turns marked now_marked now next place after step = record {
      looked = after.looked ++ place ∷ [];
      count_is = length-append after.looked (place ∷ []) ∙ ap (λ n. n + 1) after.count_is;
      settling = settling_more after.looked marked now_marked now next place after.settling step;
    }

    pub after_small : (turns : ℕ) (marked : ℕ → Bool) (now : ℕ → ℕ) → IsSettlingAfter turns marked now → (place : ℕ) → now place ≤ count + turns
    after_small turns marked now after place = let low = after.settling.small place in omega (arith, after.count_is)

    -- a marked place still has its rank from before
    pub marked_kept : (turns : ℕ) (marked : ℕ → Bool) (now : ℕ → ℕ) → IsSettlingAfter turns marked now → (place : ℕ) → marked place ≡ true → now place ≡ before place
    marked_kept turns marked now after place here =
        after.settling.kept place (false_unless (is_among place after.looked) (λ among. comes_apart before place place (after.settling.in_order place place among here) refl))

    pub marked_within : (turns : ℕ) (marked : ℕ → Bool) (now : ℕ → ℕ) → IsSettlingAfter turns marked now → (place : ℕ) → marked place ≡ true → place < count
    marked_within turns marked now after place here = after.settling.within place (inr here)

    pub after_traced : (turns : ℕ) (marked : ℕ → Bool) (now next : ℕ → ℕ) (place : ℕ) → IsSettlingAfter turns marked now → marked place ≡ true
        → ((other : ℕ) → next other ≡ (if other == place then above_all now (feeds place) else now other)) → AreTraced moved feeds before next
    after_traced turns marked now next place after here hold = traced_then after.looked marked now next place after.settling here hold

    -- while a place is marked, there were fewer turns than places
    turns_below : (turns : ℕ) (marked : ℕ → Bool) (now : ℕ → ℕ) → IsSettlingAfter turns marked now → (place : ℕ) → marked place ≡ true → turns < count
    turns_below turns marked now after place has =
        let settling = after.settling in
        let all : length (after.looked ++ place ∷ []) ≤ count =
        apart_short (ComesBefore before) (comes_apart before) count (after.looked ++ place ∷ [])
        (ascends_push (ComesBefore before) after.looked place settling.ascending (λ one among. settling.in_order one place among has))
        (λ other among. elim (among_push_cases other place after.looked among) [
          | inl earlier ↦ settling.within other (inl earlier)
          | inr same ↦ subst (λ x. x < count) (sym same) (settling.within place (inr has))
        ]) in
        omega (arith, length-append after.looked (place ∷ []), after.count_is)

    -- after as many turns as places, or where none is marked, all ranks are right
    pub after_all : (turns : ℕ) (marked : ℕ → Bool) (now : ℕ → ℕ) → IsSettlingAfter turns marked now → count ≤ turns → AreRanks feeds now
    after_all turns marked now after past place = after.settling.right place (false_unless (marked place) (λ has. let below = turns_below turns marked now after place has in omega arith))

    pub after_none : (turns : ℕ) (marked : ℕ → Bool) (now : ℕ → ℕ) → IsSettlingAfter turns marked now → ((place : ℕ) → marked place ≡ false) → AreRanks feeds now
    after_none turns marked now after none place = after.settling.right place (none place)
