-- The clocks of spans that name no parent are placed first.
use Rattle.std.proofs.Common.{◌≡◌, ℕ, suc, zero, ◌+◌, ◌*◌, ◌^◌, ◌<◌, ◌≤◌, inl, inr, ℤ, pos, List, [], ◌∷◌, Bool, true, false, cond, get_or, length, replicate, set, Option, Some, None, refl, sym, ap, ◌∙◌, subst, arith}
use Rattle.std.specs.Prelude.{◌&&◌, ◌||◌, All, IfSome, MatchBool, is_none, is_some, nat_eq, slice_get, unwrap_or}
use Rattle.std.specs.BinaryHeap.{IsHeap}
use Rattle.std.specs.List.{list_any, range_with_len}
use Rattle.std.specs.declared.alloc.Global.{Global}
use Rattle.std.specs.declared.cmp.Reverse.{Reverse}
use Rattle.std.specs.Prelude.{Vec}
use Rattle.std.proofs.lemmas.Bool.{and_parts, cases_Bool, eq-eqb, eqb-true, false≢true, ne_eqb, or_left, or_right, true≢false}
use Rattle.std.proofs.lemmas.List.{length-map, length-replicate}
use Rattle.std.proofs.lemmas.List.Elements.{All-replicate}
use Rattle.std.proofs.lemmas.Option.{none-some, slice_get-get_or}
use mathlib.Core.Path.{fun_ext}
use Rattle.trace_spans.specs.declared.span.Span.{Span}
use Rattle.trace_relations.specs.declared.clocks.Pair.{Pair}
use Rattle.trace_relations.specs.ClockNumbers.{AreClocks, all_pairs, clock_at, is_root_among, is_root_of}
use Rattle.trace_relations.specs.Clocks.{Moves, clock_of, placed}
use Rattle.trace_relations.specs.KeptMoves.{HasPairs, HasRoots, HaveJoined, IsAtMost, IsRootPlaced, Stand, coming_cmp, moves_in, numbers_at, placed_count}
use Rattle.trace_relations.specs.Moves.{all_placed, roots_placed}
use Rattle.trace_relations.specs.Parents.{all_references}
use Rattle.trace_relations.specs.Waits.{caller_named}
use Rattle.trace_relations.proofs.ClockFinding.{clock_at_is, clock_below, clock_read}
use Rattle.trace_relations.proofs.Moving.{zero_at_most}
use Rattle.trace_relations.proofs.Reaching.{move_kept, move_set, one_placed}

or_none : (b : Bool) → (b || false) ≡ b
or_none true = refl
or_none false = refl

or_turned : (a b c : Bool) → (a || (b || c)) ≡ ((a || b) || c)
or_turned true b c = refl
or_turned false b c = refl

any_range_more : (p : ℕ → Bool) (a n : ℕ) → list_any p (range_with_len a (suc n)) ≡ (list_any p (range_with_len a n) || p (a + n))
any_range_more p a zero = let e : a ≡ a + 0 = omega arith in or_none (p a) ∙ ap p e
any_range_more p a (suc n) =
    let e : (a + 1) + n ≡ a + suc n = omega arith in
    ap (λ b. p a || b) (any_range_more p (a + 1) n ∙ ap (λ k. list_any p (range_with_len (a + 1) n) || p k) e) ∙ or_turned (p a) (list_any p (range_with_len (a + 1) n)) (p (a + suc n))

roots_more : (spans : List Span) (place clock : ℕ) → is_root_among spans (place + 1) clock ≡ (is_root_among spans place clock || is_root_of spans clock place)
roots_more spans place clock =
    let e : place + 1 ≡ suc place = omega arith in
    let f : 0 + place ≡ place = omega arith in
    ap (λ n. is_root_among spans n clock) e ∙ any_range_more (is_root_of spans clock) 0 place ∙ ap (λ k. is_root_among spans place clock || is_root_of spans clock k) f

-- ---- none is placed yet

none_placed : (n clock : ℕ) → moves_in (replicate n None) clock ≡ None
none_placed zero clock = refl
none_placed (suc n) zero = refl
none_placed (suc n) (suc clock) = none_placed n clock

no_heap : IsHeap coming_cmp []
unfolding IsHeap
no_heap = λ parent child d from left right lt. absurd (omega arith)

pub no_roots : (spans : List Span) (pairs : List Pair) (moves : List (Option ℤ)) (coming : List (Reverse ℕ)) → moves ≡ replicate (length spans) None → coming ≡ [] → HasRoots spans pairs 0 moves coming
no_roots spans pairs moves coming moves_are coming_are =
    let none : (clock : ℕ) → moves_in moves clock ≡ None = λ clock. ap (λ those. moves_in those clock) moves_are ∙ none_placed (length spans) clock in
    record {
      stand = record {
        long = ap length moves_are ∙ length-replicate (length spans) None;
        within = subst (λ those. All (λ by. IfSome by (IsAtMost (placed_count moves * 2 ^ 64))) those) (sym moves_are) (All-replicate (λ by. IfSome by (IsAtMost (placed_count moves * 2 ^ 64))) (length spans) None tt);
        order = subst (IsHeap coming_cmp) (sym coming_are) no_heap;
        has = λ number pair is next. absurd (false≢true (sym (ap (λ o. cond (is_some o) (is_none (moves_in moves pair.called)) (is_some (moves_in moves pair.called))) (none pair.caller) ∙ ap is_some (none pair.called)) ∙ next));
      };
      roots = none;
    }

-- ---- one span more

keep_or : (b c : Bool) → c ≡ false → (b || c) ≡ b
keep_or true c e = refl
keep_or false c e = e

some_then : (b : Bool) → is_none (cond b (Some (pos 0)) None) ≡ false → b ≡ true
some_then true e = refl
some_then false e = absurd (true≢false e)

-- what is known of a span and its clock
pub record IsRooted (spans : List Span) (clocks : List ℕ) (place clock : ℕ) : Type 0 where
  pub within : place < length spans
  pub below : clock < length spans
  pub clock_is : clock_at spans place ≡ clock

within_some : (spans : List Span) (place : ℕ) → place < length spans → slice_get spans place ≡ None → ⊥
within_some [] place lt none = omega arith
within_some (span ∷ spans) zero lt none = none-some span (sym none)
within_some (span ∷ spans) (suc place) lt none = within_some spans place (omega arith) none

pub clock_rooted : (spans : List Span) (clocks : List ℕ) (place clock : ℕ) → AreClocks spans clocks → place < length clocks → clock ≡ get_or clocks place 0 → IsRooted spans clocks place clock
clock_rooted spans clocks place clock are lt is =
    let long : length clocks ≡ length spans = ap length are ∙ length-map spans (clock_of spans) in
    let within : place < length spans = omega arith in
    let got : slice_get clocks place ≡ Some clock = slice_get-get_or clocks place 0 lt ∙ ap Some (sym is) in
    let known : clock_at spans place ≡ clock = clock_read spans clocks place are ∙ ap (λ o. unwrap_or o place) got in
    from_span spans clocks place clock within known (slice_get spans place) refl
  where
    from_span : (spans : List Span) (clocks : List ℕ) (place clock : ℕ) → place < length spans → clock_at spans place ≡ clock → (o : Option Span) → slice_get spans place ≡ o → IsRooted spans clocks place clock
    from_span spans clocks place clock within known None there = absurd (within_some spans place within there)
    from_span spans clocks place clock within known (Some span) there =
        let low : clock_of spans span < length spans = clock_below spans place span there in
        let same : clock_of spans span ≡ clock = sym (clock_at_is spans place span there) ∙ known in
        record { within = within; below = omega arith; clock_is = known }

root_other : (spans : List Span) (place other clock : ℕ) → clock_at spans place ≡ clock → nat_eq other clock ≡ false → is_root_of spans other place ≡ false
root_other spans place other clock is apart = ap (λ c. nat_eq c other && is_none (caller_named (all_references spans) place)) is ∙ no_and (nat_eq clock other) (is_none (caller_named (all_references spans) place)) (ne_eqb clock other (λ e. true≢false (sym (eq-eqb other clock (sym e)) ∙ apart)))
  where
    no_and : (b c : Bool) → b ≡ false → (b && c) ≡ false
    no_and true c e = absurd (true≢false e)
    no_and false c e = refl

root_own : (spans : List Span) (place clock : ℕ) → clock_at spans place ≡ clock → is_root_of spans clock place ≡ is_none (caller_named (all_references spans) place)
root_own spans place clock is = ap (λ b. b && is_none (caller_named (all_references spans) place)) (eq-eqb (clock_at spans place) clock is)

abbrev FromRoots : List Span → List (Option ℤ) → ℕ → Type 0
FromRoots spans moves count = (clock : ℕ) → moves_in moves clock ≡ cond (is_root_among spans count clock) (Some (pos 0)) None

root_placed : (spans : List Span) (moves : List (Option ℤ)) (place clock : ℕ) → clock < length moves → clock_at spans place ≡ clock → is_none (caller_named (all_references spans) place) ≡ true → FromRoots spans moves place → FromRoots spans (set moves clock (Some (pos 0))) (place + 1)
root_placed spans moves place clock lt is named roots other = elim (cases_Bool (nat_eq other clock)) [
  | inl same ↦
      let e : other ≡ clock = eqb-true other clock same in
      let root : is_root_of spans other place ≡ true = ap (λ c. is_root_of spans c place) e ∙ root_own spans place clock is ∙ named in
      move_set moves clock other (pos 0) lt same
      ∙ sym (ap (λ b. cond b (Some (pos 0)) None) (roots_more spans place other ∙ or_right (is_root_among spans place other) (is_root_of spans other place) root))
  | inr apart ↦
      move_kept moves clock other (pos 0) lt apart ∙ roots other
      ∙ sym (ap (λ b. cond b (Some (pos 0)) None) (roots_more spans place other ∙ keep_or (is_root_among spans place other) (is_root_of spans other place) (root_other spans place other clock is apart)))
]

no_root : (b c : Bool) → (b && c) ≡ false → c ≡ true → b ≡ false
no_root true true e f = absurd (true≢false e)
no_root true false e f = absurd (false≢true f)
no_root false c e f = refl

roots_kept : (spans : List Span) (moves : List (Option ℤ)) (place clock : ℕ) → clock_at spans place ≡ clock → (is_none (caller_named (all_references spans) place) && is_none (moves_in moves clock)) ≡ false → FromRoots spans moves place → FromRoots spans moves (place + 1)
roots_kept spans moves place clock is not_both roots other = roots other ∙ ap (λ b. cond b (Some (pos 0)) None) (sym (roots_more spans place other ∙ same_root))
  where
    own_root : nat_eq other clock ≡ true → (b : Bool) → is_none (moves_in moves clock) ≡ b → (is_root_among spans place other || is_root_of spans other place) ≡ is_root_among spans place other
    own_root same true none =
        let e : other ≡ clock = eqb-true other clock same in
        keep_or (is_root_among spans place other) (is_root_of spans other place) (ap (λ c. is_root_of spans c place) e ∙ root_own spans place clock is ∙ no_root (is_none (caller_named (all_references spans) place)) (is_none (moves_in moves clock)) not_both none)
    own_root same false some =
        let e : other ≡ clock = eqb-true other clock same in
        let among : is_root_among spans place other ≡ true = some_then (is_root_among spans place other) (sym (ap is_none (roots other)) ∙ ap (λ c. is_none (moves_in moves c)) e ∙ some) in
        or_left (is_root_among spans place other) (is_root_of spans other place) among ∙ sym among

    same_root : (is_root_among spans place other || is_root_of spans other place) ≡ is_root_among spans place other
    same_root = elim (cases_Bool (nat_eq other clock)) [
      | inl same ↦ own_root same (is_none (moves_in moves clock)) refl
      | inr apart ↦ keep_or (is_root_among spans place other) (is_root_of spans other place) (root_other spans place other clock is apart)
    ]

none_of : (o : Option ℤ) → is_none o ≡ true → o ≡ None
none_of None e = refl
none_of (Some by) e = absurd (false≢true e)

root_cases : (spans : List Span) (pairs : List Pair) (clocks : List ℕ) (by_clock : List (Vec ℕ Global)) (place clock : ℕ) (moves : List (Option ℤ)) (coming : List (Reverse ℕ)) (new_moves : List (Option ℤ)) (new_coming : List (Reverse ℕ)) (b : Bool) → IsRooted spans clocks place clock → HasPairs (length spans) pairs by_clock
    → HasRoots spans pairs place moves coming → (is_none (caller_named (all_references spans) place) && is_none (moves_in moves clock)) ≡ b
    → MatchBool b ((new_moves ≡ set moves clock (Some (pos 0))) × HaveJoined (numbers_at by_clock clock) coming new_coming) ((new_moves ≡ moves) × (new_coming ≡ coming))
    → HasRoots spans pairs (place + 1) new_moves new_coming
root_cases spans pairs clocks by_clock place clock moves coming new_moves new_coming true rooted has roots both done =
    let parts = and_parts (is_none (caller_named (all_references spans) place)) (is_none (moves_in moves clock)) both in
    let long : length moves ≡ length spans = roots.stand.long in
    let below : clock < length spans = rooted.below in
    let here : clock < length moves = omega arith in
    subst (λ those. HasRoots spans pairs (place + 1) those new_coming) (sym done.0)
    (record {
      stand = one_placed pairs (length spans) clock moves coming new_coming (pos 0) long below (none_of (moves_in moves clock) parts.1) roots.stand.within (zero_at_most (placed_count moves * 2 ^ 64 + 2 ^ 64)) roots.stand.order
          (subst (λ numbers. HaveJoined numbers coming new_coming) (has clock below) done.1) (λ number pair is next apart. roots.stand.has number pair is next);
      roots = root_placed spans moves place clock here rooted.clock_is parts.0 roots.roots;
    })
root_cases spans pairs clocks by_clock place clock moves coming new_moves new_coming false rooted has roots not_both done =
    subst (λ those. HasRoots spans pairs (place + 1) those new_coming) (sym done.0)
    (subst (λ those. HasRoots spans pairs (place + 1) moves those) (sym done.1)
    (record { stand = roots.stand; roots = roots_kept spans moves place clock rooted.clock_is not_both roots.roots }))

-- the clock of one span more, if it names no parent
pub one_rooted : (spans : List Span) (pairs : List Pair) (clocks : List ℕ) (by_clock : List (Vec ℕ Global)) (place clock : ℕ) (moves : List (Option ℤ)) (coming : List (Reverse ℕ)) (new_moves : List (Option ℤ)) (new_coming : List (Reverse ℕ)) → IsRooted spans clocks place clock → HasPairs (length spans) pairs by_clock
    → HasRoots spans pairs place moves coming → IsRootPlaced (all_references spans) place clock (numbers_at by_clock clock) moves coming new_moves new_coming → HasRoots spans pairs (place + 1) new_moves new_coming
one_rooted spans pairs clocks by_clock place clock moves coming new_moves new_coming rooted has roots done =
    root_cases spans pairs clocks by_clock place clock moves coming new_moves new_coming (is_none (caller_named (all_references spans) place) && is_none (moves_in moves clock)) rooted has roots refl done

-- ---- all clocks that pairs reach from these

pub stand_at : (pairs : List Pair) (count : ℕ) (moves : List (Option ℤ)) (coming : List (Reverse ℕ)) → Stand pairs count moves coming → Stand pairs (length moves) moves coming
stand_at pairs count moves coming stand = subst (λ n. Stand pairs n moves coming) (sym stand.long) stand

pub all_reached : (spans : List Span) (pairs : List Pair) (first moves : List (Option ℤ)) (coming : List (Reverse ℕ)) → HasRoots spans pairs (length spans) first coming → pairs ≡ all_pairs spans
    → ((n : ℕ) → length first ≤ n + placed_count first → placed pairs n (moves_in first) ≡ moves_in moves) → (clock : ℕ) → moves_in moves clock ≡ all_placed spans clock
all_reached spans pairs first moves coming roots pairs_are reach clock =
    let long : length first ≡ length spans = roots.stand.long in
    let from : moves_in first ≡ roots_placed spans = fun_ext roots.roots in
    ap (λ (those : Moves). those clock)
    (sym (reach (length spans) (omega arith)) ∙ ap (placed pairs (length spans)) from ∙ ap (λ those. placed those (length spans) (roots_placed spans)) pairs_are)
