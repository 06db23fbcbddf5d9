-- Times by clocks that are moved.
use Rattle.std.proofs.Common.{◌≡◌, ℕ, suc, zero, ◌+◌, ◌<◌, ◌≤◌, ℤ, pos, List, [], ◌∷◌, ◌++◌, Bool, true, false, cond, drop, get_or, length, map, Option, Some, None, refl, sym, ap, ◌∙◌, arith}
use Rattle.std.specs.Prelude.{◌&&◌, IfSome, filter, nat_eq, unwrap_or}
use Rattle.std.specs.List.{range_with_len}
use Rattle.std.proofs.lemmas.Bool.{cond-false}
use Rattle.std.proofs.lemmas.List.{append-nil, append_assoc, drop_all, drop_more, length-map, map-append}
use Rattle.std.proofs.lemmas.Option.{slice_get-get_or}
use mathlib.Core.Path.{fun_ext}
use Rattle.trace_spans.specs.declared.span.Span.{Span}
use Rattle.trace_relations.specs.declared.placing.Moved.{Moved}
use Rattle.trace_relations.specs.declared.times.Times.{Times}
use Rattle.trace_relations.specs.ClockNumbers.{AreClocks, all_pairs, clock_at, is_root_clock}
use Rattle.trace_relations.specs.Clocks.{Moves, clock_of, placed}
use Rattle.trace_relations.specs.KeptMoves.{AreMovesWithin, IsAtMost, moved_if, moves_in}
use Rattle.trace_relations.specs.Moves.{all_moves, all_placed, is_moved, moved_clock, moved_clocks, roots_placed}
use Rattle.trace_relations.specs.Times.{times_from, times_moved, times_of}
use Rattle.trace_relations.proofs.ClockFinding.{clock_read}
use Rattle.trace_relations.proofs.Moving.{moves_at, zero_at_most}
use Rattle.trace_relations.proofs.Numbering.{filter_last}

-- ---- one span after another

-- by how much each span is moved
abbrev pub moved_by : List Span → List (Option ℤ) → ℕ → ℤ
moved_by spans moves place = unwrap_or (moves_in moves (clock_at spans place)) (pos 0)

pub times_more : (by : ℕ → ℤ) (spans : List Span) (i : ℕ) (span : Span) (so_far new : List Times) (move : ℤ) → i < length spans → span ≡ get_or spans i span → move ≡ by i → new ≡ so_far ++ times_moved move span ∷ []
    → times_of by spans ≡ so_far ++ times_from by i (drop i spans) → times_of by spans ≡ new ++ times_from by (i + 1) (drop (i + 1) spans)
times_more by spans i span so_far new move lt is move_is now before =
    before ∙ ap (λ rest. so_far ++ times_from by i rest) (drop_more spans i span lt ∙ ap (λ x. x ∷ drop (i + 1) spans) (sym is))
    ∙ ap (λ z. so_far ++ (times_moved z span ∷ times_from by (i + 1) (drop (i + 1) spans))) (sym move_is)
    ∙ sym (append_assoc so_far (times_moved move span ∷ []) (times_from by (i + 1) (drop (i + 1) spans)))
    ∙ ap (λ those. those ++ times_from by (i + 1) (drop (i + 1) spans)) (sym now)

pub all_timed : (by : ℕ → ℤ) (spans : List Span) (i : ℕ) (times : List Times) → length spans ≤ i → times_of by spans ≡ times ++ times_from by i (drop i spans) → times ≡ times_of by spans
all_timed by spans i times le is = sym (is ∙ ap (λ rest. times ++ times_from by i rest) (drop_all i spans le) ∙ append-nil times)

-- the clock of a span tells by how much it is moved
pub move_of_span : (spans : List Span) (clocks : List ℕ) (moves : List (Option ℤ)) (i clock : ℕ) (move : ℤ) → AreClocks spans clocks → i < length clocks → clock ≡ get_or clocks i clock → move ≡ unwrap_or (moves_in moves clock) (pos 0) → move ≡ moved_by spans moves i
move_of_span spans clocks moves i clock move are lt is move_is =
    let here : clock_at spans i ≡ clock = clock_read spans clocks i are ∙ ap (λ o. unwrap_or o i) (slice_get-get_or clocks i clock lt ∙ ap Some (sym is)) in
    move_is ∙ ap (λ c. unwrap_or (moves_in moves c) (pos 0)) (sym here)

pub clocks_long : (spans : List Span) (clocks : List ℕ) → AreClocks spans clocks → length clocks ≡ length spans
clocks_long spans clocks are = ap length are ∙ length-map spans (clock_of spans)

or_zero : (m : ℕ) (o : Option ℤ) → IfSome o (IsAtMost m) → IsAtMost m (unwrap_or o (pos 0))
or_zero m None at = zero_at_most m
or_zero m (Some by) at = at

pub move_within : (m : ℕ) (moves : List (Option ℤ)) (clock : ℕ) → AreMovesWithin m moves → IsAtMost m (unwrap_or (moves_in moves clock) (pos 0))
move_within m moves clock within = or_zero m (moves_in moves clock) (moves_at m moves within clock)

-- ---- all times

pub times_by_moves : (spans : List Span) (moves : List (Option ℤ)) (times : List Times) → ((clock : ℕ) → moves_in moves clock ≡ all_placed spans clock) → times ≡ times_of (moved_by spans moves) spans → times ≡ times_of (all_moves spans) spans
times_by_moves spans moves times are is = is ∙ ap (λ by. times_of by spans) (fun_ext (λ place. ap (λ o. unwrap_or o (pos 0)) (are (clock_at spans place))))

none_next : (moves : Moves) (n : ℕ) → placed [] n moves ≡ moves
unfolding placed
none_next moves zero = refl
none_next moves (suc n) = none_next moves n

root_or_not : (b : Bool) → unwrap_or (cond b (Some (pos 0)) None) (pos 0) ≡ pos 0
root_or_not true = refl
root_or_not false = refl

-- where no pair says anything, no clock is moved
moves_are_none : (spans : List Span) → [] ≡ all_pairs spans → all_moves spans ≡ (λ place. pos 0)
moves_are_none spans none =
    fun_ext (λ place.
    ap (λ (those : Moves). unwrap_or (those (clock_at spans place)) (pos 0)) (ap (λ pairs. placed pairs (length spans) (roots_placed spans)) (sym none) ∙ none_next (roots_placed spans) (length spans))
    ∙ root_or_not (is_root_clock spans (clock_at spans place)))

pub none_moved : (spans : List Span) (times : List Times) → [] ≡ all_pairs spans → times ≡ times_of (λ place. pos 0) spans → times ≡ times_of (all_moves spans) spans
none_moved spans times none is = is ∙ ap (λ by. times_of by spans) (sym (moves_are_none spans none))

-- ---- clocks that are moved

-- those of so many spans
abbrev pub moved_before : List Span → (ℕ → ℤ) → ℕ → List Moved
moved_before spans by count = map (moved_clock by) (filter (is_moved spans by) (range_with_len 0 count))

pub moved_more : (spans : List Span) (clocks : List ℕ) (moves : List (Option ℤ)) (place clock : ℕ) (by : ℤ) (so_far new : List Moved) → AreClocks spans clocks → place < length clocks → clock ≡ get_or clocks place clock → by ≡ unwrap_or (moves_in moves clock) (pos 0)
    → so_far ≡ moved_before spans (moved_by spans moves) place → new ≡ so_far ++ moved_if place clock by → new ≡ moved_before spans (moved_by spans moves) (place + 1)
moved_more spans clocks moves place clock by so_far new are lt is by_is before now =
    let here : clock_at spans place ≡ clock = clock_read spans clocks place are ∙ ap (λ o. unwrap_or o place) (slice_get-get_or clocks place clock lt ∙ ap Some (sym is)) in
    let move : by ≡ moved_by spans moves place = by_is ∙ ap (λ c. unwrap_or (moves_in moves c) (pos 0)) (sym here) in
    let e : suc place ≡ place + 1 = omega arith in
    let f : 0 + place ≡ place = omega arith in
    now ∙ ap (λ those. those ++ moved_if place clock by) before
    ∙ ap (λ c. moved_before spans (moved_by spans moves) place ++ moved_if place c by) (sym here)
    ∙ ap (λ z. moved_before spans (moved_by spans moves) place ++ moved_if place (clock_at spans place) z) move
    ∙ ap (λ those. moved_before spans (moved_by spans moves) place ++ those) (sym (one_mapped (moved_by spans moves) place (is_moved spans (moved_by spans moves) place)))
    ∙ sym (map-append (moved_clock (moved_by spans moves)) (filter (is_moved spans (moved_by spans moves)) (range_with_len 0 place)) (cond (is_moved spans (moved_by spans moves) place) (place ∷ []) []))
    ∙ ap (λ k. map (moved_clock (moved_by spans moves)) (filter (is_moved spans (moved_by spans moves)) (range_with_len 0 place) ++ cond (is_moved spans (moved_by spans moves) k) (k ∷ []) [])) (sym f)
    ∙ ap (map (moved_clock (moved_by spans moves))) (sym (filter_last (is_moved spans (moved_by spans moves)) 0 place))
    ∙ ap (moved_before spans (moved_by spans moves)) e
  where
    one_mapped : (moves_by : ℕ → ℤ) (k : ℕ) (b : Bool) → map (moved_clock moves_by) (cond b (k ∷ []) []) ≡ cond b (record { clock = k; by = moves_by k } ∷ []) []
    one_mapped moves_by k true = refl
    one_mapped moves_by k false = refl

pub all_moved_are : (spans : List Span) (clocks : List ℕ) (by : ℕ → ℤ) (place : ℕ) (moved : List Moved) → AreClocks spans clocks → place ≡ length clocks → moved ≡ moved_before spans by place → moved ≡ moved_clocks spans by
all_moved_are spans clocks by place moved are all is = is ∙ ap (moved_before spans by) (all ∙ clocks_long spans clocks are)

pub moved_by_moves : (spans : List Span) (moves : List (Option ℤ)) (moved : List Moved) → ((clock : ℕ) → moves_in moves clock ≡ all_placed spans clock) → moved ≡ moved_clocks spans (moved_by spans moves) → moved ≡ moved_clocks spans (all_moves spans)
moved_by_moves spans moves moved are is = is ∙ ap (moved_clocks spans) (fun_ext (λ place. ap (λ o. unwrap_or o (pos 0)) (are (clock_at spans place))))

filter_none : (p : ℕ → Bool) (xs : List ℕ) → ((x : ℕ) → p x ≡ false) → filter p xs ≡ []
filter_none p [] none = refl
filter_none p (x ∷ xs) none = cond-false (p x) (x ∷ filter p xs) (filter p xs) (none x) ∙ filter_none p xs none

and_none : (b : Bool) → (b && false) ≡ false
and_none true = refl
and_none false = refl

-- as they are told, none is moved
pub none_told : (spans : List Span) → moved_clocks spans (λ place. pos 0) ≡ []
none_told spans = ap (map (moved_clock (λ place. pos 0))) (filter_none (is_moved spans (λ place. pos 0)) (range_with_len 0 (length spans)) (λ place. and_none (nat_eq (clock_at spans place) place)))

pub none_moved_so : (spans : List Span) (moved : List Moved) → [] ≡ all_pairs spans → moved ≡ [] → moved ≡ moved_clocks spans (all_moves spans)
none_moved_so spans moved none is = is ∙ sym (none_told spans) ∙ ap (moved_clocks spans) (sym (moves_are_none spans none))
