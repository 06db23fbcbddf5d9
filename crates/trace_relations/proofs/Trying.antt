-- Calls that were tried again, one after another.
use Rattle.std.proofs.Common.{◌≡◌, ℕ, suc, zero, ◌+◌, ◌<◌, ◌≤◌, inl, inr, List, [], ◌∷◌, ◌++◌, Bool, true, false, cond, eqb, get_or, length, replicate, set, take, Option, Some, None, refl, sym, ap, ◌∙◌, subst, arith}
use Rattle.std.specs.Prelude.{◌&&◌, All, filter, find, fold, is_some, not, slice_get, unwrap_or}
use Rattle.std.specs.List.{list_any, range_with_len}
use Rattle.std.proofs.lemmas.Bool.{and_parts, cases_lt, false≢true}
use Rattle.std.proofs.lemmas.List.{get_or_past, length-replicate, length-set, take_all}
use Rattle.std.proofs.lemmas.List.Elements.{All-get_or, All-set, filter_more}
use Rattle.std.proofs.lemmas.List.FromFn.{get_or-range_with_len, length-range_with_len}
use Rattle.std.proofs.lemmas.List.Folds.{list_any_at}
use Rattle.std.proofs.lemmas.List.Sums.{fold-append}
use Rattle.std.proofs.lemmas.Bool.{eq-eqb}
use Rattle.std.proofs.lemmas.Option.{none-some, same_Some, slice_get_within, unwrap_or-slice_get}
use Rattle.std.specs.Prelude.{nat_eq}
use mathlib.Core.Path.{fun_ext}
use Rattle.trace_spans.specs.declared.span.Span.{Span}
use Rattle.trace_relations.specs.declared.attempts.Attempts.{Attempts as Kept}
use Rattle.trace_relations.specs.Attempts.{Attempts, CallsOf, can_try, first_try, has_failed, is_failed_call, is_same_call, same_caller, tried_again, tried_once, with_try}
use Rattle.trace_relations.specs.KeptAttempts.{AreKept, plain_attempts, value_at}
use Rattle.trace_relations.specs.Moments.{ended_before, interval_at, start_moment}
use Rattle.trace_relations.proofs.Gets.{value-set}

made : (ℕ → Option ℕ) → (ℕ → Option ℕ) → (ℕ → ℕ) → (ℕ → ℕ) → Attempts
made next previous first last = record { next = next; previous = previous; first = first; last = last }

same_attempts : (n n' p p' : ℕ → Option ℕ) (f f' l l' : ℕ → ℕ) → n ≡ n' → p ≡ p' → f ≡ f' → l ≡ l' → made n p f l ≡ made n' p' f' l'
same_attempts n n' p p' f f' l l' next previous first last =
    ap (λ x. made x p f l) next ∙ ap (λ x. made n' x f l) previous ∙ ap (λ x. made n' p' x l) first ∙ ap (λ x. made n' p' f' x) last

-- ---- each call is tried once

none_at : (n place : ℕ) → unwrap_or {T = Option ℕ} (slice_get (replicate n None) place) None ≡ None
none_at zero place = refl
none_at (suc n) zero = refl
none_at (suc n) (suc place) = none_at n place

own_at : (n place : ℕ) → unwrap_or (slice_get (range_with_len 0 n) place) place ≡ place
own_at n place = unwrap_or-slice_get (range_with_len 0 n) place place ∙ elim (cases_lt place n) [
  | inl lt ↦ let e : 0 + place ≡ place = omega arith in get_or-range_with_len 0 n place place lt ∙ e
  | inr le ↦ get_or_past (range_with_len 0 n) place place (omega (arith, length-range_with_len 0 n))
]

-- what is kept of so many calls at first
pub record IsOnce (count : ℕ) (attempts : Kept) : Type 0 where
  pub next : attempts.next.items ≡ replicate count None
  pub previous : attempts.previous.items ≡ replicate count None
  pub first : attempts.first.items ≡ range_with_len 0 count
  pub last : attempts.last.items ≡ range_with_len 0 count

pub once_is : (count : ℕ) (attempts : Kept) → IsOnce count attempts → plain_attempts attempts ≡ tried_once
unfolding made
once_is count attempts once =
    same_attempts (value_at attempts.next.items (λ place. None)) (λ place. None) (value_at attempts.previous.items (λ place. None)) (λ place. None)
    (value_at attempts.first.items (λ place. place)) (λ place. place) (value_at attempts.last.items (λ place. place)) (λ place. place)
    (fun_ext (λ place. ap (λ those. unwrap_or (slice_get those place) None) once.next ∙ none_at count place))
    (fun_ext (λ place. ap (λ those. unwrap_or (slice_get those place) None) once.previous ∙ none_at count place))
    (fun_ext (λ place. ap (λ those. unwrap_or (slice_get those place) place) once.first ∙ own_at count place))
    (fun_ext (λ place. ap (λ those. unwrap_or (slice_get those place) place) once.last ∙ own_at count place))

range_below : (a n : ℕ) → (k d : ℕ) → k < length (range_with_len a n) → get_or (range_with_len a n) k d < a + n
range_below a n k d lt = omega (arith, length-range_with_len a n, get_or-range_with_len a n k d (omega (arith, length-range_with_len a n)))

pub once_kept : (count : ℕ) (attempts : Kept) → IsOnce count attempts → AreKept count attempts
once_kept count attempts once = record {
  next = ap length once.next ∙ length-replicate count None;
  previous = ap length once.previous ∙ length-replicate count None;
  first = ap length once.first ∙ length-range_with_len 0 count;
  last = ap length once.last ∙ length-range_with_len 0 count;
  firsts = subst (All (λ place. place < count)) (sym once.first) (λ k d lt. let below : get_or (range_with_len 0 count) k d < 0 + count = range_below 0 count k d lt in omega arith);
}

-- ---- a call is tried again

-- what was kept is written over
pub record IsTried (old new : Kept) (call again first : ℕ) : Type 0 where
  pub first_is : first ≡ (plain_attempts old).first call
  pub next : new.next.items ≡ set old.next.items call (Some again)
  pub previous : new.previous.items ≡ set old.previous.items again (Some call)
  pub firsts : new.first.items ≡ set old.first.items again first
  pub last : new.last.items ≡ set old.last.items first again

pub first_below : (count : ℕ) (old : Kept) (call : ℕ) → AreKept count old → call < count → (plain_attempts old).first call < count
first_below count old call kept lt =
    let within : call < length old.first.items = omega (arith, kept.first) in
    let low = All-get_or (λ place. place < count) old.first.items call call within kept.firsts in
    omega (arith, low, unwrap_or-slice_get old.first.items call call)

pub tried_kept : (count : ℕ) (old new : Kept) (call again first : ℕ) → AreKept count old → call < count → IsTried old new call again first → AreKept count new
tried_kept count old new call again first kept lt tried =
    let low : first < count = omega (arith, tried.first_is, first_below count old call kept lt) in
    record {
      next = ap length tried.next ∙ length-set old.next.items call (Some again) ∙ kept.next;
      previous = ap length tried.previous ∙ length-set old.previous.items again (Some call) ∙ kept.previous;
      first = ap length tried.firsts ∙ length-set old.first.items again first ∙ kept.first;
      last = ap length tried.last ∙ length-set old.last.items first again ∙ kept.last;
      firsts = subst (All (λ place. place < count)) (sym tried.firsts) (All-set (λ place. place < count) old.first.items again first low kept.firsts);
    }

pub tried_is : (count : ℕ) (old new : Kept) (call again first : ℕ) → AreKept count old → call < count → again < count → IsTried old new call again first → plain_attempts new ≡ with_try (plain_attempts old) call (Some again)
unfolding made
tried_is count old new call again first kept lt lt_again tried =
    let low : first < count = omega (arith, tried.first_is, first_below count old call kept lt) in
    let in_next : call < length old.next.items = omega (arith, kept.next) in
    let in_previous : again < length old.previous.items = omega (arith, kept.previous) in
    let in_first : again < length old.first.items = omega (arith, kept.first) in
    let in_last : first < length old.last.items = omega (arith, kept.last) in
    let plain = plain_attempts old in
    same_attempts (value_at new.next.items (λ place. None)) (λ place. cond (nat_eq place call) (Some again) (plain.next place)) (value_at new.previous.items (λ place. None)) (λ place. cond (nat_eq place again) (Some call) (plain.previous place))
    (value_at new.first.items (λ place. place)) (λ place. cond (nat_eq place again) (plain.first call) (plain.first place)) (value_at new.last.items (λ place. place)) (λ place. cond (nat_eq place (plain.first call)) again (plain.last place))
    (fun_ext (λ place. ap (λ those. unwrap_or (slice_get those place) None) tried.next ∙ value-set old.next.items call (Some again) None in_next place))
    (fun_ext (λ place. ap (λ those. unwrap_or (slice_get those place) None) tried.previous ∙ value-set old.previous.items again (Some call) None in_previous place))
    (fun_ext (λ place. ap (λ those. unwrap_or (slice_get those place) place) tried.firsts ∙ value-set old.first.items again first place in_first place ∙ ap (λ f. cond (eqb place again) f (plain.first place)) tried.first_is))
    (fun_ext (λ place. ap (λ those. unwrap_or (slice_get those place) place) tried.last ∙ value-set old.last.items first again place in_last place ∙ ap (λ f. cond (eqb place f) again (plain.last place)) tried.first_is))

-- ---- who can try a call again is a span

found_passes : (p : ℕ → Bool) (xs : List ℕ) (x : ℕ) → find p xs ≡ Some x → p x ≡ true
found_passes p [] x found = absurd (none-some x found)
found_passes p (y ∷ ys) x found = by_test (p y) refl found (found_passes p ys x)
  where
    by_test : (b : Bool) → p y ≡ b → cond b (Some y) (find p ys) ≡ Some x → (find p ys ≡ Some x → p x ≡ true) → p x ≡ true
    by_test true is here rest = ap p (sym (same_Some y x here)) ∙ is
    by_test false is here rest = rest here

same_is_span : (span other : Option Span) → is_same_call span other ≡ true → is_some other ≡ true
same_is_span None other same = absurd (false≢true same)
same_is_span (Some span) None same = absurd (false≢true same)
same_is_span (Some span) (Some other) same = refl

some_within : (spans : List Span) (place : ℕ) (o : Option Span) → slice_get spans place ≡ o → is_some o ≡ true → place < length spans
some_within spans place None is some = absurd (false≢true some)
some_within spans place (Some span) is some = slice_get_within spans place span is

pub again_within : (calls : CallsOf) (order : List ℕ) (attempts : Attempts) (call again : ℕ) → Some again ≡ first_try calls order attempts call → again < length calls.spans
again_within calls order attempts call again is =
    let passes = found_passes (λ other. can_try calls call other && not (is_some (attempts.previous other))) order again (sym is) in
    let can = (and_parts (can_try calls call again) (not (is_some (attempts.previous again))) passes).0 in
    let rest = (and_parts (same_caller (calls.callers call) (calls.callers again)) (is_same_call (slice_get calls.spans call) (slice_get calls.spans again) && ended_before (interval_at calls.intervals call) (start_moment (interval_at calls.intervals again))) can).1 in
    let same = (and_parts (is_same_call (slice_get calls.spans call) (slice_get calls.spans again)) (ended_before (interval_at calls.intervals call) (start_moment (interval_at calls.intervals again))) rest).0 in
    some_within calls.spans again (slice_get calls.spans again) refl (same_is_span (slice_get calls.spans call) (slice_get calls.spans again) same)

-- ---- one call after another

pub tried_so_far : CallsOf → List ℕ → Attempts → ℕ → Attempts
tried_so_far calls order first count = fold (tried_again calls order) first (filter (is_failed_call calls) (take count order))

one_more : {X : Type 0} (f : X → ℕ → X) (a : X) (p : ℕ → Bool) (xs : List ℕ) (i x : ℕ) (b : Bool) → i < length xs → x ≡ get_or xs i 0 → p x ≡ b → fold f a (filter p (take (i + 1) xs)) ≡ cond b (f (fold f a (filter p (take i xs))) x) (fold f a (filter p (take i xs)))
one_more f a p xs i x b lt is passes =
    ap (fold f a) (filter_more p xs i 0 lt ∙ ap (λ y. filter p (take i xs) ++ cond (p y) (y ∷ []) []) (sym is) ∙ ap (λ c. filter p (take i xs) ++ cond c (x ∷ []) []) passes)
    ∙ fold-append f a (filter p (take i xs)) (cond b (x ∷ []) []) ∙ last b
  where
    last : (c : Bool) → fold f (fold f a (filter p (take i xs))) (cond c (x ∷ []) []) ≡ cond c (f (fold f a (filter p (take i xs))) x) (fold f a (filter p (take i xs)))
    last true = refl
    last false = refl

pub tried_more : (calls : CallsOf) (order : List ℕ) (first so_far : Attempts) (i call : ℕ) → i < length order → call ≡ get_or order i 0 → is_failed_call calls call ≡ true → so_far ≡ tried_so_far calls order first i → tried_again calls order so_far call ≡ tried_so_far calls order first (i + 1)
unfolding tried_so_far
tried_more calls order first so_far i call lt is fails e =
    ap (λ attempts. tried_again calls order attempts call) e ∙ sym (one_more (tried_again calls order) first (is_failed_call calls) order i call true lt is fails)

pub tried_same : (calls : CallsOf) (order : List ℕ) (first so_far : Attempts) (i call : ℕ) → i < length order → call ≡ get_or order i 0 → is_failed_call calls call ≡ false → so_far ≡ tried_so_far calls order first i → so_far ≡ tried_so_far calls order first (i + 1)
unfolding tried_so_far
tried_same calls order first so_far i call lt is passes e = e ∙ sym (one_more (tried_again calls order) first (is_failed_call calls) order i call false lt is passes)

pub none_tried : (calls : CallsOf) (order : List ℕ) (first : Attempts) → first ≡ tried_so_far calls order first 0
unfolding tried_so_far
none_tried calls order first = refl

pub all_tried : (calls : CallsOf) (order : List ℕ) (first : Attempts) (i : ℕ) → length order ≤ i → tried_so_far calls order first i ≡ fold (tried_again calls order) first (filter (is_failed_call calls) order)
unfolding tried_so_far
all_tried calls order first i le = ap (λ xs. fold (tried_again calls order) first (filter (is_failed_call calls) xs)) (take_all i order le)

pub call_among : (order : List ℕ) (i call : ℕ) → i < length order → call ≡ get_or order i 0 → list_any (nat_eq call) order ≡ true
call_among order i call lt is = list_any_at (nat_eq call) order i 0 lt (eq-eqb call (get_or order i 0) is)

pub tried_next : (calls : CallsOf) (order : List ℕ) (first so_far : Attempts) (i call : ℕ) → i < length order → call ≡ get_or order i 0 → so_far ≡ tried_so_far calls order first i
    → cond (is_failed_call calls call) (tried_again calls order so_far call) so_far ≡ tried_so_far calls order first (i + 1)
tried_next calls order first so_far i call lt is e = by_test (is_failed_call calls call) refl
  where
    by_test : (b : Bool) → is_failed_call calls call ≡ b → cond b (tried_again calls order so_far call) so_far ≡ tried_so_far calls order first (i + 1)
    by_test true fails = tried_more calls order first so_far i call lt is fails e
    by_test false passes = tried_same calls order first so_far i call lt is passes e

pub call_within : (calls : CallsOf) (call : ℕ) → is_failed_call calls call ≡ true → call < length calls.spans
call_within calls call fails = failed_within calls.spans call (slice_get calls.spans call) refl (and_parts (has_failed (slice_get calls.spans call)) (is_some (calls.callers call)) fails).0
  where
    failed_within : (spans : List Span) (place : ℕ) (o : Option Span) → slice_get spans place ≡ o → has_failed o ≡ true → place < length spans
    failed_within spans place None is failed = absurd (false≢true failed)
    failed_within spans place (Some span) is failed = slice_get_within spans place span is

-- ---- what one call comes to

pub tried_with : (calls : CallsOf) (order : List ℕ) (attempts : Attempts) (call : ℕ) (taken : Option ℕ) → is_failed_call calls call ≡ true → taken ≡ first_try calls order attempts call
    → with_try attempts call taken ≡ cond (is_failed_call calls call) (tried_again calls order attempts call) attempts
tried_with calls order attempts call taken fails is = ap (with_try attempts call) is ∙ sym (ap (λ b. cond b (tried_again calls order attempts call) attempts) fails)

pub not_tried : (calls : CallsOf) (order : List ℕ) (attempts : Attempts) (call : ℕ) → is_failed_call calls call ≡ false → attempts ≡ cond (is_failed_call calls call) (tried_again calls order attempts call) attempts
not_tried calls order attempts call passes = sym (ap (λ b. cond b (tried_again calls order attempts call) attempts) passes)

-- ---- places one after another

range_from : (a n : ℕ) → range_with_len a (n + 1) ≡ range_with_len a n ++ (a + n) ∷ []
range_from a zero = let e : a ≡ a + 0 = omega arith in ap (λ k. k ∷ []) e
range_from a (suc n) =
    let e : (a + 1) + n ≡ a + suc n = omega arith in
    let f : suc n + 1 ≡ suc (n + 1) = omega arith in
    ap (range_with_len a) f ∙ ap (λ xs. a ∷ xs) (range_from (a + 1) n ∙ ap (λ k. range_with_len (a + 1) n ++ k ∷ []) e)

pub range_push : (n : ℕ) → range_with_len 0 (n + 1) ≡ range_with_len 0 n ++ n ∷ []
range_push n = let e : 0 + n ≡ n = omega arith in range_from 0 n ∙ ap (λ k. range_with_len 0 n ++ k ∷ []) e
