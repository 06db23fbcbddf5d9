-- Calls that were tried again: an attempt has one before it at most and one after it, and starts later than the one before.
use Rattle.std.proofs.Common.{◌≡◌, ℕ, zero, suc, ◌+◌, ◌<◌, ◌≤◌, List, [], ◌∷◌, Bool, true, false, cond, fold, Option, Some, None, is_some, refl, sym, ap, ◌∙◌, inl, inr, subst, arith}
use Rattle.std.specs.Prelude.{◌⊎◌, ◌&&◌, ◌||◌, filter, find, nat_eq, nat_lt, not, option_and_then, option_map, slice_get}
use Rattle.std.specs.List.{AllByRecursion as Each}
use Rattle.std.proofs.lemmas.Bool.{true≢false}
use Rattle.std.proofs.lemmas.Bool.Decides.{nat_tests}
use Rattle.std.proofs.lemmas.Option.{none-some, same_Some}
use Rattle.trace_relations.specs.Ancestry.{start_at}
use Rattle.trace_relations.specs.Attempts.{Attempts, CallsOf, attempts_of, can_try, first_try, is_failed_call, is_same_call, same_caller, tried_again, tried_once, with_try}
use Rattle.trace_relations.specs.Moments.{end_after, ended_before, interval_at, is_past, start_moment, turn_number}
use Rattle.trace_relations.specs.declared.moment.Interval.{Interval}
use Rattle.trace_relations.specs.declared.moment.Turn.TheVariants.{Ends, EndsAtOnce}
use Rattle.trace_laws.proofs.Members.{AreDistinct, IsIn, distinct_filter, in_filter}
use Rattle.trace_laws.proofs.Rooted.{below_trail, circle, climb, few_distinct, in_trail, long_trail, trail, up, up_none, up_suc}
use Rattle.trace_laws.proofs.Timed.{IsTimed, timed_at}

-- the attempts of calls among so many spans
pub record AreAttempts (n : ℕ) (intervals : List Interval) (attempts : Attempts) : Type 0 where
  pub low : (p q : ℕ) → attempts.next p ≡ Some q → (p < n) × (q < n)
  pub there : (p q : ℕ) → attempts.next p ≡ Some q → attempts.previous q ≡ Some p
  pub back : (p q : ℕ) → attempts.previous q ≡ Some p → attempts.next p ≡ Some q
  pub first : (p : ℕ) → p < n → attempts.first p < n
  pub later : (p q : ℕ) → attempts.next p ≡ Some q → start_at intervals p < start_at intervals q

pub are_once : (n : ℕ) (intervals : List Interval) → AreAttempts n intervals tried_once
are_once n intervals = record { low = λ p q e. absurd (none-some q e); there = λ p q e. absurd (none-some q e); back = λ p q e. absurd (none-some p e); first = λ p low. low; later = λ p q e. absurd (none-some q e) }

-- ---- one more attempt

abbrev Either : {X : Type 0} → ℕ → ℕ → X → X → X → Type 0
Either k p v w x = ((p ≡ k) × (v ≡ x)) ⊎ ((nat_eq p k ≡ false) × (w ≡ x))

either_if : {X : Type 0} (b : Bool) (k p : ℕ) (v w x : X) → nat_eq p k ≡ b → cond b v w ≡ x → Either k p v w x
either_if true k p v w x e is = inl ((let same : p ≡ k = grind (arith, nat_tests) in same), is)
either_if false k p v w x e is = inr (e, is)

at_either : {X : Type 0} (k p : ℕ) (v w x : X) → cond (nat_eq p k) v w ≡ x → Either k p v w x
at_either k p v w x is = either_if (nat_eq p k) k p v w x refl is

self_is : (q : ℕ) → nat_eq q q ≡ true
self_is q = grind (arith, nat_tests)

at_here : {X : Type 0} (k : ℕ) (v w : X) → cond (nat_eq k k) v w ≡ v
at_here k v w = ap (λ b. cond b v w) (self_is k)

at_else : {X : Type 0} (k p : ℕ) (v w : X) → nat_eq p k ≡ false → cond (nat_eq p k) v w ≡ w
at_else k p v w e = ap (λ b. cond b v w) e

same_by : (q k : ℕ) → nat_eq q k ≡ true → q ≡ k
same_by q k e = grind (arith, nat_tests)

unlike : (q k : ℕ) → (q ≡ k → ⊥) → nat_eq q k ≡ false
unlike q k apart = by (nat_eq q k) refl
  where
    by : (b : Bool) → nat_eq q k ≡ b → nat_eq q k ≡ false
    by true e = absurd (apart (same_by q k e))
    by false e = e

record CanTry (n : ℕ) (intervals : List Interval) (attempts : Attempts) (call : ℕ) (again : ℕ) : Type 0 where
  low : call < n
  again_low : again < n
  free : attempts.previous again ≡ None
  untried : attempts.next call ≡ None
  later : start_at intervals call < start_at intervals again

one_try : (n : ℕ) (intervals : List Interval) (attempts : Attempts) (call again : ℕ) → AreAttempts n intervals attempts → CanTry n intervals attempts call again → AreAttempts n intervals (with_try attempts call (Some again))
one_try n intervals attempts call again are can = record {
  low = λ p q e. elim (at_either call p (Some again) (attempts.next p) (Some q) e) [
    | inl h ↦ (subst (λ (k : ℕ). k < n) (sym h.0) can.low, subst (λ (k : ℕ). k < n) (same_Some again q h.1) can.again_low)
    | inr h ↦ are.low p q h.1
  ];
  there = λ p q e. elim (at_either call p (Some again) (attempts.next p) (Some q) e) [
    | inl h ↦ subst (λ (k : ℕ). cond (nat_eq k again) (Some call) (attempts.previous k) ≡ Some p) (same_Some again q h.1) (at_here again (Some call) (attempts.previous again) ∙ ap Some (sym h.0))
    | inr h ↦ (
        let before = are.there p q h.1 in
        at_else again q (Some call) (attempts.previous q) (unlike q again (λ same. none-some p (sym can.free ∙ ap attempts.previous (sym same) ∙ before))) ∙ before
        )
  ];
  back = λ p q e. elim (at_either again q (Some call) (attempts.previous q) (Some p) e) [
    | inl h ↦ subst (λ (k : ℕ). cond (nat_eq k call) (Some again) (attempts.next k) ≡ Some q) (same_Some call p h.1) (at_here call (Some again) (attempts.next call) ∙ ap Some (sym h.0))
    | inr h ↦ (
        let next = are.back p q h.1 in
        at_else call p (Some again) (attempts.next p) (unlike p call (λ same. none-some q (sym can.untried ∙ ap attempts.next (sym same) ∙ next))) ∙ next
        )
  ];
  first = λ p low. first_if (nat_eq p again) (are.first call can.low) (are.first p low);
  later = λ p q e. elim (at_either call p (Some again) (attempts.next p) (Some q) e) [
    | inl h ↦ subst (λ (k : ℕ). start_at intervals k < start_at intervals q) (sym h.0) (subst (λ (k : ℕ). start_at intervals call < start_at intervals k) (same_Some again q h.1) can.later)
    | inr h ↦ are.later p q h.1
  ];
}
  where
    first_if : {v w : ℕ} (b : Bool) → v < n → w < n → cond b v w < n
    first_if true first second = first
    first_if false first second = second

-- ---- which call can try another again

strict_if : (start tick other : ℕ) → start ≤ tick → nat_lt start tick ≡ true → (nat_lt tick other || (nat_eq tick other && true)) ≡ true → start < other
strict_if start tick other low e h = grind (arith, nat_tests)

strict_else : (start tick other : ℕ) → start ≤ tick → nat_lt start tick ≡ false → (nat_lt tick other || (nat_eq tick other && false)) ≡ true → start < other
strict_else start tick other low e h = grind (arith, nat_tests)

strict_by : (b : Bool) (start tick other : ℕ) → start ≤ tick → nat_lt start tick ≡ b → (nat_lt tick other || (nat_eq tick other && nat_lt (turn_number (cond b Ends EndsAtOnce)) 1)) ≡ true → start < other
strict_by true start tick other low e h = strict_if start tick other low e h
strict_by false start tick other low e h = strict_else start tick other low e h

-- what starts after another ended starts later
pub starts_later : (interval other : Interval) → IsTimed interval → ended_before interval (start_moment other) ≡ true → interval.start < other.start
starts_later interval other timed h = by interval.end refl h
  where
    by : (o : Option ℕ) → interval.end ≡ o → is_past (option_map (end_after interval.start) o) (start_moment other) ≡ true → interval.start < other.start
    by None e is = absurd (true≢false (sym is))
    by (Some tick) e is = let both = timed.end tick e in strict_by (nat_lt interval.start tick) interval.start tick other.start both.1 refl is

find_in : {X : Type 0} (p : X → Bool) (xs : List X) (x : X) → find p xs ≡ Some x → IsIn x xs × (p x ≡ true)
find_in p [] x h = absurd (none-some x h)
find_in p (y ∷ ys) x h = by (p y) refl h (find_in p ys x)
  where
    by : (b : Bool) → p y ≡ b → cond b (Some y) (find p ys) ≡ Some x → (find p ys ≡ Some x → IsIn x ys × (p x ≡ true)) → IsIn x (y ∷ ys) × (p x ≡ true)
    by true e is more = (inl (sym (same_Some y x is)), ap p (sym (same_Some y x is)) ∙ e)
    by false e is more = let rest = more is in (inr rest.0, rest.1)

both_of : (a b : Bool) → (a && b) ≡ true → (a ≡ true) × (b ≡ true)
both_of true b h = (refl, h)
both_of false b h = absurd (true≢false (sym h))

not_some : (o : Option ℕ) → not (is_some o) ≡ true → o ≡ None
not_some None h = refl
not_some (Some q) h = absurd (true≢false (sym h))

module _ (n : ℕ) (calls : CallsOf) (order : List ℕ) (timed : Each IsTimed calls.intervals) (places : (p : ℕ) → IsIn p order → p < n) where
  found_try : (attempts : Attempts) (call again : ℕ) → call < n → attempts.next call ≡ None → first_try calls order attempts call ≡ Some again → CanTry n calls.intervals attempts call again
  found_try attempts call again low untried h =
      let found = find_in (λ (other : ℕ). can_try calls call other && not (is_some (attempts.previous other))) order again h in
      let both = both_of (can_try calls call again) (not (is_some (attempts.previous again))) found.1 in
      let same = both_of (same_caller (calls.callers call) (calls.callers again)) (is_same_call (slice_get calls.spans call) (slice_get calls.spans again) && ended_before (interval_at calls.intervals call) (start_moment (interval_at calls.intervals again))) both.0 in
      let ended = both_of (is_same_call (slice_get calls.spans call) (slice_get calls.spans again)) (ended_before (interval_at calls.intervals call) (start_moment (interval_at calls.intervals again))) same.1 in
      record {
        low = low;
        again_low = places again found.0;
        free = not_some (attempts.previous again) both.1;
        untried = untried;
        later = starts_later (interval_at calls.intervals call) (interval_at calls.intervals again) (timed_at calls.intervals call timed) ended.1;
      }

  record IsStep (before : Attempts) (call : ℕ) (after : Attempts) : Type 0 where
    are : AreAttempts n calls.intervals after
    others : (p : ℕ) → (p ≡ call → ⊥) → before.next p ≡ None → after.next p ≡ None

  one_step : (attempts : Attempts) (call : ℕ) → AreAttempts n calls.intervals attempts → call < n → attempts.next call ≡ None → IsStep attempts call (tried_again calls order attempts call)
  one_step attempts call are low untried = by (first_try calls order attempts call) refl
    where
      by : (o : Option ℕ) → first_try calls order attempts call ≡ o → IsStep attempts call (with_try attempts call o)
      by None e = record { are = are; others = λ p apart none. none }
      by (Some again) e = record {
        are = one_try n calls.intervals attempts call again are (found_try attempts call again low untried e);
        others = λ p apart none. at_else call p (Some again) (attempts.next p) (unlike p call apart) ∙ none;
      }

  all_tried : (rest : List ℕ) (attempts : Attempts) → AreAttempts n calls.intervals attempts → AreDistinct rest → ((p : ℕ) → IsIn p rest → p < n) → ((p : ℕ) → IsIn p rest → attempts.next p ≡ None)
      → AreAttempts n calls.intervals (fold (tried_again calls order) attempts rest)
  all_tried [] attempts are distinct low untried = are
  all_tried (call ∷ rest) attempts are distinct low untried =
      let step = one_step attempts call are (low call (inl refl)) (untried call (inl refl)) in
      all_tried rest (tried_again calls order attempts call) step.are distinct.1 (λ p h. low p (inr h))
      (λ p h. step.others p (λ same. distinct.0 (subst (λ (k : ℕ). IsIn k rest) same h)) (untried p (inr h)))

  pub are_attempts : AreDistinct order → AreAttempts n calls.intervals (attempts_of calls order)
  are_attempts distinct =
      all_tried (filter (is_failed_call calls) order) tried_once (are_once n calls.intervals) (distinct_filter (is_failed_call calls) order distinct)
      (λ p h. let found = in_filter (is_failed_call calls) order p h in places p found.0) (λ p h. refl)

-- ---- the last attempt of a call

-- steps one way are steps the other way back
reversed : (f g : ℕ → Option ℕ) → ((p q : ℕ) → f q ≡ Some p → g p ≡ Some q) → (d p q : ℕ) → up f d (Some q) ≡ Some p → up g d (Some p) ≡ Some q
reversed f g back zero p q h = ap Some (sym (same_Some q p h))
reversed f g back (suc d) p q h = by (f q) refl h (λ r. reversed f g back d p r)
  where
    by : (o : Option ℕ) → f q ≡ o → up f d o ≡ Some p → ((r : ℕ) → up f d (Some r) ≡ Some p → up g d (Some p) ≡ Some r) → up g (suc d) (Some p) ≡ Some q
    by None e is more = absurd (none-some p (sym (up_none f d) ∙ is))
    by (Some r) e is more = up_suc g d (Some p) ∙ ap (option_and_then g) (more r is) ∙ back r q e

-- where there is no further step there is one end
one_end : (f : ℕ → Option ℕ) (d e : ℕ) (o : Option ℕ) (r s : ℕ) → up f d o ≡ Some r → f r ≡ None → up f e o ≡ Some s → f s ≡ None → r ≡ s
one_end f zero zero o r s at end other also = same_Some r s (sym at ∙ other)
one_end f zero (suc e) o r s at end other also = absurd (none-some s (sym (up_none f e) ∙ sym (ap (up f e) (ap (option_and_then f) at ∙ end)) ∙ other))
one_end f (suc d) zero o r s at end other also = absurd (none-some r (sym (up_none f d) ∙ sym (ap (up f d) (ap (option_and_then f) other ∙ also)) ∙ at))
one_end f (suc d) (suc e) o r s at end other also = one_end f d e (option_and_then f o) r s at end other also

trail_at : (f : ℕ → Option ℕ) (n : ℕ) (o : Option ℕ) (p : ℕ) → IsIn p (trail f n o) → (d : ℕ) × (up f d o ≡ Some p)
trail_at f zero o p h = absurd h
trail_at f (suc n) None p h = absurd h
trail_at f (suc n) (Some q) p h = elim h [
  | inl e ↦ (0, ap Some (sym e))
  | inr t ↦ (let rest = trail_at f n (f q) p t in (suc rest.0, rest.1))
]

-- the last attempt of a call, of which the other is an earlier one
pub record IsTriedBy (attempts : Attempts) (place : ℕ) (last : ℕ) : Type 0 where
  pub steps : ℕ
  pub at : up attempts.next (suc steps) (Some place) ≡ Some last
  pub end : attempts.next last ≡ None

pub one_last : (attempts : Attempts) (place last other : ℕ) → IsTriedBy attempts place last → IsTriedBy attempts place other → last ≡ other
one_last attempts place last other is also = one_end attempts.next (suc is.steps) (suc also.steps) (Some place) last other is.at is.end also.at also.end

module _ (n : ℕ) (intervals : List Interval) (attempts : Attempts) (are : AreAttempts n intervals attempts) where
  rises : (d p q : ℕ) → up attempts.next d (Some p) ≡ Some q → start_at intervals p + d ≤ start_at intervals q
  rises zero p q h = let same : p ≡ q = same_Some p q h in subst (λ (k : ℕ). start_at intervals p + 0 ≤ start_at intervals k) same (omega arith)
  rises (suc d) p q h = by (attempts.next p) refl h (λ r. rises d r q)
    where
      by : (o : Option ℕ) → attempts.next p ≡ o → up attempts.next d o ≡ Some q → ((r : ℕ) → up attempts.next d (Some r) ≡ Some q → start_at intervals r + d ≤ start_at intervals q) → start_at intervals p + suc d ≤ start_at intervals q
      by None e is more = absurd (none-some q (sym (up_none attempts.next d) ∙ is))
      by (Some r) e is more = let low = are.later p r e in let rest = more r is in omega arith

  no_circle : (c y : ℕ) → up attempts.next (suc c) (Some y) ≡ Some y → ⊥
  no_circle c y h = let more = rises (suc c) y y h in absurd (omega arith)

  no_circle_back : (c y : ℕ) → up attempts.previous (suc c) (Some y) ≡ Some y → ⊥
  no_circle_back c y h = no_circle c y (reversed attempts.previous attempts.next (λ p q e. are.back p q e) (suc c) y y h)

  -- the attempts before one are different
  pub distinct_before : (k : ℕ) (o : Option ℕ) → AreDistinct (trail attempts.previous k o)
  distinct_before zero o = tt
  distinct_before (suc k) None = tt
  distinct_before (suc k) (Some p) = elim (circle attempts.previous (suc k) p) [
    | inl distinct ↦ distinct
    | inr ring ↦ absurd (no_circle_back ring.1 ring.0 ring.3)
  ]

  -- an attempt before the last one is tried again
  pub before_tried : (k last place : ℕ) → attempts.next last ≡ None → IsIn place (trail attempts.previous k (attempts.previous last)) → IsTriedBy attempts place last
  before_tried k last place end h =
      let at = trail_at attempts.previous k (attempts.previous last) place h in
      record { steps = at.0; at = reversed attempts.previous attempts.next (λ p q e. are.back p q e) (suc at.0) place last at.1; end = end }

  pub tried_next : (place last : ℕ) → IsTriedBy attempts place last → is_some (attempts.next place) ≡ true
  tried_next place last is = by (attempts.next place) is.at
    where
      by : (o : Option ℕ) → up attempts.next is.steps o ≡ Some last → is_some o ≡ true
      by None e = absurd (none-some last (sym (up_none attempts.next is.steps) ∙ e))
      by (Some q) e = refl

  some_low : (place : ℕ) (o : Option ℕ) → attempts.next place ≡ o → is_some o ≡ true → place < n
  some_low place None e h = absurd (true≢false (sym h))
  some_low place (Some q) e h = let both = are.low place q e in both.0

  pub next_low : (place : ℕ) → is_some (attempts.next place) ≡ true → place < n
  next_low place h = some_low place (attempts.next place) refl h

  up_low : (d p q : ℕ) → p < n → up attempts.next d (Some p) ≡ Some q → q < n
  up_low zero p q low h = subst (λ (k : ℕ). k < n) (same_Some p q h) low
  up_low (suc d) p q low h = by (attempts.next p) refl h (λ r lower. up_low d r q lower)
    where
      by : (o : Option ℕ) → attempts.next p ≡ o → up attempts.next d o ≡ Some q → ((r : ℕ) → r < n → up attempts.next d (Some r) ≡ Some q → q < n) → q < n
      by None e is more = absurd (none-some q (sym (up_none attempts.next d) ∙ is))
      by (Some r) e is more = let both = are.low p r e in more r both.1 is

  -- a call that was tried again has a last attempt, before which it stands
  pub record HasLast (place : ℕ) : Type 0 where
    pub last : ℕ
    pub low : last < n
    pub end : attempts.next last ≡ None
    pub before : IsIn place (trail attempts.previous 65_536 (attempts.previous last))

  last_after : (d place last : ℕ) → d < n → n ≤ 65536 → place < n → is_some (attempts.next place) ≡ true → up attempts.next d (Some place) ≡ Some last → attempts.next last ≡ None → HasLast place
  last_after zero place last short few low some at end = absurd (true≢false (sym some ∙ ap is_some (ap attempts.next (same_Some place last at) ∙ end)))
  last_after (suc d) place last short few low some at end = record {
    last = last;
    low = up_low (suc d) place last low at;
    end = end;
    before = in_trail attempts.previous 65_536 d (attempts.previous last) place (omega arith) (reversed attempts.next attempts.previous (λ p q e. are.there q p e) (suc d) last place at);
  }

  pub has_last : n ≤ 65536 → (place : ℕ) → place < n → is_some (attempts.next place) ≡ true → HasLast place
  has_last few place low some = elim (climb attempts.next n place) [
    | inl found ↦ last_after found.0 place found.2 found.1 few low some found.3 found.4
    | inr long ↦ absurd (elim (circle attempts.next (suc n) place) [
      | inl distinct ↦ (
          let count = long_trail attempts.next n place long.0 long.1 in
          let most = few_distinct (trail attempts.next (suc n) (Some place)) n distinct
          (below_trail attempts.next 0 n place low (λ x z e. let both = are.low x z e in both.1) (suc n) (Some place) (λ x e. subst (λ (k : ℕ). k < n) (same_Some place x e) low)) in
          absurd (omega (arith, count, most))
          )
      | inr ring ↦ no_circle ring.1 ring.0 ring.3
    ])
  ]
