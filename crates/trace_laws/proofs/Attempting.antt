-- Attempts: which call tries which again, and which is the last.
use Rattle.std.proofs.Common.{◌≡◌, ℕ, suc, ◌<◌, ◌≤◌, inl, inr, List, [], ◌∷◌, Bool, true, false, cond, get_or, length, Option, Some, None, refl, sym, ap, ◌∙◌, subst, arith}
use Rattle.std.specs.Prelude.{◌⊎◌, ◌&&◌, filter, fold, is_some, nat_eq, not, slice_get}
use Rattle.std.specs.Option.{option_eq}
use Rattle.std.proofs.lemmas.Bool.{eq-eqb, eqb-true, false≢true, ne_eqb}
use Rattle.std.proofs.lemmas.Option.{none-some, same_Some}
use Rattle.trace_relations.specs.Ancestry.{start_at}
use Rattle.trace_relations.specs.Attempts.{Attempts, CallsOf, at_place, attempts_of, can_try, first_try, has_failed, is_failed_call, is_same_call, same_caller, tried_again, tried_once, with_try}
use Rattle.trace_relations.specs.ByStart.{AreInTurn}
use Rattle.trace_relations.specs.Moments.{ended_before, interval_at, start_moment}
use Rattle.trace_laws.proofs.Each.{Each, each-filter, filter_each}
use Rattle.trace_laws.proofs.Numbers.{number, start_number}
use Rattle.trace_laws.proofs.Relations.{and_left, and_right, ended_number, found_split, start_before_end}

pub decide : (x y : ℕ) → (x ≡ y) ⊎ (x ≡ y → ⊥)
decide x y = by_test (nat_eq x y) refl
  where
    by_test : (b : Bool) → nat_eq x y ≡ b → (x ≡ y) ⊎ (x ≡ y → ⊥)
    by_test true is = inl (eqb-true x y is)
    by_test false is = inr (λ same. false≢true (sym is ∙ eq-eqb x y same))

at_same : {A : Type 0} (values : ℕ → A) (place : ℕ) (value : A) → at_place values place value place ≡ value
at_same values place value = ap (λ b. cond b value (values place)) (eq-eqb place place refl)

at_other : {A : Type 0} (values : ℕ → A) (place : ℕ) (value : A) (other : ℕ) → (other ≡ place → ⊥) → at_place values place value other ≡ values other
at_other values place value other differ = ap (λ b. cond b value (values other)) (ne_eqb other place differ)

-- a caller that two calls have
pub has_caller : (one other : Option ℕ) → same_caller one other ≡ true → (caller : ℕ) × (one ≡ Some caller) × (other ≡ Some caller)
has_caller None other is = absurd (false≢true is)
has_caller (Some caller) other is = (caller, refl, same_option_back other caller is)
  where
    same_option_back : (other : Option ℕ) (caller : ℕ) → option_eq nat_eq (Some caller) other ≡ true → other ≡ Some caller
    same_option_back None caller is = absurd (false≢true is)
    same_option_back (Some found) caller is = ap Some (sym (eqb-true caller found is))

-- ---- calls that come in turn

-- none stands twice, and each starts no earlier than those before it
abbrev pub ComesAfter : CallsOf → ℕ → ℕ → Type 0
ComesAfter calls call other = (start_at calls.intervals call ≤ start_at calls.intervals other) × (call ≡ other → ⊥)

abbrev pub InTurn : CallsOf → List ℕ → Type 0
InTurn calls [] = Unit {0}
InTurn calls (call ∷ others) = Each (ComesAfter calls call) others × InTurn calls others

turn_filter : (calls : CallsOf) (test : ℕ → Bool) (order : List ℕ) → InTurn calls order → InTurn calls (filter test order)
turn_filter calls test [] turn = tt
turn_filter calls test (call ∷ others) turn = by_test (test call) (each-filter (ComesAfter calls call) test others turn.0) (turn_filter calls test others turn.1)
  where
    by_test : (b : Bool) → Each (ComesAfter calls call) (filter test others) → InTurn calls (filter test others) → InTurn calls (cond b (call ∷ filter test others) (filter test others))
    by_test true later rest = (later, rest)
    by_test false later rest = rest

each-get : (P : ℕ → Type 0) (places : List ℕ) → ((k : ℕ) → k < length places → P (get_or places k 0)) → Each P places
each-get P [] all = tt
each-get P (place ∷ places) all = (all 0 (omega arith), each-get P places (λ k lt. all (suc k) (omega arith)))

pub turns : (calls : CallsOf) (order : List ℕ) → AreInTurn calls.intervals order → InTurn calls order
turns calls [] are = tt
turns calls (call ∷ others) are = (
  each-get (ComesAfter calls call) others (λ k lt. (are.rise 0 (suc k) 0 (omega arith) (omega arith), are.once 0 (suc k) 0 (omega arith) (omega arith))),
  turns calls others (record { rise = λ i j d le lt. are.rise (suc i) (suc j) d (omega arith) (omega arith); once = λ i j d less lt. are.once (suc i) (suc j) d (omega arith) (omega arith) }),
)

module _ (calls : CallsOf) (forward : (place end : ℕ) → (interval_at calls.intervals place).end ≡ Some end → (interval_at calls.intervals place).start ≤ end) where
  -- each call that is tried again is so by one that can try it and tries no other; first and last are those of the whole call
  pub record AreTried (attempts : Attempts) : Type 0 where
    pub next : (call again : ℕ) → attempts.next call ≡ Some again → (can_try calls call again ≡ true) × (attempts.previous again ≡ Some call)
    pub previous : (call again : ℕ) → attempts.previous again ≡ Some call → attempts.next call ≡ Some again
    pub first : (call again : ℕ) → attempts.previous again ≡ Some call → attempts.first again ≡ attempts.first call
    pub alone : (call : ℕ) → attempts.previous call ≡ None → attempts.first call ≡ call
    pub last : (call : ℕ) → attempts.next call ≡ None → attempts.last (attempts.first call) ≡ call
    -- a first attempt is its own first, and is tried again where there is another
    pub same : (call : ℕ) → attempts.first (attempts.first call) ≡ attempts.first call
    pub leads : (call : ℕ) → (attempts.first call ≡ call) ⊎ ((again : ℕ) × (attempts.next (attempts.first call) ≡ Some again))
    pub callers : (call : ℕ) → calls.callers (attempts.first call) ≡ calls.callers call
    -- nothing comes before the first attempt, and a later one leads to itself
    pub begins : (call : ℕ) → attempts.previous (attempts.first call) ≡ None
    pub itself : (call again : ℕ) → attempts.previous again ≡ Some call → attempts.last again ≡ again
    -- what is tried again failed
    pub failed : (call again : ℕ) → attempts.next call ≡ Some again → has_failed (slice_get calls.spans call) ≡ true

  once_tried : AreTried tried_once
  once_tried = record {
    next = λ call again is. absurd (none-some again is);
    previous = λ call again is. absurd (none-some call is);
    first = λ call again is. absurd (none-some call is);
    alone = λ call is. refl;
    last = λ call is. refl;
    same = λ call. refl;
    leads = λ call. inl refl;
    callers = λ call. refl;
    begins = λ call. refl;
    itself = λ call again is. absurd (none-some call is);
    failed = λ call again is. absurd (none-some again is);
  }

  module _ (attempts : Attempts) (tried : AreTried attempts) (call again : ℕ) (can : can_try calls call again ≡ true) (free : attempts.previous again ≡ None) (ends_here : attempts.next call ≡ None)
      (begins_here : attempts.next again ≡ None) (differ : again ≡ call → ⊥) (fails : has_failed (slice_get calls.spans call) ≡ true) where
    abbrev More : Attempts
    More = with_try attempts call (Some again)

    next_of : (one other : ℕ) → More.next one ≡ Some other → ((one ≡ call) × (again ≡ other)) ⊎ ((one ≡ call → ⊥) × (attempts.next one ≡ Some other))
    next_of one other is = elim (decide one call) [
      | inl same ↦ inl (same, same_Some again other (sym (at_same attempts.next call (Some again)) ∙ ap More.next (sym same) ∙ is))
      | inr apart ↦ inr (apart, sym (at_other attempts.next call (Some again) one apart) ∙ is)
    ]

    previous_of : (one other : ℕ) → More.previous other ≡ Some one → ((other ≡ again) × (call ≡ one)) ⊎ ((other ≡ again → ⊥) × (attempts.previous other ≡ Some one))
    previous_of one other is = elim (decide other again) [
      | inl same ↦ inl (same, same_Some call one (sym (at_same attempts.previous again (Some call)) ∙ ap More.previous (sym same) ∙ is))
      | inr apart ↦ inr (apart, sym (at_other attempts.previous again (Some call) other apart) ∙ is)
    ]

    more_next : (one other : ℕ) → More.next one ≡ Some other → (can_try calls one other ≡ true) × (More.previous other ≡ Some one)
    more_next one other is = elim (next_of one other is) [
      | inl both ↦ (
        subst (λ x. can_try calls x other ≡ true) (sym both.0) (subst (λ y. can_try calls call y ≡ true) both.1 can),
        ap More.previous (sym both.1) ∙ at_same attempts.previous again (Some call) ∙ ap Some (sym both.0),
      )
      | inr both ↦
          let old = tried.next one other both.1 in
          (old.0, at_other attempts.previous again (Some call) other (λ same. none-some one (sym free ∙ ap attempts.previous (sym same) ∙ old.1)) ∙ old.1)
    ]

    more_previous : (one other : ℕ) → More.previous other ≡ Some one → More.next one ≡ Some other
    more_previous one other is = elim (previous_of one other is) [
      | inl both ↦ ap More.next (sym both.1) ∙ at_same attempts.next call (Some again) ∙ ap Some (sym both.0)
      | inr both ↦
          let old : attempts.next one ≡ Some other = tried.previous one other both.1 in
          at_other attempts.next call (Some again) one (λ same. none-some other (sym ends_here ∙ ap attempts.next (sym same) ∙ old)) ∙ old
    ]

    more_first : (one other : ℕ) → More.previous other ≡ Some one → More.first other ≡ More.first one
    more_first one other is = elim (previous_of one other is) [
      | inl both ↦
          ap More.first both.0 ∙ at_same attempts.first again (attempts.first call) ∙ ap attempts.first both.1
          ∙ sym (at_other attempts.first again (attempts.first call) one (λ same. differ (sym same ∙ sym both.1)))
      | inr both ↦
          at_other attempts.first again (attempts.first call) other both.0 ∙ tried.first one other both.1
          ∙ sym (at_other attempts.first again (attempts.first call) one (λ same. none-some other (sym begins_here ∙ ap attempts.next (sym same) ∙ tried.previous one other both.1)))
    ]

    more_alone : (one : ℕ) → More.previous one ≡ None → More.first one ≡ one
    more_alone one is = elim (decide one again) [
      | inl same ↦ absurd (none-some call (sym is ∙ ap More.previous same ∙ at_same attempts.previous again (Some call)))
      | inr apart ↦ at_other attempts.first again (attempts.first call) one apart ∙ tried.alone one (sym (at_other attempts.previous again (Some call) one apart) ∙ is)
    ]

    more_last : (one : ℕ) → More.next one ≡ None → More.last (More.first one) ≡ one
    more_last one is = elim (decide one call) [
      | inl same ↦ absurd (none-some again (sym is ∙ ap More.next same ∙ at_same attempts.next call (Some again)))
      | inr apart ↦ of_other apart (sym (at_other attempts.next call (Some again) one apart) ∙ is)
    ]
      where
        of_other : (one ≡ call → ⊥) → attempts.next one ≡ None → More.last (More.first one) ≡ one
        of_other apart none = elim (decide one again) [
          | inl same ↦ ap More.last (ap More.first same ∙ at_same attempts.first again (attempts.first call)) ∙ at_same attempts.last (attempts.first call) again ∙ sym same
          | inr other ↦
              ap More.last (at_other attempts.first again (attempts.first call) one other)
              ∙ at_other attempts.last (attempts.first call) again (attempts.first one) (λ same. apart (sym (tried.last one none) ∙ ap attempts.last same ∙ tried.last call ends_here))
              ∙ tried.last one none
        ]

    -- the second attempt does not lead others
    leads_none : (one : ℕ) → attempts.first one ≡ again → one ≡ again
    leads_none one is = elim (tried.leads one) [
      | inl same ↦ sym same ∙ is
      | inr more ↦ absurd (none-some more.0 (sym begins_here ∙ ap attempts.next (sym is) ∙ more.1))
    ]

    first_apart : attempts.first call ≡ again → ⊥
    first_apart is = differ (sym (leads_none call is))

    more_same : (one : ℕ) → More.first (More.first one) ≡ More.first one
    more_same one = elim (decide one again) [
      | inl same ↦
          let here : More.first one ≡ attempts.first call = ap More.first same ∙ at_same attempts.first again (attempts.first call) in
          ap More.first here ∙ at_other attempts.first again (attempts.first call) (attempts.first call) first_apart ∙ tried.same call ∙ sym here
      | inr apart ↦
          let here : More.first one ≡ attempts.first one = at_other attempts.first again (attempts.first call) one apart in
          ap More.first here ∙ at_other attempts.first again (attempts.first call) (attempts.first one) (λ is. apart (leads_none one is)) ∙ tried.same one ∙ sym here
    ]

    goes_on : (one other : ℕ) → attempts.next one ≡ Some other → (more : ℕ) × (More.next one ≡ Some more)
    goes_on one other is = elim (decide one call) [
      | inl same ↦ (again, ap More.next same ∙ at_same attempts.next call (Some again))
      | inr apart ↦ (other, at_other attempts.next call (Some again) one apart ∙ is)
    ]

    first_goes_on : (more : ℕ) × (More.next (attempts.first call) ≡ Some more)
    first_goes_on = elim (tried.leads call) [
      | inl same ↦ (again, ap More.next same ∙ at_same attempts.next call (Some again))
      | inr more ↦ goes_on (attempts.first call) more.0 more.1
    ]

    more_leads : (one : ℕ) → (More.first one ≡ one) ⊎ ((more : ℕ) × (More.next (More.first one) ≡ Some more))
    more_leads one = elim (decide one again) [
      | inl same ↦
          let here : More.first one ≡ attempts.first call = ap More.first same ∙ at_same attempts.first again (attempts.first call) in
          inr (first_goes_on.0, ap More.next here ∙ first_goes_on.1)
      | inr apart ↦ of_other apart (tried.leads one)
    ]
      where
        of_other : (one ≡ again → ⊥) → (attempts.first one ≡ one) ⊎ ((other : ℕ) × (attempts.next (attempts.first one) ≡ Some other)) → (More.first one ≡ one) ⊎ ((more : ℕ) × (More.next (More.first one) ≡ Some more))
        of_other apart (inl same) = inl (at_other attempts.first again (attempts.first call) one apart ∙ same)
        of_other apart (inr (other, next)) =
            let here : More.first one ≡ attempts.first one = at_other attempts.first again (attempts.first call) one apart in
            let goes = goes_on (attempts.first one) other next in
            inr (goes.0, ap More.next here ∙ goes.1)

    same_callers : calls.callers call ≡ calls.callers again
    same_callers =
        let both = has_caller (calls.callers call) (calls.callers again) (and_left (same_caller (calls.callers call) (calls.callers again)) _ can) in
        both.1 ∙ sym both.2

    more_callers : (one : ℕ) → calls.callers (More.first one) ≡ calls.callers one
    more_callers one = elim (decide one again) [
      | inl same ↦ ap calls.callers (ap More.first same ∙ at_same attempts.first again (attempts.first call)) ∙ tried.callers call ∙ same_callers ∙ ap calls.callers (sym same)
      | inr apart ↦ ap calls.callers (at_other attempts.first again (attempts.first call) one apart) ∙ tried.callers one
    ]

    more_begins : (one : ℕ) → More.previous (More.first one) ≡ None
    more_begins one = elim (decide one again) [
      | inl same ↦
          let here : More.first one ≡ attempts.first call = ap More.first same ∙ at_same attempts.first again (attempts.first call) in
          ap More.previous here ∙ at_other attempts.previous again (Some call) (attempts.first call) first_apart ∙ tried.begins call
      | inr apart ↦
          let here : More.first one ≡ attempts.first one = at_other attempts.first again (attempts.first call) one apart in
          ap More.previous here ∙ at_other attempts.previous again (Some call) (attempts.first one) (λ is. apart (leads_none one is)) ∙ tried.begins one
    ]

    more_itself : (one other : ℕ) → More.previous other ≡ Some one → More.last other ≡ other
    more_itself one other is = elim (previous_of one other is) [
      | inl both ↦
          let alone : attempts.last again ≡ again = ap attempts.last (sym (tried.alone again free)) ∙ tried.last again begins_here in
          ap More.last both.0 ∙ at_other attempts.last (attempts.first call) again again (λ same. first_apart (sym same)) ∙ alone ∙ sym both.0
      | inr both ↦
          at_other attempts.last (attempts.first call) again other (λ same. none-some one (sym (tried.begins call) ∙ ap attempts.previous (sym same) ∙ both.1)) ∙ tried.itself one other both.1
    ]

    more_failed : (one other : ℕ) → More.next one ≡ Some other → has_failed (slice_get calls.spans one) ≡ true
    more_failed one other is = elim (next_of one other is) [
      | inl both ↦ ap (λ place. has_failed (slice_get calls.spans place)) both.0 ∙ fails
      | inr both ↦ tried.failed one other both.1
    ]

    pub more_tried : AreTried More
    more_tried = record {
      next = more_next;
      previous = more_previous;
      first = more_first;
      alone = more_alone;
      last = more_last;
      same = more_same;
      leads = more_leads;
      callers = more_callers;
      begins = more_begins;
      itself = more_itself;
      failed = more_failed;
    }

  -- those that are tried again come before all that are still to come
  record Stand (attempts : Attempts) (coming : List ℕ) : Type 0 where
    pub tried : AreTried attempts
    pub before : (call again : ℕ) → attempts.next call ≡ Some again → Each (ComesAfter calls call) coming

  is_free : (other : ℕ) (found : Option ℕ) → not (is_some found) ≡ true → found ≡ None
  is_free other None free = refl
  is_free other (Some call) free = absurd (false≢true free)

  pub starts_later : (call again : ℕ) → can_try calls call again ≡ true → start_at calls.intervals call < start_at calls.intervals again
  starts_later call again can =
      let ended : ended_before (interval_at calls.intervals call) (start_moment (interval_at calls.intervals again)) ≡ true =
      and_right (is_same_call (slice_get calls.spans call) (slice_get calls.spans again)) _ (and_right (same_caller (calls.callers call) (calls.callers again)) _ can) in
      let last = ended_number calls.intervals call again ended in
      let first : start_number calls.intervals call < number last.0 = start_before_end (interval_at calls.intervals call) last.0 (forward call) last.1 in
      let then : number last.0 < start_number calls.intervals again = last.2 in
      omega arith

  none_or : {X : Type 0} (found : Option X) → ((x : X) → found ≡ Some x → ⊥) → found ≡ None
  none_or None never = refl
  none_or (Some x) never = absurd (never x refl)

  one_more : (order : List ℕ) (attempts : Attempts) (call : ℕ) (coming : List ℕ) → is_failed_call calls call ≡ true → Each (ComesAfter calls call) coming → Stand attempts (call ∷ coming) → (found : Option ℕ) → first_try calls order attempts call ≡ found
      → Stand (with_try attempts call found) coming
  one_more order attempts call coming failed turn stand None is = record { tried = stand.tried; before = λ one other next. (stand.before one other next).1 }
  one_more order attempts call coming failed turn stand (Some again) is =
      let found = found_split (λ other. can_try calls call other && not (is_some (attempts.previous other))) order again is in
      let can : can_try calls call again ≡ true = and_left (can_try calls call again) _ found.passes in
      let later : start_at calls.intervals call < start_at calls.intervals again = starts_later call again can in
      let free : attempts.previous again ≡ None = is_free again (attempts.previous again) (and_right (can_try calls call again) _ found.passes) in
      let ends_here : attempts.next call ≡ None = none_or (attempts.next call) (λ other next. (stand.before call other next).0.1 refl) in
      let begins_here : attempts.next again ≡ None = none_or (attempts.next again)
      (λ other next. let le : start_at calls.intervals again ≤ start_at calls.intervals call = (stand.before again other next).0.0 in omega arith) in
      let fails : has_failed (slice_get calls.spans call) ≡ true = and_left (has_failed (slice_get calls.spans call)) (is_some (calls.callers call)) failed in
      let differ : again ≡ call → ⊥ = λ same. (let e : start_at calls.intervals again ≡ start_at calls.intervals call = ap (start_at calls.intervals) same in omega arith) in
      record {
        tried = more_tried attempts stand.tried call again can free ends_here begins_here differ fails;
        before = λ one other next. elim (next_of attempts stand.tried call again can free ends_here begins_here differ fails one other next) [
          | inl both ↦ subst (λ x. Each (ComesAfter calls x) coming) (sym both.0) turn
          | inr both ↦ (stand.before one other both.1).1
        ];
      }

  all_stand : (order : List ℕ) (attempts : Attempts) (coming : List ℕ) → Each (λ call. is_failed_call calls call ≡ true) coming → InTurn calls coming → Stand attempts coming → AreTried (fold (tried_again calls order) attempts coming)
  all_stand order attempts [] failed turn stand = stand.tried
  all_stand order attempts (call ∷ coming) failed turn stand =
      all_stand order (tried_again calls order attempts call) coming failed.1 turn.1 (one_more order attempts call coming failed.0 turn.0 stand (first_try calls order attempts call) refl)

  pub attempts_are_tried : (order : List ℕ) → InTurn calls order → AreTried (attempts_of calls order)
  attempts_are_tried order turn =
      all_stand order tried_once (filter (is_failed_call calls) order) (filter_each (is_failed_call calls) order) (turn_filter calls (is_failed_call calls) order turn)
      (record { tried = once_tried; before = λ call again next. absurd (none-some again next) })

  pub all_tried : (b : Bool) (order : List ℕ) → InTurn calls order → AreTried (cond b tried_once (attempts_of calls order))
  all_tried true order turn = once_tried
  all_tried false order turn = attempts_are_tried order turn
