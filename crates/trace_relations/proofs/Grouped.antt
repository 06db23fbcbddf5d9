-- Calls in groups by their keys.
use Rattle.std.proofs.Common.{◌≡◌, ℕ, suc, zero, ◌+◌, ◌<◌, ◌≤◌, ◌^◌, inl, inr, List, [], ◌∷◌, ◌++◌, Bool, true, false, cond, eqb, get_or, length, set, Option, Some, None, refl, sym, ap, ◌∙◌, subst, arith}
use Rattle.std.specs.Prelude.{◌⊎◌, ◌&&◌, ◌||◌, All, String, bytes_eq, filter, is_some, nat_eq, option_and_then, slice_get}
use Rattle.std.specs.Cmp.Lexicographic.{pointwise}
use Rattle.std.specs.Fmt.{decimal}
use Rattle.std.specs.HashMap.{HashMap, get_by_text}
use Rattle.std.specs.List.{list_any}
use Rattle.std.specs.Option.{option_eq}
use Rattle.std.specs.declared.alloc.Global.{Global}
use Rattle.std.proofs.lemmas.Bool.{and_left, and_parts, cases_eq, cases_lt, cond-false, cond-true, eq-eqb, eqb-true, false≢true, false_from_ne_true, ne_eqb, or_cases, true≢false}
use Rattle.std.proofs.lemmas.Bool.Decides.{Decides-and, Decides-eqb, Decides-like, same_from_decides}
use Rattle.std.proofs.lemmas.List.{append-nil, length-set, length_push}
use Rattle.std.proofs.lemmas.List.Elements.{All-get_or, All-head, All-push, All-tail, All-weaker, filter-append}
use Rattle.std.proofs.lemmas.List.Folds.{list_any-append}
use Rattle.std.proofs.lemmas.Option.{none-some, same_Some, slice_get-get_or, slice_get_within}
use Rattle.std.proofs.lemmas.Slice.Eq.{bytes_eq-Decides}
use Rattle.trace_spans.specs.declared.span.Span.{Span}
use Rattle.trace_relations.specs.declared.call_groups.Group.{Group}
use Rattle.trace_relations.specs.declared.call_groups.Groups.{Groups}
use Rattle.trace_relations.specs.Attempts.{CallsOf, has_failed, is_failed_call, is_same_call, same_caller, tried_once}
use Rattle.trace_relations.specs.Calls.{call_texts}
use Rattle.trace_relations.specs.GroupKeys.{AreFailing, IsShort, IsShortCall, call_key, group_key, group_texts, is_failing, key_if_failing, key_with}
use Rattle.trace_relations.specs.Groupings.{IsFreeGroup, IsGrouping, calls_at, calls_in, calls_of, has_key, number_in}
use Rattle.trace_relations.specs.Groups.{AreGroups, HasGroup, IsFailed, is_of_group}
use Rattle.trace_relations.specs.Keys.{key_of}
use Rattle.trace_relations.specs.Sets.{set_for}
use Rattle.trace_relations.proofs.Gets.{slice_get_front, slice_get_last, slice_get_there, value-set, value_other}
use Rattle.trace_relations.proofs.Keying.{decimal_apart, keys_apart, texts-Decides}

own_bytes : (key : List ℕ) → bytes_eq key key ≡ true
own_bytes key = (bytes_eq-Decides key key).1 refl

filter_has : (p : ℕ → Bool) (x : ℕ) (xs : List ℕ) → list_any (nat_eq x) xs ≡ true → p x ≡ true → filter p xs ≡ [] → ⊥
filter_has p x [] among passes none = false≢true among
filter_has p x (y ∷ ys) among passes none = by_test (p y) refl none (λ any. filter_has p x ys any passes)
  where
    later : p y ≡ false → list_any (nat_eq x) ys ≡ true
    later fails = elim (or_cases (nat_eq x y) (list_any (nat_eq x) ys) among) [
      | inl same ↦ absurd (true≢false (sym passes ∙ ap p (eqb-true x y same) ∙ fails))
      | inr rest ↦ rest
    ]

    by_test : (b : Bool) → p y ≡ b → cond b (y ∷ filter p ys) (filter p ys) ≡ [] → (list_any (nat_eq x) ys ≡ true → filter p ys ≡ [] → ⊥) → ⊥
    by_test true is empty rest = cc
    by_test false is empty rest = rest (later is) empty

key_here : (keys : ℕ → Option (List ℕ)) (place : ℕ) (key : List ℕ) → keys place ≡ Some key → has_key keys key place ≡ true
key_here keys place key is = ap (λ o. option_eq bytes_eq o (Some key)) is ∙ own_bytes key

-- ---- no groups

pub no_grouping : {S : Type 0} (keys : ℕ → Option (List ℕ)) (known : HashMap (String Global) ℕ S) (groups : List Group) (of_spans : List (Option ℕ)) → ((key : List ℕ) → get_by_text known key ≡ None) → groups ≡ [] → IsGrouping keys [] known groups of_spans
no_grouping keys known groups of_spans none are = record {
  calls = λ key. ap (calls_of groups) (none key);
  apart = λ key other number is also. absurd (none-some number (sym (none key) ∙ is));
  within = λ key number is. absurd (none-some number (sym (none key) ∙ is));
  free = subst (All IsFreeGroup) (sym are) (λ k d lt. absurd (omega arith));
  numbers = λ place key among is lt. absurd (false≢true among);
}

-- ---- a group more

known_in_front : (groups : List Group) (group : Group) (o : Option ℕ) → ((number : ℕ) → o ≡ Some number → number < length groups) → calls_of (groups ++ group ∷ []) o ≡ calls_of groups o
known_in_front groups group None within = refl
known_in_front groups group (Some number) within = ap calls_in (slice_get_front groups (group ∷ []) number (within number refl))

pub record IsNewGroup {S : Type 0} (known new : HashMap (String Global) ℕ S) (groups new_groups : List Group) (key : List ℕ) (number : ℕ) (group : Group) : Type 0 where
  pub missed : get_by_text known key ≡ None
  pub got : (other : List ℕ) → get_by_text new other ≡ cond (bytes_eq key other) (Some number) (get_by_text known other)
  pub number_is : number ≡ length groups
  pub empty : group.calls.items ≡ []
  pub free : IsFreeGroup group
  pub are : new_groups ≡ groups ++ group ∷ []

new_calls : {S : Type 0} (keys : ℕ → Option (List ℕ)) (places : List ℕ) (known new : HashMap (String Global) ℕ S) (groups new_groups : List Group) (of_spans : List (Option ℕ)) (key : List ℕ) (number : ℕ) (group : Group) → IsGrouping keys places known groups of_spans
    → IsNewGroup known new groups new_groups key number group → (other : List ℕ) (b : Bool) → bytes_eq key other ≡ b → calls_of new_groups (cond b (Some number) (get_by_text known other)) ≡ filter (has_key keys other) places
new_calls keys places known new groups new_groups of_spans key number group grouping one other true is =
    ap (λ those. calls_at those number) one.are ∙ ap calls_in (slice_get_last groups group number one.number_is) ∙ one.empty
    ∙ sym (ap (calls_of groups) (ap (get_by_text known) (sym ((bytes_eq-Decides key other).0 is)) ∙ one.missed)) ∙ grouping.calls other
new_calls keys places known new groups new_groups of_spans key number group grouping one other false is =
    ap (λ those. calls_of those (get_by_text known other)) one.are ∙ known_in_front groups group (get_by_text known other) (grouping.within other) ∙ grouping.calls other

new_apart : {S : Type 0} (keys : ℕ → Option (List ℕ)) (places : List ℕ) (known : HashMap (String Global) ℕ S) (groups : List Group) (of_spans : List (Option ℕ)) (key first second : List ℕ) (number at : ℕ) (b c : Bool) → IsGrouping keys places known groups of_spans → number ≡ length groups
    → bytes_eq key first ≡ b → bytes_eq key second ≡ c → cond b (Some number) (get_by_text known first) ≡ Some at → cond c (Some number) (get_by_text known second) ≡ Some at → first ≡ second
new_apart keys places known groups of_spans key first second number at true true grouping last is also one two = sym ((bytes_eq-Decides key first).0 is) ∙ (bytes_eq-Decides key second).0 also
new_apart keys places known groups of_spans key first second number at true false grouping last is also one two =
    let e : number ≡ at = same_Some number at one in
    absurd (omega (arith, e, grouping.within second at two))
new_apart keys places known groups of_spans key first second number at false true grouping last is also one two =
    let e : number ≡ at = same_Some number at two in
    absurd (omega (arith, e, grouping.within first at one))
new_apart keys places known groups of_spans key first second number at false false grouping last is also one two = grouping.apart first second at one two

new_within : (key : List ℕ) (number at count : ℕ) (o : Option ℕ) (b : Bool) → number ≡ count → ((n : ℕ) → o ≡ Some n → n < count) → cond b (Some number) o ≡ Some at → at < count + 1
new_within key number at count o true last within is = let e : number ≡ at = same_Some number at is in omega arith
new_within key number at count o false last within is = omega (arith, within at is)

pub grouping_new : {S : Type 0} (keys : ℕ → Option (List ℕ)) (places : List ℕ) (known new : HashMap (String Global) ℕ S) (groups new_groups : List Group) (of_spans : List (Option ℕ)) (key : List ℕ) (number : ℕ) (group : Group) → IsGrouping keys places known groups of_spans
    → IsNewGroup known new groups new_groups key number group → IsGrouping keys places new new_groups of_spans
grouping_new keys places known new groups new_groups of_spans key number group grouping one = record {
  calls = λ other. ap (calls_of new_groups) (one.got other) ∙ new_calls keys places known new groups new_groups of_spans key number group grouping one other (bytes_eq key other) refl;
  apart = λ first second at is also. new_apart keys places known groups of_spans key first second number at (bytes_eq key first) (bytes_eq key second) grouping one.number_is refl refl (sym (one.got first) ∙ is) (sym (one.got second) ∙ also);
  within = λ other at is.
      let lt = new_within key number at (length groups) (get_by_text known other) (bytes_eq key other) one.number_is (grouping.within other) (sym (one.got other) ∙ is) in
      let long : length new_groups ≡ length groups + 1 = ap length one.are ∙ length_push groups group in
      omega arith;
  free = subst (All IsFreeGroup) (sym one.are) (All-push IsFreeGroup groups group grouping.free one.free);
  numbers = λ place other among is lt.
      let other_key : bytes_eq key other ≡ false = false_from_ne_true (bytes_eq key other) (λ same.
      filter_has (has_key keys other) place places among (key_here keys place other is) (sym (grouping.calls other) ∙ ap (calls_of groups) (ap (get_by_text known) (sym ((bytes_eq-Decides key other).0 same)) ∙ one.missed))) in
      grouping.numbers place other among is lt ∙ sym (one.got other ∙ ap (λ b. cond b (Some number) (get_by_text known other)) other_key);
}

pub own_number : {S : Type 0} (known new : HashMap (String Global) ℕ S) (groups new_groups : List Group) (key : List ℕ) (number : ℕ) (group : Group) → IsNewGroup known new groups new_groups key number group → get_by_text new key ≡ Some number
own_number known new groups new_groups key number group one = one.got key ∙ ap (λ b. cond b (Some number) (get_by_text known key)) (own_bytes key)

-- ---- a call more

pub record IsAdded {S : Type 0} (keys : ℕ → Option (List ℕ)) (known : HashMap (String Global) ℕ S) (groups new_groups : List Group) (key : List ℕ) (number place : ℕ) : Type 0 where
  pub key_is : keys place ≡ Some key
  pub there : get_by_text known key ≡ Some number
  pub long : length new_groups ≡ length groups
  pub added : (other : ℕ) → calls_at new_groups other ≡ cond (nat_eq other number) (calls_at groups other ++ place ∷ []) (calls_at groups other)
  pub free : All IsFreeGroup new_groups

one_filtered : (keys : ℕ → Option (List ℕ)) (places : List ℕ) (place : ℕ) (key other : List ℕ) (b : Bool) → keys place ≡ Some key → bytes_eq key other ≡ b → filter (has_key keys other) (places ++ place ∷ []) ≡ filter (has_key keys other) places ++ cond b (place ∷ []) []
one_filtered keys places place key other b is same =
    filter-append (has_key keys other) places (place ∷ []) ∙ ap (λ c. filter (has_key keys other) places ++ cond c (place ∷ []) []) (ap (λ o. option_eq bytes_eq o (Some other)) is ∙ same)

more_calls : {S : Type 0} (keys : ℕ → Option (List ℕ)) (places : List ℕ) (known : HashMap (String Global) ℕ S) (groups new_groups : List Group) (of_spans : List (Option ℕ)) (key other : List ℕ) (number place : ℕ) (o : Option ℕ) (b : Bool) → IsGrouping keys places known groups of_spans
    → IsAdded keys known groups new_groups key number place → get_by_text known other ≡ o → bytes_eq key other ≡ b → calls_of new_groups o ≡ filter (has_key keys other) (places ++ place ∷ [])
more_calls keys places known groups new_groups of_spans key other number place None true grouping one is same =
    absurd (none-some number (sym is ∙ ap (get_by_text known) (sym ((bytes_eq-Decides key other).0 same)) ∙ one.there))
more_calls keys places known groups new_groups of_spans key other number place None false grouping one is same =
    sym (one_filtered keys places place key other false one.key_is same ∙ append-nil (filter (has_key keys other) places) ∙ sym (grouping.calls other) ∙ ap (calls_of groups) is)
more_calls keys places known groups new_groups of_spans key other number place (Some at) true grouping one is same =
    let e : at ≡ number = same_Some at number (sym is ∙ ap (get_by_text known) (sym ((bytes_eq-Decides key other).0 same)) ∙ one.there) in
    one.added at ∙ cond-true (nat_eq at number) (calls_at groups at ++ place ∷ []) (calls_at groups at) (eq-eqb at number e)
    ∙ ap (λ those. those ++ place ∷ []) (ap (calls_of groups) (sym is) ∙ grouping.calls other) ∙ sym (one_filtered keys places place key other true one.key_is same)
more_calls keys places known groups new_groups of_spans key other number place (Some at) false grouping one is same =
    let ne : at ≡ number → ⊥ = λ e. true≢false (sym ((bytes_eq-Decides key other).1 (grouping.apart key other number one.there (is ∙ ap Some e))) ∙ same) in
    one.added at ∙ cond-false (nat_eq at number) (calls_at groups at ++ place ∷ []) (calls_at groups at) (ne_eqb at number ne)
    ∙ ap (calls_of groups) (sym is) ∙ grouping.calls other ∙ sym (one_filtered keys places place key other false one.key_is same ∙ append-nil (filter (has_key keys other) places))

before_or_last : (places : List ℕ) (place other : ℕ) → list_any (nat_eq other) (places ++ place ∷ []) ≡ true → (list_any (nat_eq other) places ≡ true) ⊎ (other ≡ place)
before_or_last places place other among = elim (or_cases (list_any (nat_eq other) places) (nat_eq other place || false) (sym (list_any-append (nat_eq other) places (place ∷ [])) ∙ among)) [
  | inl before ↦ inl before
  | inr last ↦ elim (or_cases (nat_eq other place) false last) [ inl same ↦ inr (eqb-true other place same) | inr neither ↦ absurd (false≢true neither) ]
]

pub grouping_more : {S : Type 0} (keys : ℕ → Option (List ℕ)) (places : List ℕ) (known : HashMap (String Global) ℕ S) (groups new_groups : List Group) (of_spans : List (Option ℕ)) (key : List ℕ) (number place : ℕ) → IsGrouping keys places known groups of_spans
    → IsAdded keys known groups new_groups key number place → IsGrouping keys (places ++ place ∷ []) known new_groups (set of_spans place (Some number))
grouping_more keys places known groups new_groups of_spans key number place grouping one = record {
  calls = λ other. more_calls keys places known groups new_groups of_spans key other number place (get_by_text known other) (bytes_eq key other) grouping one refl refl;
  apart = grouping.apart;
  within = λ other at is. omega (arith, one.long, grouping.within other at is);
  free = one.free;
  numbers = λ other other_key among is lt.
      let long : length (set of_spans place (Some number)) ≡ length of_spans = length-set of_spans place (Some number) in
      elim (cases_eq other place) [
        | inl same ↦
            let here : place < length of_spans = omega arith in
            let keys_same : key ≡ other_key = same_Some key other_key (sym one.key_is ∙ ap keys (sym same) ∙ is) in
            value-set of_spans place (Some number) None here other ∙ cond-true (eqb other place) (Some number) (number_in of_spans other) (eq-eqb other place same) ∙ sym (ap (get_by_text known) (sym keys_same) ∙ one.there)
        | inr apart ↦ value_other of_spans place (Some number) None other apart ∙ elim (before_or_last places place other among) [
          | inl before ↦ grouping.numbers other other_key before is (omega arith)
          | inr last ↦ absurd (apart last)
        ]
      ];
}

-- a span without a key
pub grouping_passed : {S : Type 0} (keys : ℕ → Option (List ℕ)) (places : List ℕ) (known : HashMap (String Global) ℕ S) (groups : List Group) (of_spans : List (Option ℕ)) (place : ℕ) → IsGrouping keys places known groups of_spans → keys place ≡ None → IsGrouping keys (places ++ place ∷ []) known groups of_spans
grouping_passed keys places known groups of_spans place grouping none = record {
  calls = λ key. grouping.calls key ∙ sym (filter-append (has_key keys key) places (place ∷ []) ∙ ap (λ b. filter (has_key keys key) places ++ cond b (place ∷ []) []) (ap (λ o. option_eq bytes_eq o (Some key)) none) ∙ append-nil (filter (has_key keys key) places));
  apart = grouping.apart;
  within = grouping.within;
  free = grouping.free;
  numbers = λ other key among is lt. elim (before_or_last places place other among) [
    | inl before ↦ grouping.numbers other key before is lt
    | inr last ↦ absurd (none-some key (sym none ∙ ap keys (sym last) ∙ is))
  ];
}

-- ---- keys tell groups apart

and_none : (b : Bool) → (b && false) ≡ false
and_none true = refl
and_none false = refl

texts_back : (caller other : ℕ) (span another : Span) → caller < 2 ^ 64 → other < 2 ^ 64 → group_texts other another ≡ group_texts caller span → (caller ≡ other) × (call_texts span ≡ call_texts another)
texts_back caller other span another low_caller low_other is =
    let both : decimal other ∷ call_texts another ≡ decimal caller ∷ call_texts span = is in
    let heads : decimal other ≡ decimal caller = cc in
    let tails : call_texts another ≡ call_texts span = cc in
    (sym (decimal_apart other caller low_other low_caller heads), sym tails)

same_groups : (caller other : ℕ) (span another : Span) → IsShortCall caller span → IsShortCall other another → bytes_eq (call_key other another) (call_key caller span) ≡ (nat_eq caller other && pointwise bytes_eq (call_texts span) (call_texts another))
same_groups caller other span another short also =
    same_from_decides (bytes_eq (call_key other another) (call_key caller span)) (nat_eq caller other && pointwise bytes_eq (call_texts span) (call_texts another))
    (Decides-like (bytes_eq (call_key other another) (call_key caller span)) (λ e. texts_back caller other span another short.number also.number (keys_apart (group_texts other another) (group_texts caller span) also.texts short.texts e))
    (λ both. ap (λ n. key_of (decimal n ∷ call_texts another)) (sym both.0) ∙ ap (λ texts. key_of (decimal caller ∷ texts)) (sym both.1)) (bytes_eq-Decides (call_key other another) (call_key caller span)))
    (Decides-and (nat_eq caller other) (pointwise bytes_eq (call_texts span) (call_texts another)) (Decides-eqb caller other) (texts-Decides (call_texts span) (call_texts another)))

agree_at : (failing : List Bool) (caller : ℕ) (span : Span) → IsShortCall caller span → is_failing failing caller ≡ true → (callers : Option ℕ) (spans : Option Span)
    → ((other : ℕ) (another : Span) → callers ≡ Some other → is_failing failing other ≡ true → spans ≡ Some another → IsShortCall other another)
    → option_eq bytes_eq (option_and_then (λ other. cond (is_failing failing other) (key_with spans other) None) callers) (Some (call_key caller span)) ≡ (same_caller (Some caller) callers && is_same_call (Some span) spans)
agree_at failing caller span short fails None spans others = refl
agree_at failing caller span short fails (Some other) None others = no_key (is_failing failing other) ∙ sym (and_none (nat_eq caller other))
  where
    no_key : (b : Bool) → option_eq bytes_eq (cond b None None) (Some (call_key caller span)) ≡ false
    no_key true = refl
    no_key false = refl
agree_at failing caller span short fails (Some other) (Some another) others = by_failing (is_failing failing other) refl
  where
    by_failing : (b : Bool) → is_failing failing other ≡ b → option_eq bytes_eq (cond b (Some (call_key other another)) None) (Some (call_key caller span)) ≡ (nat_eq caller other && pointwise bytes_eq (call_texts span) (call_texts another))
    by_failing true is = same_groups caller other span another short (others other another refl is refl)
    by_failing false is =
        let apart : nat_eq caller other ≡ false = ne_eqb caller other (λ e. true≢false (sym fails ∙ ap (is_failing failing) e ∙ is)) in
        sym (and_left (nat_eq caller other) (pointwise bytes_eq (call_texts span) (call_texts another)) apart)

filter_same : (p q : ℕ → Bool) (xs : List ℕ) → All (λ x. p x ≡ q x) xs → filter p xs ≡ filter q xs
filter_same p q [] same = refl
filter_same p q (x ∷ xs) same =
    ap (λ b. cond b (x ∷ filter p xs) (filter p xs)) (All-head (λ y. p y ≡ q y) x xs same)
    ∙ ap (λ those. cond (q x) (x ∷ those) those) (filter_same p q xs (All-tail (λ y. p y ≡ q y) x xs same))

-- ---- all groups

-- a call that failed has a caller, and is a span
pub record IsCall (calls : CallsOf) (call : ℕ) : Type 0 where
  pub caller : ℕ
  pub span : Span
  pub caller_is : calls.callers call ≡ Some caller
  pub span_is : slice_get calls.spans call ≡ Some span
  pub failed : has_failed (slice_get calls.spans call) ≡ true

call_with : (calls : CallsOf) (call : ℕ) (o : Option ℕ) (s : Option Span) → calls.callers call ≡ o → slice_get calls.spans call ≡ s → (has_failed s && is_some o) ≡ true → IsCall calls call
call_with calls call o None o_is s_is fails = absurd (false≢true fails)
call_with calls call None (Some span) o_is s_is fails = absurd (false≢true (sym (and_none span.failed) ∙ fails))
call_with calls call (Some caller) (Some span) o_is s_is fails = record { caller = caller; span = span; caller_is = o_is; span_is = s_is; failed = ap has_failed s_is ∙ (and_parts span.failed true fails).0 }

pub failed_is_call : (calls : CallsOf) (call : ℕ) → is_failed_call calls call ≡ true → IsCall calls call
failed_is_call calls call fails = call_with calls call (calls.callers call) (slice_get calls.spans call) refl refl fails

key_is : (calls : CallsOf) (failing : List Bool) (call : ℕ) → AreFailing calls failing → (one : IsCall calls call) → group_key calls failing call ≡ Some (call_key one.caller one.span)
key_is calls failing call are one =
    ap (option_and_then (key_if_failing calls failing call)) one.caller_is
    ∙ cond-true (is_failing failing one.caller) (key_with (slice_get calls.spans call) one.caller) None (are call one.caller one.failed one.caller_is)
    ∙ ap (λ o. key_with o one.caller) one.span_is

short_at : (calls : CallsOf) (failing : List Bool) (order : List ℕ) (call : ℕ) → All (IsShort calls failing) order → list_any (nat_eq call) order ≡ true → IsShort calls failing call
short_at calls failing [] call all among = absurd (false≢true among)
short_at calls failing (x ∷ xs) call all among = elim (or_cases (nat_eq call x) (list_any (nat_eq call) xs) among) [
  | inl same ↦ subst (IsShort calls failing) (sym (eqb-true call x same)) (All-head (IsShort calls failing) x xs all)
  | inr rest ↦ short_at calls failing xs call (All-tail (IsShort calls failing) x xs all) rest
]

of_group : (calls : CallsOf) (call other : ℕ) (one : IsCall calls call) → is_of_group calls call other ≡ (same_caller (Some one.caller) (calls.callers other) && is_same_call (Some one.span) (slice_get calls.spans other))
of_group calls call other one =
    ap (λ o. same_caller o (calls.callers other) && is_same_call (slice_get calls.spans call) (slice_get calls.spans other)) one.caller_is
    ∙ ap (λ o. same_caller (Some one.caller) (calls.callers other) && is_same_call o (slice_get calls.spans other)) one.span_is

keys_agree : (calls : CallsOf) (failing : List Bool) (call other : ℕ) → AreFailing calls failing → (one : IsCall calls call) → IsShortCall one.caller one.span → IsShort calls failing other
    → has_key (group_key calls failing) (call_key one.caller one.span) other ≡ is_of_group calls call other
keys_agree calls failing call other are one short others =
    agree_at failing one.caller one.span short (are call one.caller one.failed one.caller_is) (calls.callers other) (slice_get calls.spans other) (λ caller span caller_is fails span_is. others caller span caller_is fails span_is)
    ∙ sym (of_group calls call other one)

-- the groups of all calls
pub record AllGrouped {S : Type 0} (calls : CallsOf) (order : List ℕ) (failing : List Bool) (known : HashMap (String Global) ℕ S) (groups : Groups) : Type 0 where
  pub failing_are : AreFailing calls failing
  pub grouping : IsGrouping (group_key calls failing) order known groups.groups.items groups.of_spans.items
  pub long : length groups.of_spans.items ≡ length calls.spans
  pub short : All (IsShort calls failing) order

known_number : {S : Type 0} (keys : ℕ → Option (List ℕ)) (places : List ℕ) (known : HashMap (String Global) ℕ S) (groups : List Group) (of_spans : List (Option ℕ)) (key : List ℕ) (call : ℕ) (o : Option ℕ) → IsGrouping keys places known groups of_spans → get_by_text known key ≡ o
    → list_any (nat_eq call) places ≡ true → keys call ≡ Some key → (number : ℕ) × (get_by_text known key ≡ Some number)
known_number keys places known groups of_spans key call None grouping is among own = absurd (filter_has (has_key keys key) call places among (key_here keys call key own) (sym (grouping.calls key) ∙ ap (calls_of groups) is))
known_number keys places known groups of_spans key call (Some number) grouping is among own = (number, is)

group_at : (groups : List Group) (number : ℕ) (group : Group) → All IsFreeGroup groups → slice_get groups number ≡ Some group → IsFreeGroup group
group_at groups number group all is =
    let within : number < length groups = slice_get_within groups number group is in
    subst IsFreeGroup (same_Some (get_or groups number group) group (sym (slice_get-get_or groups number group within) ∙ is)) (All-get_or IsFreeGroup groups number group within all)

number_known : {S : Type 0} (calls : CallsOf) (order : List ℕ) (failing : List Bool) (known : HashMap (String Global) ℕ S) (groups : Groups) (call : ℕ) → AllGrouped calls order failing known groups → IsFailed calls order call → (one : IsCall calls call)
    → number_in groups.of_spans.items call ≡ get_by_text known (call_key one.caller one.span)
number_known calls order failing known groups call all fails one =
    let within : call < length calls.spans = slice_get_within calls.spans call one.span one.span_is in
    let here : call < length groups.of_spans.items = omega (arith, all.long) in
    all.grouping.numbers call (call_key one.caller one.span) fails.among (key_is calls failing call all.failing_are one) here

has_group : {S : Type 0} (calls : CallsOf) (order : List ℕ) (failing : List Bool) (known : HashMap (String Global) ℕ S) (groups : Groups) (call : ℕ) → AllGrouped calls order failing known groups → IsFailed calls order call → HasGroup calls order tried_once call groups
has_group calls order failing known groups call all fails =
    let one = failed_is_call calls call fails.failed in
    let key : List ℕ = call_key one.caller one.span in
    let own = key_is calls failing call all.failing_are one in
    let short : IsShortCall one.caller one.span = short_at calls failing order call all.short fails.among one.caller one.span one.caller_is (all.failing_are call one.caller one.failed one.caller_is) one.span_is in
    let number = known_number (group_key calls failing) order known groups.groups.items groups.of_spans.items key call (get_by_text known key) all.grouping refl fails.among own in
    let there = slice_get_there groups.groups.items number.0 (all.grouping.within key number.0 number.1) in
    record {
      number = number.0;
      group = there.0;
      number_is = number_known calls order failing known groups call all fails one ∙ number.1;
      there = there.1;
      calls_are = sym (ap calls_in there.1) ∙ sym (ap (calls_of groups.groups.items) number.1) ∙ all.grouping.calls key
          ∙ filter_same (has_key (group_key calls failing) key) (is_of_group calls call) order
          (All-weaker (IsShort calls failing) (λ other. has_key (group_key calls failing) key other ≡ is_of_group calls call other) (λ other others. keys_agree calls failing call other all.failing_are one short others) order all.short);
      free_are = group_at groups.groups.items number.0 there.0 all.grouping.free there.1;
    }

group_parts : (calls : CallsOf) (call other : ℕ) (one : IsCall calls call) (two : IsCall calls other) → is_of_group calls call other ≡ true → (one.caller ≡ two.caller) × (call_texts one.span ≡ call_texts two.span)
group_parts calls call other one two is =
    let both : (nat_eq one.caller two.caller && pointwise bytes_eq (call_texts one.span) (call_texts two.span)) ≡ true =
    sym (of_group calls call other one ∙ ap (λ o. same_caller (Some one.caller) o && is_same_call (Some one.span) (slice_get calls.spans other)) two.caller_is ∙ ap (λ o. nat_eq one.caller two.caller && is_same_call (Some one.span) o) two.span_is) ∙ is in
    let parts = and_parts (nat_eq one.caller two.caller) (pointwise bytes_eq (call_texts one.span) (call_texts two.span)) both in
    (eqb-true one.caller two.caller parts.0, (texts-Decides (call_texts one.span) (call_texts two.span)).0 parts.1)

pub groups_are : {S : Type 0} (calls : CallsOf) (order : List ℕ) (failing : List Bool) (known : HashMap (String Global) ℕ S) (groups : Groups) → AllGrouped calls order failing known groups → AreGroups calls order tried_once groups
groups_are calls order failing known groups all = record {
  each = λ call fails. has_group calls order failing known groups call all fails;
  alike = λ call other number fails also is number_is.
      let one = failed_is_call calls call fails.failed in
      let two = failed_is_call calls other also.failed in
      let parts = group_parts calls call other one two is in
      let same : call_key one.caller one.span ≡ call_key two.caller two.span = ap (λ n. key_of (decimal n ∷ call_texts one.span)) parts.0 ∙ ap (λ texts. key_of (decimal two.caller ∷ texts)) parts.1 in
      number_known calls order failing known groups other all also two ∙ sym (ap (get_by_text known) same) ∙ sym (number_known calls order failing known groups call all fails one) ∙ number_is;
}

-- ---- callers of which a call failed

failing_here : (failing : List Bool) (caller : ℕ) → is_failing (set failing caller true) caller ≡ true
failing_here [] caller = refl
failing_here (b ∷ failing) zero = refl
failing_here (b ∷ failing) (suc caller) = failing_here failing caller

failing_stays : (failing : List Bool) (who caller : ℕ) → is_failing failing caller ≡ true → is_failing (set failing who true) caller ≡ true
failing_stays [] who caller fails = refl
failing_stays (b ∷ failing) zero zero fails = refl
failing_stays (b ∷ failing) zero (suc caller) fails = fails
failing_stays (b ∷ failing) (suc who) zero fails = fails
failing_stays (b ∷ failing) (suc who) (suc caller) fails = failing_stays failing who caller fails

failing_for : (failing : List Bool) (who : Option ℕ) (caller : ℕ) → is_failing failing caller ≡ true → is_failing (set_for failing who true) caller ≡ true
failing_for failing None caller fails = fails
failing_for failing (Some who) caller fails = failing_stays failing who caller fails

-- those of so many spans
pub AreFailingBefore : List Span → (ℕ → Option ℕ) → ℕ → List Bool → Type 0
AreFailingBefore spans callers count failing = (place caller : ℕ) → place < count → has_failed (slice_get spans place) ≡ true → callers place ≡ Some caller → is_failing failing caller ≡ true

pub none_failing : (spans : List Span) (callers : ℕ → Option ℕ) (failing : List Bool) → AreFailingBefore spans callers 0 failing
unfolding AreFailingBefore
none_failing spans callers failing = λ place caller lt fails is. absurd (omega arith)

pub one_failing : (spans : List Span) (callers : ℕ → Option ℕ) (count : ℕ) (failing new : List Bool) (who : Option ℕ) → who ≡ cond (has_failed (slice_get spans count)) (callers count) None → new ≡ set_for failing who true → AreFailingBefore spans callers count failing → AreFailingBefore spans callers (count + 1) new
unfolding AreFailingBefore
one_failing spans callers count failing new who who_is new_is are = λ place caller lt fails is. elim (cases_eq place count) [
  | inl same ↦
      let own : who ≡ Some caller = who_is ∙ ap (λ b. cond b (callers count) None) (ap (λ k. has_failed (slice_get spans k)) (sym same) ∙ fails) ∙ ap callers (sym same) ∙ is in
      ap (λ those. is_failing those caller) (new_is ∙ ap (λ o. set_for failing o true) own) ∙ failing_here failing caller
  | inr apart ↦ ap (λ those. is_failing those caller) new_is ∙ failing_for failing who caller (are place caller (before place count lt apart) fails is)
]
  where
    before : (k n : ℕ) → k < n + 1 → (k ≡ n → ⊥) → k < n
    before k n low ne = elim (cases_lt k n) [ inl below ↦ below | inr above ↦ absurd (ne (omega arith)) ]

failed_within : (spans : List Span) (place : ℕ) (o : Option Span) → slice_get spans place ≡ o → has_failed o ≡ true → place < length spans
failed_within spans place None is fails = absurd (false≢true fails)
failed_within spans place (Some span) is fails = slice_get_within spans place span is

pub all_failing : (calls : CallsOf) (count : ℕ) (failing : List Bool) → length calls.spans ≤ count → AreFailingBefore calls.spans calls.callers count failing → AreFailing calls failing
unfolding AreFailingBefore
all_failing calls count failing le are = λ place caller fails is.
    let within : place < length calls.spans = failed_within calls.spans place (slice_get calls.spans place) refl fails in
    are place caller (omega arith) fails is
