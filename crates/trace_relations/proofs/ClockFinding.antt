-- Clocks are known by the first spans that have them.
use Rattle.std.proofs.Common.{◌≡◌, ℕ, suc, zero, ◌+◌, ◌<◌, List, [], ◌∷◌, ◌++◌, Bool, true, false, cond, length, map, get_or, Option, Some, None, refl, sym, ap, ◌∙◌, subst, arith}
use Rattle.std.specs.Prelude.{◌||◌, All, String, bytes_eq, is_some, option_map, slice_get, string_bytes, string_eq, unwrap_or}
use Rattle.std.specs.Cmp.Lexicographic.{pointwise}
use Rattle.std.specs.HashMap.{HashMap, UpdatesBy, get_by_text}
use Rattle.std.specs.List.{list_any, position_from}
use Rattle.std.specs.Option.{option_or}
use Rattle.std.specs.declared.alloc.Global.{Global}
use Rattle.std.proofs.lemmas.Bool.{false_from_ne_true, false≢true}
use Rattle.std.proofs.lemmas.List.Elements.{All-append, All-cons, All-head, All-nil, All-tail, All-weaker}
use Rattle.std.proofs.lemmas.List.Folds.{list_any_at}
use Rattle.std.proofs.lemmas.Map.Text.{hash_map_updates_text}
use Rattle.std.proofs.lemmas.Option.{none-some, same_Some, slice_get-get_or, slice_get-map, slice_get_read, slice_get_within}
use Rattle.std.proofs.lemmas.Slice.Eq.{bytes_eq-Decides}
use Rattle.trace_spans.specs.declared.span.Span.{Span}
use Rattle.trace_relations.specs.ClockNumbers.{AreClocks, clock_at, clock_at_some}
use Rattle.trace_relations.specs.Clocks.{clock_of, same_clock}
use Rattle.trace_relations.specs.Keys.{AreShort, key_of}
use Rattle.trace_relations.specs.KeptMoves.{HasClocks}
use Rattle.trace_relations.specs.Parents.{all_references, named_parent, references_from, references_of}
use Rattle.trace_relations.specs.Waits.{caller_named, named_among}
use Rattle.trace_relations.proofs.Keying.{same_keys_back, texts-Decides}

-- ---- the first place that passes

position_agree : {X : Type 0} (p q : X → Bool) (i : ℕ) (xs : List X) → All (λ x. p x ≡ q x) xs → position_from p i xs ≡ position_from q i xs
position_agree p q i [] same = refl
position_agree p q i (x ∷ xs) same =
    ap (λ b. cond b (Some i) (position_from p (i + 1) xs)) (All-head (λ y. p y ≡ q y) x xs same)
    ∙ ap (λ o. cond (q x) (Some i) o) (position_agree p q (i + 1) xs (All-tail (λ y. p y ≡ q y) x xs same))

or_on : (b : Bool) (i : ℕ) (o rest : Option ℕ) → cond b (Some i) (option_or o rest) ≡ option_or (cond b (Some i) o) rest
or_on true i o rest = refl
or_on false i o rest = refl

position-append : {X : Type 0} (p : X → Bool) (i : ℕ) (xs ys : List X) → position_from p i (xs ++ ys) ≡ option_or (position_from p i xs) (position_from p (i + length xs) ys)
position-append p i [] ys = let e : i ≡ i + 0 = omega arith in ap (λ j. position_from p j ys) e
position-append p i (x ∷ xs) ys =
    let e : (i + 1) + length xs ≡ i + suc (length xs) = omega arith in
    ap (λ o. cond (p x) (Some i) o) (position-append p (i + 1) xs ys ∙ ap (λ j. option_or (position_from p (i + 1) xs) (position_from p j ys)) e)
    ∙ or_on (p x) i (position_from p (i + 1) xs) (position_from p (i + suc (length xs)) ys)

pub record IsPosition {X : Type 0} (p : X → Bool) (i : ℕ) (xs : List X) : Type 0 where
  pub place : ℕ
  pub item : X
  pub is : position_from p i xs ≡ Some (i + place)
  pub there : slice_get xs place ≡ Some item
  pub passes : p item ≡ true

here_or_later : {X : Type 0} (p : X → Bool) (i : ℕ) (x : X) (xs : List X) (b : Bool) → p x ≡ b → (b ≡ false → IsPosition p (i + 1) xs) → IsPosition p i (x ∷ xs)
here_or_later p i x xs true is later = let e : i ≡ i + 0 = omega arith in record { place = 0; item = x; is = ap (λ b. cond b (Some i) (position_from p (i + 1) xs)) is ∙ ap Some e; there = refl; passes = is }
here_or_later p i x xs false is later =
    let rest = later refl in
    let e : (i + 1) + rest.place ≡ i + suc rest.place = omega arith in
    record { place = suc rest.place; item = rest.item; is = ap (λ b. cond b (Some i) (position_from p (i + 1) xs)) is ∙ rest.is ∙ ap Some e; there = rest.there; passes = rest.passes }

pub position_finds : {X : Type 0} (p : X → Bool) (i : ℕ) (xs : List X) → list_any p xs ≡ true → IsPosition p i xs
position_finds p i [] any = absurd (false≢true any)
position_finds p i (x ∷ xs) any = here_or_later p i x xs (p x) refl (λ fails. position_finds p (i + 1) xs (later_any (p x) (list_any p xs) fails any))
  where
    later_any : (b c : Bool) → b ≡ false → (b || c) ≡ true → c ≡ true
    later_any true c fails any = absurd (false≢true (sym fails))
    later_any false c fails any = any

-- ---- what the map has

kept : (o : Option ℕ) (b : Bool) (i : ℕ) → (b ≡ true → is_some o ≡ true) → o ≡ option_or o (cond b (Some i) None)
kept None true i some = absurd (false≢true (some refl))
kept None false i some = refl
kept (Some place) b i some = refl

added : (o : Option ℕ) (b : Bool) (i : ℕ) → (b ≡ true → o ≡ None) → cond b (Some i) o ≡ option_or o (cond b (Some i) None)
added None true i none = refl
added None false i none = refl
added (Some place) true i none = absurd (none-some place (sym (none refl)))
added (Some place) false i none = refl

is_key : Span → List ℕ → Bool
is_key span key = bytes_eq (key_of span.clock) key

pub key_finds : {S : Type 0} (known : HashMap (String Global) ℕ S) (before : List Span) (span : Span) → HasClocks known before → AreShort span.clock → get_by_text known (key_of span.clock) ≡ position_from (same_clock span) 0 before
key_finds known before span has short =
    has.first (key_of span.clock)
    ∙ position_agree (λ (other : Span). bytes_eq (key_of other.clock) (key_of span.clock)) (same_clock span) 0 before
    (All-weaker (λ (other : Span). AreShort other.clock) (λ (other : Span). bytes_eq (key_of other.clock) (key_of span.clock) ≡ same_clock span other) (λ other short_other. same_keys_back other.clock span.clock short_other short) before has.short)

-- a clock that is known
pub clock_found : {S : Type 0} (known : HashMap (String Global) ℕ S) (before : List Span) (span : Span) (key : List ℕ) (first place : ℕ) → HasClocks known before → AreShort span.clock → key ≡ key_of span.clock → get_by_text known key ≡ Some first
    → first ≡ unwrap_or (position_from (same_clock span) 0 before) place
clock_found known before span key first place has short is found =
    ap (λ o. unwrap_or o place) (sym found ∙ ap (λ k. get_by_text known k) is ∙ key_finds known before span has short)

-- a clock that isn't
pub clock_missed : {S : Type 0} (known : HashMap (String Global) ℕ S) (before : List Span) (span : Span) (key : List ℕ) (place : ℕ) → HasClocks known before → AreShort span.clock → key ≡ key_of span.clock → get_by_text known key ≡ None
    → place ≡ unwrap_or (position_from (same_clock span) 0 before) place
clock_missed known before span key place has short is missed =
    ap (λ o. unwrap_or o place) (sym missed ∙ ap (λ k. get_by_text known k) is ∙ key_finds known before span has short)

all_short : (before : List Span) (span : Span) → All (λ (other : Span). AreShort other.clock) before → AreShort span.clock → All (λ (other : Span). AreShort other.clock) (before ++ span ∷ [])
all_short before span all short = All-append (λ (other : Span). AreShort other.clock) before (span ∷ []) all (All-cons (λ (other : Span). AreShort other.clock) span [] short (All-nil (λ (other : Span). AreShort other.clock)))

known_stays : {S : Type 0} (known : HashMap (String Global) ℕ S) (before : List Span) (span : Span) → HasClocks known before → AreShort span.clock → ((key : List ℕ) → bytes_eq (key_of span.clock) key ≡ true → is_some (get_by_text known key) ≡ true)
    → HasClocks known (before ++ span ∷ [])
known_stays known before span has short some = record {
  first = λ key.
      has.first key
      ∙ kept (position_from (λ (other : Span). bytes_eq (key_of other.clock) key) 0 before) (bytes_eq (key_of span.clock) key) (0 + length before) (λ same. ap is_some (sym (has.first key)) ∙ some key same)
      ∙ sym (position-append (λ (other : Span). bytes_eq (key_of other.clock) key) 0 before (span ∷ []));
  short = all_short before span has.short short;
}

-- a clock that is known stays so
pub known_found : {S : Type 0} (known : HashMap (String Global) ℕ S) (before : List Span) (span : Span) (key : List ℕ) (first : ℕ) → HasClocks known before → AreShort span.clock → key ≡ key_of span.clock → get_by_text known key ≡ Some first → HasClocks known (before ++ span ∷ [])
known_found known before span key first has short is found =
    known_stays known before span has short (λ other same. ap (λ k. is_some (get_by_text known k)) (sym (is ∙ (bytes_eq-Decides (key_of span.clock) other).0 same)) ∙ ap is_some found)

short_at : (span : Span) (clock : List (List ℕ)) → span.clock ≡ clock → AreShort span.clock → AreShort clock
short_at span clock same short = subst AreShort same short

-- so does one that a span before has
pub known_alike : {S : Type 0} (known : HashMap (String Global) ℕ S) (before : List Span) (span : Span) → HasClocks known before → list_any (same_clock span) before ≡ true → HasClocks known (before ++ span ∷ [])
known_alike known before span has any =
    let at = position_finds (same_clock span) 0 before any in
    let same : span.clock ≡ at.item.clock = (texts-Decides span.clock at.item.clock).0 at.passes in
    let within : at.place < length before = slice_get_within before at.place at.item at.there in
    let here : get_or before at.place at.item ≡ at.item = same_Some (get_or before at.place at.item) at.item (sym (slice_get-get_or before at.place at.item within) ∙ at.there) in
    let short : AreShort span.clock = short_at (get_or before at.place at.item) span.clock (ap (λ (x : Span). x.clock) here ∙ sym same) (has.short at.place at.item within) in
    known_stays known before span has short (λ key is.
    let passes : bytes_eq (key_of (get_or before at.place at.item).clock) key ≡ true = ap (λ clock. bytes_eq (key_of clock) key) (ap (λ (x : Span). x.clock) here ∙ sym same) ∙ is in
    let found = position_finds (λ (other : Span). bytes_eq (key_of other.clock) key) 0 before (list_any_at (λ (other : Span). bytes_eq (key_of other.clock) key) before at.place at.item within passes) in
    ap is_some (has.first key ∙ found.is))

-- one that isn't is noted
pub known_more : {S : Type 0} (known new : HashMap (String Global) ℕ S) (before : List Span) (span : Span) (id : String Global) (place : ℕ) → HasClocks known before → AreShort span.clock → string_bytes id ≡ key_of span.clock → place ≡ length before
    → get_by_text known (string_bytes id) ≡ None → UpdatesBy string_eq (λ k. bytes_eq (string_bytes id) (string_bytes k)) known new (Some place) → HasClocks new (before ++ span ∷ [])
known_more known new before span id place has short is at missed updates =
    let here : place ≡ 0 + length before = omega arith in
    record {
      first = λ key.
          hash_map_updates_text (string_bytes id) known new (Some place) updates key
          ∙ added (get_by_text known key) (bytes_eq (string_bytes id) key) place (λ same. ap (λ k. get_by_text known k) (sym ((bytes_eq-Decides (string_bytes id) key).0 same)) ∙ missed)
          ∙ ap (λ o. option_or o (cond (bytes_eq (string_bytes id) key) (Some place) None)) (has.first key)
          ∙ ap (λ k. option_or (position_from (λ (other : Span). bytes_eq (key_of other.clock) key) 0 before) (cond (bytes_eq k key) (Some place) None)) is
          ∙ ap (λ j. option_or (position_from (λ (other : Span). bytes_eq (key_of other.clock) key) 0 before) (cond (bytes_eq (key_of span.clock) key) (Some j) None)) here
          ∙ sym (position-append (λ (other : Span). bytes_eq (key_of other.clock) key) 0 before (span ∷ []));
      short = all_short before span has.short short;
    }

-- no clocks are known
pub none_known : {S : Type 0} (known : HashMap (String Global) ℕ S) → ((key : List ℕ) → get_by_text known key ≡ None) → HasClocks known []
none_known known none = record { first = λ key. none key; short = All-nil (λ (other : Span). AreShort other.clock) }

-- ---- clocks

own_clock : (span : Span) → same_clock span span ≡ true
own_clock span = (texts-Decides span.clock span.clock).1 refl

first_or : (o : Option ℕ) (n m : ℕ) → m ≡ n → unwrap_or (option_or o (Some m)) 0 ≡ unwrap_or o n
first_or None n m same = same
first_or (Some place) n m same = refl

-- the clock of a span that comes after others is the first of them that has it, or itself
pub clock_whole : (all before rest : List Span) (span : Span) → all ≡ before ++ span ∷ rest → unwrap_or (position_from (same_clock span) 0 before) (length before) ≡ clock_of all span
clock_whole all before rest span is =
    let e : 0 + length before ≡ length before = omega arith in
    sym (ap (λ spans. clock_of spans span) is
    ∙ ap (λ o. unwrap_or o 0) (position-append (same_clock span) 0 before (span ∷ rest) ∙ ap (λ b. option_or (position_from (same_clock span) 0 before) (cond b (Some (0 + length before)) (position_from (same_clock span) (0 + length before + 1) rest))) (own_clock span))
    ∙ first_or (position_from (same_clock span) 0 before) (length before) (0 + length before) e)

pub next_is : (all before rest : List Span) (span : Span) (clock : ℕ) → all ≡ before ++ span ∷ rest → clock ≡ unwrap_or (position_from (same_clock span) 0 before) (length before) → clock ≡ clock_of all span
next_is all before rest span clock is at = at ∙ clock_whole all before rest span is

clock_alike : (all : List Span) (span other : Span) → span.clock ≡ other.clock → clock_of all span ≡ clock_of all other
clock_alike all span other same = ap (λ clock. unwrap_or (position_from (λ (each : Span). pointwise bytes_eq clock each.clock) 0 all) 0) same

-- a span that has the clock of one before
pub clock_kept : (all before : List Span) (clocks : List ℕ) (place clock : ℕ) (last span : Span) → clocks ≡ map (clock_of all) before → place < length before → last ≡ get_or before place last → slice_get clocks place ≡ Some clock → last.clock ≡ span.clock
    → (clock ≡ clock_of all span) × (list_any (same_clock span) before ≡ true)
clock_kept all before clocks place clock last span are within is got same = (
  same_Some clock (clock_of all last) (sym got ∙ ap (λ those. slice_get those place) are ∙ slice_get-map (clock_of all) before place ∙ ap (option_map (clock_of all)) (slice_get_read before (length before) place last refl within is)) ∙ clock_alike all last span same,
  list_any_at (same_clock span) before place last within ((texts-Decides span.clock (get_or before place last).clock).1 (sym same ∙ ap (λ (x : Span). x.clock) is)),
)

-- the clock of a span is that of the first span that has it
clock_first : (spans : List Span) (place : ℕ) (span : Span) → slice_get spans place ≡ Some span → IsPosition (same_clock span) 0 spans
clock_first spans place span is =
    let within : place < length spans = slice_get_within spans place span is in
    let here : get_or spans place span ≡ span = same_Some (get_or spans place span) span (sym (slice_get-get_or spans place span within) ∙ is) in
    position_finds (same_clock span) 0 spans (list_any_at (same_clock span) spans place span within (ap (same_clock span) here ∙ own_clock span))

clock_is : (spans : List Span) (place : ℕ) (span : Span) (is : slice_get spans place ≡ Some span) → clock_of spans span ≡ (clock_first spans place span is).place
clock_is spans place span is =
    let first = clock_first spans place span is in
    let e : 0 + first.place ≡ first.place = omega arith in
    ap (λ o. unwrap_or o 0) first.is ∙ e

pub clock_below : (spans : List Span) (place : ℕ) (span : Span) → slice_get spans place ≡ Some span → clock_of spans span < length spans
clock_below spans place span is =
    let first = clock_first spans place span is in
    let within = slice_get_within spans first.place first.item first.there in
    omega (arith, clock_is spans place span is)

-- two spans have one clock where it is known by the same span
pub clocks_tell : (spans : List Span) (place other : ℕ) (span another : Span) → slice_get spans place ≡ Some span → slice_get spans other ≡ Some another → clock_of spans span ≡ clock_of spans another → span.clock ≡ another.clock
clocks_tell spans place other span another is also same =
    let first = clock_first spans place span is in
    let second = clock_first spans other another also in
    let e : first.place ≡ second.place = sym (clock_is spans place span is) ∙ same ∙ clock_is spans other another also in
    let items : first.item ≡ second.item = same_Some first.item second.item (sym first.there ∙ ap (λ j. slice_get spans j) e ∙ second.there) in
    (texts-Decides span.clock first.item.clock).0 first.passes ∙ ap (λ (x : Span). x.clock) items ∙ sym ((texts-Decides another.clock second.item.clock).0 second.passes)

pub clocks_differ : (spans : List Span) (span another : Span) → (clock_of spans span ≡ clock_of spans another → ⊥) → same_clock span another ≡ false
clocks_differ spans span another differ = false_from_ne_true (same_clock span another) (λ same. differ (clock_alike spans span another ((texts-Decides span.clock another.clock).0 same)))

pub clocks_same : (spans : List Span) (place other : ℕ) (span another : Span) → slice_get spans place ≡ Some span → slice_get spans other ≡ Some another → clock_of spans span ≡ clock_of spans another → same_clock span another ≡ true
clocks_same spans place other span another is also same = (texts-Decides span.clock another.clock).1 (clocks_tell spans place other span another is also same)

-- ---- clocks by places

clock_some : (spans : List Span) (place : ℕ) (o : Option Span) → clock_at_some spans place o ≡ unwrap_or (option_map (clock_of spans) o) place
clock_some spans place None = refl
clock_some spans place (Some span) = refl

pub clock_read : (spans : List Span) (clocks : List ℕ) (place : ℕ) → AreClocks spans clocks → clock_at spans place ≡ unwrap_or (slice_get clocks place) place
clock_read spans clocks place are = clock_some spans place (slice_get spans place) ∙ ap (λ o. unwrap_or o place) (sym (slice_get-map (clock_of spans) spans place) ∙ ap (λ those. slice_get those place) (sym are))

pub clock_at_is : (spans : List Span) (place : ℕ) (span : Span) → slice_get spans place ≡ Some span → clock_at spans place ≡ clock_of spans span
clock_at_is spans place span is = ap (clock_at_some spans place) is

-- ---- what references mean, by places

pub references_at : (spans : List Span) (i : ℕ) (xs : List Span) (k : ℕ) → slice_get (references_from spans i xs) k ≡ option_map (references_of spans (i + k)) (slice_get xs k)
references_at spans i [] k = refl
references_at spans i (x ∷ xs) zero = let e : i ≡ i + 0 = omega arith in ap (λ j. Some (references_of spans j x)) e
references_at spans i (x ∷ xs) (suc k) = let e : (i + 1) + k ≡ i + suc k = omega arith in references_at spans (i + 1) xs k ∙ ap (λ j. option_map (references_of spans j) (slice_get xs k)) e

pub named_is : (spans : List Span) (place : ℕ) (span : Span) → slice_get spans place ≡ Some span → caller_named (all_references spans) place ≡ named_parent spans place span
named_is spans place span is =
    let e : 0 + place ≡ place = omega arith in
    ap named_among (references_at spans 0 spans place ∙ ap (option_map (references_of spans (0 + place))) is ∙ ap (λ j. Some (references_of spans j span)) e)
