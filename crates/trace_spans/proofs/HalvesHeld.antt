-- The set of servers' halves, as spans are read one after another.
use Rattle.std.proofs.Common.{◌≡◌, ℕ, List, [], ◌∷◌, ◌++◌, length, Bool, true, false, not, Result, Ok, Err, refl, sym, ap, ◌∙◌, string_bytes, arith}
use Rattle.std.specs.Prelude.{◌&&◌, ◌||◌, Some}
use Rattle.std.specs.HashSet.{HashSet, PutsKey, contains_by}
use Rattle.std.specs.List.{list_any}
use Rattle.std.specs.Str.{bytes_eq}
use Rattle.std.specs.String.{string_eq}
use Rattle.std.proofs.lemmas.Bool.{false≢true}
use Rattle.std.proofs.lemmas.List.Folds.{list_any-append}
use Rattle.std.proofs.lemmas.List.Sorted.{list_any-IsPermutation}
use Rattle.std.proofs.lemmas.Slice.Eq.{bytes_eq-Decides}
use Rattle.trace_spans.specs.declared.zipkin.halves.Half.{Half}
use Rattle.serde_json.specs.Data.{Items}
use Rattle.trace_spans.specs.declared.fault.Fault.{Fault}
use Rattle.trace_spans.specs.Halves.{ToldHalf, halves_of, has_half, is_half}
use Rattle.trace_spans.specs.HalfMarks.{AreHalves, is_held, told_of}
use Rattle.trace_spans.specs.Members.{then_on}
use Rattle.trace_spans.proofs.Marking.{any_same}

abbrev pub same_half : Half → Half → Bool
same_half half other = string_eq half.trace other.trace && (string_eq half.id other.id && string_eq half.service other.service)

as_held : (half other : Half) (trace id service : List ℕ) → string_bytes half.trace ≡ trace → string_bytes half.id ≡ id → string_bytes half.service ≡ service → same_half half other ≡ is_held trace id service other
as_held half other trace id service e f g = rw (e, f, g) refl

-- a half of these texts is held where they are
own : (half : Half) (trace id service : List ℕ) → string_bytes half.trace ≡ trace → string_bytes half.id ≡ id → string_bytes half.service ≡ service → (keys : List Half) → list_any (same_half half) keys ≡ list_any (is_held trace id service) keys
own half trace id service e f g keys = any_same (same_half half) (is_held trace id service) (λ other. as_held half other trace id service e f g) keys

all_three : (a b c : Bool) → (a && (b && c)) ≡ true → (a ≡ true) × (b ≡ true) × (c ≡ true)
all_three true true true h = (refl, refl, refl)
all_three true true false h = absurd (false≢true h)
all_three true false c h = absurd (false≢true h)
all_three false b c h = absurd (false≢true h)

turned : (a b : Bool) → (a || b) ≡ (b || (a || false))
turned true true = refl
turned true false = refl
turned false true = refl
turned false false = refl

there : (b : Bool) → false ≡ not b → b ≡ true
there true e = refl
there false e = absurd (false≢true e)

-- where it is there, it is no more
no_more : (a b : Bool) → (a ≡ true → b ≡ true) → b ≡ (b || (a || false))
no_more true true h = refl
no_more true false h = absurd (false≢true (h refl))
no_more false true h = refl
no_more false false h = refl

held : {S : Type 0} (halves : HashSet Half S) (half : Half) (trace id service : List ℕ) → contains_by (same_half half) halves ≡ true → is_held trace id service half ≡ true → contains_by (is_held trace id service) halves ≡ true
held halves half trace id service has is =
    let same = all_three (bytes_eq trace (string_bytes half.trace)) (bytes_eq id (string_bytes half.id)) (bytes_eq service (string_bytes half.service)) is in
    sym (own half trace id service (sym ((bytes_eq-Decides trace (string_bytes half.trace)).0 same.0)) (sym ((bytes_eq-Decides id (string_bytes half.id)).0 same.1)) (sym ((bytes_eq-Decides service (string_bytes half.service)).0 same.2)) halves.keys)
    ∙ has

-- one more half
pub inserted : {S : Type 0} (halves new : HashSet Half S) (half : Half) (known : List ToldHalf) (added : Bool) → AreHalves halves known → added ≡ not (contains_by (same_half half) halves) → PutsKey halves new half added → AreHalves new (known ++ told_of (Some half))
inserted halves new half known true are is put = λ trace id service.
    sym (list_any-IsPermutation (is_held trace id service) (half ∷ halves.keys) new.keys put)
    ∙ ap (λ b. is_held trace id service half || b) (are trace id service)
    ∙ turned (is_held trace id service half) (list_any (is_half trace id service) known)
    ∙ sym (list_any-append (is_half trace id service) known (told_of (Some half)))
inserted halves new half known false are is put = λ trace id service.
    ap (λ keys. list_any (is_held trace id service) keys) put
    ∙ are trace id service
    ∙ no_more (is_held trace id service half) (list_any (is_half trace id service) known) (λ e. sym (are trace id service) ∙ held halves half trace id service (there _ is) e)
    ∙ sym (list_any-append (is_half trace id service) known (told_of (Some half)))

-- a set without halves has none
pub none_held : {S : Type 0} (halves : HashSet Half S) (known : List ToldHalf) (trace id service : List ℕ) → AreHalves halves known → length halves.keys ≡ 0 → false ≡ has_half known trace id service
none_held halves known trace id service are none = none_in halves.keys none ∙ are trace id service
  where
    none_in : (keys : List Half) → length keys ≡ 0 → false ≡ list_any (is_held trace id service) keys
    none_in [] e = refl
    none_in (key ∷ keys) e = absurd (omega arith)

-- no halves, before any span was read
pub none_yet : {S : Type 0} (halves : HashSet Half S) → halves.keys ≡ [] → AreHalves halves []
none_yet halves none = λ trace id service. ap (λ keys. list_any (is_held trace id service) keys) none

nothing_before : (r : Result (List ToldHalf) Fault) → r ≡ then_on r (λ rest. Ok ([] ++ rest))
nothing_before (Ok halves) = refl
nothing_before (Err fault) = refl

pub none_read : {S : Type 0} (halves : HashSet Half S) (spans : Items) → halves.keys ≡ [] → (known : List ToldHalf) × (halves_of spans ≡ then_on (halves_of spans) (λ rest. Ok (known ++ rest))) × AreHalves halves known
none_read halves spans none = ([], nothing_before (halves_of spans), none_yet halves none)

-- a half is looked up by its texts
pub looked_up : {S : Type 0} (halves : HashSet Half S) (half : Half) (known : List ToldHalf) (trace id service : List ℕ) → AreHalves halves known → string_bytes half.trace ≡ trace → string_bytes half.id ≡ id → string_bytes half.service ≡ service → contains_by (same_half half) halves ≡ has_half known trace id service
looked_up halves half known trace id service are e f g = own half trace id service e f g halves.keys ∙ are trace id service
