-- What escaping does to a text.
use Rattle.std.proofs.Common.{◌≡◌, ℕ, Bool, true, false, cond, List, [], ◌∷◌, ◌++◌, refl, ap, ◌∙◌, append_assoc, sym}
use Rattle.std.specs.List.{flat_map}
use Rattle.std.proofs.lemmas.List.Concat.{flat_map-append}
use Rattle.std.proofs.lemmas.List.Elements.{All-append, All-cons, All-head, All-nil, All-tail}
use Rattle.incident_page.specs.Escaped.{HasNoLess, escaped, escaped_byte, is_less, less_escape}

abbrev IsOther : ℕ → Type 0
IsOther byte = is_less byte ≡ false

-- one text after another
pub escaped_append : (a b : List ℕ) → escaped (a ++ b) ≡ escaped a ++ escaped b
unfolding escaped
escaped_append a b = flat_map-append escaped_byte a b

-- ---- no `<` is left

escape_has_none : HasNoLess less_escape
escape_has_none =
    All-cons IsOther 92 (117 ∷ 48 ∷ 48 ∷ 51 ∷ 99 ∷ []) refl (All-cons IsOther 117 (48 ∷ 48 ∷ 51 ∷ 99 ∷ []) refl (All-cons IsOther 48 (48 ∷ 51 ∷ 99 ∷ []) refl
    (All-cons IsOther 48 (51 ∷ 99 ∷ []) refl (All-cons IsOther 51 (99 ∷ []) refl (All-cons IsOther 99 [] refl (All-nil IsOther))))))

byte_has_none : (byte : ℕ) (less : Bool) → is_less byte ≡ less → HasNoLess (cond less less_escape (byte ∷ []))
byte_has_none byte true is = escape_has_none
byte_has_none byte false is = All-cons IsOther byte [] is (All-nil IsOther)

pub escaped_has_none : (text : List ℕ) → HasNoLess (escaped text)
unfolding escaped
escaped_has_none [] = All-nil IsOther
escaped_has_none (byte ∷ rest) = All-append IsOther (escaped_byte byte) (flat_map escaped_byte rest) (byte_has_none byte (is_less byte) refl) (escaped_has_none rest)

-- ---- a text without one

other_byte : (byte : ℕ) → is_less byte ≡ false → escaped_byte byte ≡ byte ∷ []
other_byte byte other = ap (λ (less : Bool). cond less less_escape (byte ∷ [])) other

pub escaped_without : (text : List ℕ) → HasNoLess text → escaped text ≡ text
unfolding escaped
escaped_without [] none = refl
escaped_without (byte ∷ rest) none =
    ap (λ (l : List ℕ). l ++ flat_map escaped_byte rest) (other_byte byte (All-head IsOther byte rest none)) ∙ ap (λ (l : List ℕ). byte ∷ l) (escaped_without rest (All-tail IsOther byte rest none))

-- a text around the first one
less_first : (after : List ℕ) → escaped (60 ∷ after) ≡ less_escape ++ escaped after
unfolding escaped
less_first after = refl

pub escaped_around : (text before after : List ℕ) → HasNoLess before → text ≡ before ++ 60 ∷ after → escaped text ≡ (before ++ less_escape) ++ escaped after
escaped_around text before after none is =
    ap escaped is ∙ escaped_append before (60 ∷ after) ∙ ap (λ (l : List ℕ). l ++ escaped (60 ∷ after)) (escaped_without before none)
    ∙ ap (λ (l : List ℕ). before ++ l) (less_first after) ∙ sym (append_assoc before less_escape (escaped after))
