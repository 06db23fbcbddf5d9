-- JSON whose strings and names are UTF-8 is printed as UTF-8.
use Rattle.std.proofs.Common.{◌≡◌, ◌<◌, ◌^◌, ℕ, ℤ, pos, negsuc, Bool, true, List, [], ◌∷◌, ◌++◌, IsUtf8, IsTrue, refl, decimal, arith, w64, FitsSigned, lt-ltb}
use Rattle.std.specs.Prelude.{⊤}
use Rattle.std.specs.Fmt.{signed_decimal}
use Rattle.std.specs.List.{list_all}
use Rattle.std.proofs.lemmas.Bool.{and_parts, and_from}
use Rattle.std.proofs.lemmas.Fmt.{IsAscii-decimal, IsAscii-signed}
use Rattle.std.proofs.lemmas.Str.{IsUtf8-append, IsUtf8-from_ascii, IsUtf8-nil}
use Rattle.json.specs.Json as json
use Rattle.json.specs.Json.{Json}
use Rattle.json.specs.Token.{Token}
use Rattle.json.specs.Print.{print_from, token_text, ends}
use Rattle.json.specs.Tree.{json_tokens, items_tokens, members_tokens}
use Rattle.json.proofs.Printed.Utf8.{are_ascii, IsUtf8-are_ascii, IsUtf8-quoted, IsUtf8-key, IsUtf8-boolean, IsUtf8-separator}
use Rattle.act_expr.specs.ExceptionName.{is_exception_name, is_name_byte}

abbrev mutual
  -- the texts of strings and numbers are UTF-8, and so are the names of members
  pub HasTexts : Json → Type 0
  HasTexts json.null = ⊤
  HasTexts (json.boolean b) = ⊤
  HasTexts (json.number s) = IsUtf8 s
  HasTexts (json.string s) = IsUtf8 s
  HasTexts (json.array js) = ItemsHaveTexts js
  HasTexts (json.object ms) = MembersHaveTexts ms

  pub ItemsHaveTexts : json.Items → Type 0
  ItemsHaveTexts json.no_items = ⊤
  ItemsHaveTexts (json.item j js) = HasTexts j × ItemsHaveTexts js

  pub MembersHaveTexts : json.Members → Type 0
  MembersHaveTexts json.no_members = ⊤
  MembersHaveTexts (json.member k j ms) = IsUtf8 k × HasTexts j × MembersHaveTexts ms

-- ---- what is printed

abbrev pub AreTexts : List Token → Type 0
AreTexts [] = ⊤
AreTexts (t ∷ ts) = IsUtf8 (token_text t) × AreTexts ts

pub texts-append : (ts us : List Token) → AreTexts ts → AreTexts us → AreTexts (ts ++ us)
texts-append [] us h k = k
texts-append (t ∷ ts) us h k = (h.0, texts-append ts us h.1 k)

mutual
  pub token_texts : (j : Json) → HasTexts j → AreTexts (json_tokens j)
  token_texts json.null h = (IsUtf8-are_ascii _ refl, tt)
  token_texts (json.boolean b) h = (IsUtf8-boolean b, tt)
  token_texts (json.number s) h = (h, tt)
  token_texts (json.string s) h = (IsUtf8-quoted s h, tt)
  token_texts (json.array js) h = (IsUtf8-are_ascii _ refl, items_texts js h)
  token_texts (json.object ms) h = (IsUtf8-are_ascii _ refl, members_texts ms h)

  items_texts : (js : json.Items) → ItemsHaveTexts js → AreTexts (items_tokens js)
  items_texts json.no_items h = (IsUtf8-are_ascii _ refl, tt)
  items_texts (json.item j js) h = texts-append (json_tokens j) (items_tokens js) (token_texts j h.0) (items_texts js h.1)

  members_texts : (ms : json.Members) → MembersHaveTexts ms → AreTexts (members_tokens ms)
  members_texts json.no_members h = (IsUtf8-are_ascii _ refl, tt)
  members_texts (json.member k j ms) h = (IsUtf8-key k h.0, texts-append (json_tokens j) (members_tokens ms) (token_texts j h.1) (members_texts ms h.2))

pub printed : (later : Bool) (ts : List Token) → AreTexts ts → IsUtf8 (print_from later ts)
unfolding print_from
printed later [] h = IsUtf8-nil
printed later (t ∷ ts) h = IsUtf8-append _ _ (IsUtf8-separator later t) (IsUtf8-append _ _ h.0 (printed (ends t) ts h.1))

pub json_printed : (later : Bool) (j : Json) → HasTexts j → IsUtf8 (print_from later (json_tokens j))
json_printed later j h = printed later (json_tokens j) (token_texts j h)

-- ---- texts of ASCII, and numbers

pub ascii_text : (test : ℕ → Bool) → ((b : ℕ) → test b ≡ true → b < 128) → (text : List ℕ) → list_all test text ≡ true → IsUtf8 text
ascii_text test small text h = IsUtf8-are_ascii text (each text h)
  where
    each : (bs : List ℕ) → list_all test bs ≡ true → are_ascii bs ≡ true
    each [] k = refl
    each (b ∷ bs) k = let parts = and_parts (test b) (list_all test bs) k in and_from _ _ (lt-ltb b 128 (small b parts.0)) (each bs parts.1)

exception_byte : (b : ℕ) → is_name_byte b ≡ true → b < 128
exception_byte b h = grind (arith, h)

pub exception_text : (name : List ℕ) → IsTrue (is_exception_name name) → IsUtf8 name
exception_text name h = ascii_text is_name_byte exception_byte name (grind (arith, h))

pub count_text : (n : ℕ) → n < 2 ^ 64 → IsUtf8 (decimal n)
count_text n h = IsUtf8-from_ascii (decimal n) (IsAscii-decimal n h)

pub long_text : (z : ℤ) → FitsSigned w64 z → IsUtf8 (signed_decimal z)
long_text (pos n) h = let low : n < 2 ^ 63 = omega (arith, h) in IsUtf8-from_ascii _ (IsAscii-signed (pos n) low)
long_text (negsuc n) h = let low : n < 2 ^ 63 = omega (arith, h) in IsUtf8-from_ascii _ (IsAscii-signed (negsuc n) low)
