-- Line feeds between the tokens of a text change nothing of what is read.
use Rattle.std.proofs.Common.{◌≡◌, ℕ, Bool, true, false, cond, ◌&&◌, List, [], ◌∷◌, ◌++◌, refl, sym, ap, ap₂, ◌∙◌, append_assoc}
use Rattle.json.specs.Token.{Token, begin_object, end_object, begin_array, end_array, key, string, number, boolean, null, bad}
use Rattle.json.specs.Word.{ends_word, word}
use Rattle.json.specs.Lex.{Lexeme, token, comma, colon, string_token, lex, between}
use Rattle.json.specs.Print.{escape, quoted, token_text, begins, ends, print_from, IsPrintable, ArePrintable}
use Rattle.json.proofs.Printed.Strings.{content-escape, lex-escape}
use Rattle.json.proofs.Printed.Numbers.{lex-number, in_word-ended}

abbrev token_lexemes : Token → List Lexeme
token_lexemes begin_object = token begin_object ∷ []
token_lexemes end_object = token end_object ∷ []
token_lexemes begin_array = token begin_array ∷ []
token_lexemes end_array = token end_array ∷ []
token_lexemes (key s) = token (string s) ∷ colon ∷ []
token_lexemes (string s) = token (string s) ∷ []
token_lexemes (number s) = token (number s) ∷ []
token_lexemes (boolean b) = token (boolean b) ∷ []
token_lexemes null = token null ∷ []
token_lexemes bad = []

quoted_then : (s r : List ℕ) → lex between (quoted s ++ r) ≡ token (string s) ∷ lex between r
unfolding lex
quoted_then s r =
    let e = append_assoc (escape s) (34 ∷ []) r in
    ap (λ l. lex between (34 ∷ l)) e ∙ ap₂ (λ o l. token (string_token o) ∷ l) (content-escape s r) (lex-escape s r)

-- a token, before what ends a word where the token is the last of a value
token_then : (t : Token) (r : List ℕ) → IsPrintable t → (ends t ≡ true → ends_word r ≡ true) → lex between (token_text t ++ r) ≡ token_lexemes t ++ lex between r
unfolding lex word
token_then begin_object r h ended = refl
token_then end_object r h ended = refl
token_then begin_array r h ended = refl
token_then end_array r h ended = refl
token_then (key s) r h ended = ap (lex between) (append_assoc (quoted s) (58 ∷ []) r) ∙ quoted_then s (58 ∷ r)
token_then (string s) r h ended = quoted_then s r
token_then (number s) r h ended = lex-number s r h (ended refl)
token_then (boolean true) r h ended = ap₂ (λ b l. token (cond b (boolean true) bad) ∷ l) (ended refl) (in_word-ended r (ended refl))
token_then (boolean false) r h ended = ap₂ (λ b l. token (cond b (boolean false) bad) ∷ l) (ended refl) (in_word-ended r (ended refl))
token_then null r h ended = ap₂ (λ b l. token (cond b null bad) ∷ l) (ended refl) (in_word-ended r (ended refl))
token_then bad r h ended = absurd h

separator_then : (b : Bool) (r : List ℕ) → lex between (cond b (44 ∷ []) [] ++ r) ≡ cond b (comma ∷ []) [] ++ lex between r
unfolding lex
separator_then true r = refl
separator_then false r = refl

-- after a value stands what ends a word
pub value_ends : (ts : List Token) (r : List ℕ) → ends_word r ≡ true → ends_word (print_from true ts ++ r) ≡ true
unfolding print_from
value_ends [] r h = h
value_ends (begin_object ∷ ts) r h = refl
value_ends (end_object ∷ ts) r h = refl
value_ends (begin_array ∷ ts) r h = refl
value_ends (end_array ∷ ts) r h = refl
value_ends (key s ∷ ts) r h = refl
value_ends (string s ∷ ts) r h = refl
value_ends (number s ∷ ts) r h = refl
value_ends (boolean b ∷ ts) r h = refl
value_ends (null ∷ ts) r h = refl
value_ends (bad ∷ ts) r h = refl

-- what is read of tokens does not depend on how what follows them is spelled
pub print_then : (c : Bool) (ts : List Token) (r s : List ℕ) → ArePrintable ts → ends_word r ≡ true → ends_word s ≡ true → lex between r ≡ lex between s
    → lex between (print_from c ts ++ r) ≡ lex between (print_from c ts ++ s)
unfolding print_from ArePrintable
print_then c [] r s h ended also same = same
print_then c (t ∷ ts) r s h ended also same =
    let rest = print_from (ends t) ts in
    let split = λ (tail : List ℕ). append_assoc (cond (c && begins t) (44 ∷ []) []) (token_text t ++ rest) tail
    ∙ ap (λ l. cond (c && begins t) (44 ∷ []) [] ++ l) (append_assoc (token_text t) rest tail) in
    let here = λ (tail : List ℕ) (stops : ends_word tail ≡ true).
    ap (lex between) (split tail) ∙ separator_then (c && begins t) (token_text t ++ (rest ++ tail))
    ∙ ap (λ l. cond (c && begins t) (comma ∷ []) [] ++ l) (token_then t (rest ++ tail) h.0 (λ e. ap (λ b. ends_word (print_from b ts ++ tail)) e ∙ value_ends ts tail stops)) in
    here r ended
    ∙ ap (λ l. cond (c && begins t) (comma ∷ []) [] ++ (token_lexemes t ++ l)) (print_then (ends t) ts r s h.1 ended also same)
    ∙ sym (here s also)
