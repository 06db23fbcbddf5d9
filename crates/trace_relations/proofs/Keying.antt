-- Keys tell texts apart.
use Rattle.std.proofs.Common.{◌≡◌, ℕ, ◌+◌, ◌<◌, ◌≤◌, ◌^◌, ◌%◌, List, [], ◌∷◌, ◌++◌, drop, get_or, length, take, refl, sym, ap, ◌∙◌, subst, arith}
use Rattle.std.specs.Prelude.{Decides, codes}
use Rattle.std.specs.Cmp.Lexicographic.{pointwise}
use Rattle.std.specs.Fmt.{decimal}
use Rattle.std.specs.List.{flat_map}
use Rattle.std.specs.Str.{bytes_eq}
use Rattle.std.specs.Str.Parse.{digits_value}
use Rattle.std.proofs.lemmas.Bool.Decides.{Decides-like, same_from_decides}
use Rattle.std.proofs.lemmas.Fmt.{decimal_by_steps, decimal_is_IsNumeral}
use Rattle.std.proofs.lemmas.List.{append-nil, append_assoc, drop_at, length-append, take_at, take_more}
use Rattle.std.proofs.lemmas.List.Concat.{flat_map-append}
use Rattle.std.proofs.lemmas.List.Elements.{All-append, All-cons, All-head, All-more, All-nil, All-tail}
use Rattle.std.proofs.lemmas.Slice.Eq.{bytes_eq-Decides, slice_eq-Decides}
use Rattle.trace_spans.specs.declared.span.Span.{Span}
use Rattle.trace_spans.specs.declared.target.Aim.{Aim}
use Rattle.trace_relations.specs.Calls.{aim_texts, attribute_text, call_texts, kind_text}
use Rattle.trace_relations.specs.Keys.{AreShort, key_of, measured}

abbrev HasNoColon : List ℕ → Type 0
HasNoColon [] = Unit {0}
HasNoColon (c ∷ cs) = (c ≡ 58 → ⊥) × HasNoColon cs

no_colon-append : (xs ys : List ℕ) → HasNoColon xs → HasNoColon ys → HasNoColon (xs ++ ys)
no_colon-append [] ys first second = second
no_colon-append (x ∷ xs) ys first second = (first.0, no_colon-append xs ys first.1 second)

one_digit : (n : ℕ) → n < 10 → HasNoColon ((48 + n) ∷ [])
one_digit n low = (λ is. omega arith, tt)

more_digits : (n : ℕ) (ds : List ℕ) → 10 ≤ n → HasNoColon ds → HasNoColon (ds ++ ((48 + n % 10) ∷ []))
more_digits n ds low is = no_colon-append ds _ is (λ colon. omega arith, tt)

no_colon-decimal : (n : ℕ) → n < 2 ^ 64 → HasNoColon (decimal n)
no_colon-decimal n low = decimal_by_steps (λ m ds. HasNoColon ds) one_digit more_digits n low

pub decimal_apart : (m n : ℕ) → m < 2 ^ 64 → n < 2 ^ 64 → decimal m ≡ decimal n → m ≡ n
decimal_apart m n low_m low_n is = sym (decimal_is_IsNumeral m low_m).1 ∙ ap (λ ds. digits_value 10 ds) is ∙ (decimal_is_IsNumeral n low_n).1

-- what has no colon ends where the first one is
split_colon : (a b x y : List ℕ) → HasNoColon a → HasNoColon b → a ++ 58 ∷ x ≡ b ++ 58 ∷ y → (a ≡ b) × (x ≡ y)
split_colon [] [] x y no_a no_b is = (refl, cc)
split_colon [] (d ∷ ds) x y no_a no_b is = let heads : 58 ≡ d = cc in absurd (no_b.0 (sym heads))
split_colon (c ∷ cs) [] x y no_a no_b is = let heads : c ≡ 58 = cc in absurd (no_a.0 heads)
split_colon (c ∷ cs) (d ∷ ds) x y no_a no_b is =
    let heads : c ≡ d = cc in
    let tails : cs ++ 58 ∷ x ≡ ds ++ 58 ∷ y = cc in
    let rest = split_colon cs ds x y no_a.1 no_b.1 tails in
    (ap (λ h. h ∷ cs) heads ∙ ap (λ t. d ∷ t) rest.0, rest.1)

same_front : (a b x y : List ℕ) → length a ≡ length b → a ++ x ≡ b ++ y → (a ≡ b) × (x ≡ y)
same_front a b x y long is = (
  sym (take_at a x (length a) refl) ∙ ap (λ all. take (length a) all) is ∙ take_at b y (length a) (sym long),
  sym (drop_at a x (length a) refl) ∙ ap (λ all. drop (length a) all) is ∙ drop_at b y (length a) (sym long),
)

at_colon : (s x : List ℕ) → measured s ++ x ≡ decimal (length s) ++ 58 ∷ (s ++ x)
at_colon s x = append_assoc (decimal (length s) ++ codes ":") s x ∙ append_assoc (decimal (length s)) (codes ":") (s ++ x)

first_text : (s t x y : List ℕ) → length s < 2 ^ 64 → length t < 2 ^ 64 → measured s ++ x ≡ measured t ++ y → (s ≡ t) × (x ≡ y)
first_text s t x y low_s low_t is =
    let parts = split_colon (decimal (length s)) (decimal (length t)) (s ++ x) (t ++ y) (no_colon-decimal (length s) low_s) (no_colon-decimal (length t) low_t) (sym (at_colon s x) ∙ is ∙ at_colon t y) in
    same_front s t x y (decimal_apart (length s) (length t) low_s low_t parts.0) parts.1

not_empty : (s x : List ℕ) → ◌≡◌ {A = List ℕ} [] (measured s ++ x) → ⊥
not_empty s x is =
    let e : 0 ≡ length (decimal (length s) ++ 58 ∷ (s ++ x)) = ap length (is ∙ at_colon s x) in
    omega (arith, length-append (decimal (length s)) (58 ∷ (s ++ x)))

pub keys_apart : (a b : List (List ℕ)) → AreShort a → AreShort b → key_of a ≡ key_of b → a ≡ b
keys_apart [] [] short_a short_b is = refl
keys_apart [] (t ∷ ts) short_a short_b is = absurd (not_empty t (key_of ts) is)
keys_apart (s ∷ ss) [] short_a short_b is = absurd (not_empty s (key_of ss) (sym is))
keys_apart (s ∷ ss) (t ∷ ts) short_a short_b is =
    let first = first_text s t (key_of ss) (key_of ts) (All-head (λ text. length text < 2 ^ 64) s ss short_a) (All-head (λ text. length text < 2 ^ 64) t ts short_b) is in
    ap (λ h. h ∷ ss) first.0 ∙ ap (λ rest. t ∷ rest) (keys_apart ss ts (All-tail (λ text. length text < 2 ^ 64) s ss short_a) (All-tail (λ text. length text < 2 ^ 64) t ts short_b) first.1)

pub texts-Decides : (a b : List (List ℕ)) → Decides (pointwise bytes_eq a b) (a ≡ b)
texts-Decides a b = slice_eq-Decides bytes_eq-Decides a b (pointwise bytes_eq a b) refl

-- two keys are the same where their texts are
pub same_keys : (a b : List (List ℕ)) → AreShort a → AreShort b → bytes_eq (key_of a) (key_of b) ≡ pointwise bytes_eq a b
same_keys a b short_a short_b = same_from_decides (bytes_eq (key_of a) (key_of b)) (pointwise bytes_eq a b) (Decides-like (bytes_eq (key_of a) (key_of b)) (keys_apart a b short_a short_b) (λ e. ap key_of e) (bytes_eq-Decides (key_of a) (key_of b))) (texts-Decides a b)

pub same_keys_back : (a b : List (List ℕ)) → AreShort a → AreShort b → bytes_eq (key_of a) (key_of b) ≡ pointwise bytes_eq b a
same_keys_back a b short_a short_b = same_from_decides (bytes_eq (key_of a) (key_of b)) (pointwise bytes_eq b a) (Decides-like (bytes_eq (key_of a) (key_of b)) (λ e. sym (keys_apart a b short_a short_b e)) (λ e. ap key_of (sym e)) (bytes_eq-Decides (key_of a) (key_of b))) (texts-Decides b a)

-- ---- one text after another

key_push : (texts : List (List ℕ)) (i : ℕ) (x : List ℕ) → i < length texts → x ≡ get_or texts i x → key_of (take (i + 1) texts) ≡ key_of (take i texts) ++ measured x
key_push texts i x lt is =
    ap key_of (take_more texts i x lt) ∙ flat_map-append measured (take i texts) (get_or texts i x ∷ [])
    ∙ ap (λ k. key_of (take i texts) ++ k) (append-nil (measured (get_or texts i x))) ∙ ap (λ y. key_of (take i texts) ++ measured y) (sym is)

pub key_more : (texts : List (List ℕ)) (i : ℕ) (x old so_far new : List ℕ) → i < length texts → x ≡ get_or texts i x → so_far ≡ old ++ key_of (take i texts) → new ≡ so_far ++ measured x → new ≡ old ++ key_of (take (i + 1) texts)
key_more texts i x old so_far new lt is before now =
    now ∙ ap (λ k. k ++ measured x) before ∙ append_assoc old (key_of (take i texts)) (measured x) ∙ ap (λ k. old ++ k) (sym (key_push texts i x lt is))

pub short_more : (texts : List (List ℕ)) (i : ℕ) (x y : List ℕ) → i < length texts → x ≡ get_or texts i x → y ≡ x → AreShort (take i texts) → length y < 2 ^ 64 → AreShort (take (i + 1) texts)
short_more texts i x y lt is same before short = All-more (λ text. length text < 2 ^ 64) texts i x lt before (subst (λ text. length text < 2 ^ 64) (same ∙ is) short)

-- what a call was to, one aim after another
aims_push : (target : List Aim) (i : ℕ) (x : Aim) → i < length target → x ≡ get_or target i x → flat_map aim_texts (take (i + 1) target) ≡ flat_map aim_texts (take i target) ++ aim_texts x
aims_push target i x lt is =
    ap (flat_map aim_texts) (take_more target i x lt) ∙ flat_map-append aim_texts (take i target) (get_or target i x ∷ [])
    ∙ ap (λ k. flat_map aim_texts (take i target) ++ k) (append-nil (aim_texts (get_or target i x))) ∙ ap (λ y. flat_map aim_texts (take i target) ++ aim_texts y) (sym is)

pub target_more : (target : List Aim) (i : ℕ) (x : Aim) (old so_far between new name text : List ℕ) → i < length target → x ≡ get_or target i x → name ≡ attribute_text x.attribute → text ≡ x.text
    → so_far ≡ old ++ key_of (flat_map aim_texts (take i target)) → between ≡ so_far ++ measured name → new ≡ between ++ measured text → new ≡ old ++ key_of (flat_map aim_texts (take (i + 1) target))
target_more target i x old so_far between new name text lt is name_is text_is before first second =
    second ∙ ap (λ k. k ++ measured text) first ∙ ap (λ k. (k ++ measured name) ++ measured text) before
    ∙ ap (λ n. ((old ++ key_of (flat_map aim_texts (take i target))) ++ measured n) ++ measured text) name_is ∙ ap (λ t. ((old ++ key_of (flat_map aim_texts (take i target))) ++ measured (attribute_text x.attribute)) ++ measured t) text_is
    ∙ append_assoc (old ++ key_of (flat_map aim_texts (take i target))) (measured (attribute_text x.attribute)) (measured x.text)
    ∙ append_assoc old (key_of (flat_map aim_texts (take i target))) (measured (attribute_text x.attribute) ++ measured x.text)
    ∙ ap (λ k. old ++ (key_of (flat_map aim_texts (take i target)) ++ (measured (attribute_text x.attribute) ++ k))) (sym (append-nil (measured x.text)))
    ∙ ap (λ k. old ++ k) (sym (ap key_of (aims_push target i x lt is) ∙ flat_map-append measured (flat_map aim_texts (take i target)) (aim_texts x)))

pub target_short : (target : List Aim) (i : ℕ) (x : Aim) (name text : List ℕ) → i < length target → x ≡ get_or target i x → name ≡ attribute_text x.attribute → text ≡ x.text → AreShort (flat_map aim_texts (take i target)) → length name < 2 ^ 64 → length text < 2 ^ 64
    → AreShort (flat_map aim_texts (take (i + 1) target))
target_short target i x name text lt is name_is text_is before first second =
    subst AreShort (sym (aims_push target i x lt is))
    (All-append (λ each. length each < 2 ^ 64) (flat_map aim_texts (take i target)) (aim_texts x) before
    (All-cons (λ each. length each < 2 ^ 64) (attribute_text x.attribute) (x.text ∷ []) (subst (λ each. length each < 2 ^ 64) name_is first)
    (All-cons (λ each. length each < 2 ^ 64) x.text [] (subst (λ each. length each < 2 ^ 64) text_is second) (All-nil (λ each. length each < 2 ^ 64)))))

-- a whole call
pub call_key_is : (span : Span) (old new service name kind : List ℕ) → service ≡ span.service → name ≡ span.name → kind ≡ kind_text span.kind → new ≡ (((old ++ measured service) ++ measured name) ++ measured kind) ++ key_of (flat_map aim_texts span.target)
    → new ≡ old ++ key_of (call_texts span)
call_key_is span old new service name kind service_is name_is kind_is is =
    is ∙ ap (λ t. (((old ++ measured t) ++ measured name) ++ measured kind) ++ key_of (flat_map aim_texts span.target)) service_is
    ∙ ap (λ t. (((old ++ measured span.service) ++ measured t) ++ measured kind) ++ key_of (flat_map aim_texts span.target)) name_is
    ∙ ap (λ t. (((old ++ measured span.service) ++ measured span.name) ++ measured t) ++ key_of (flat_map aim_texts span.target)) kind_is
    ∙ append_assoc ((old ++ measured span.service) ++ measured span.name) (measured (kind_text span.kind)) (key_of (flat_map aim_texts span.target))
    ∙ append_assoc (old ++ measured span.service) (measured span.name) (measured (kind_text span.kind) ++ key_of (flat_map aim_texts span.target))
    ∙ append_assoc old (measured span.service) (measured span.name ++ (measured (kind_text span.kind) ++ key_of (flat_map aim_texts span.target)))

pub call_short : (span : Span) (service name kind : List ℕ) → service ≡ span.service → name ≡ span.name → kind ≡ kind_text span.kind → length service < 2 ^ 64 → length name < 2 ^ 64 → length kind < 2 ^ 64 → AreShort (flat_map aim_texts span.target) → AreShort (call_texts span)
call_short span service name kind service_is name_is kind_is first second third rest =
    let P : List ℕ → Type 0 = λ each. length each < 2 ^ 64 in
    All-cons P span.service (span.name ∷ kind_text span.kind ∷ flat_map aim_texts span.target) (subst P service_is first)
    (All-cons P span.name (kind_text span.kind ∷ flat_map aim_texts span.target) (subst P name_is second) (All-cons P (kind_text span.kind) (flat_map aim_texts span.target) (subst P kind_is third) rest))
