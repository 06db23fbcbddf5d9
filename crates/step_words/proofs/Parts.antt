-- Texts in names.
use Rattle.std.proofs.Common.{◌≡◌, ◌∙◌, ◌↔◌, ℕ, ◌+◌, ◌<◌, ◌≤◌, List, [], ◌∷◌, ◌++◌, length, take, drop, Bool, true, false, Option, Some, None, refl, sym, ap, subst}
use Rattle.std.specs.Prelude.{◌||◌}
use Rattle.std.specs.List.{cons_option, filter_map}
use Rattle.std.specs.Option.{option_to_list}
use Rattle.std.specs.Str.Iter.{HasSubslice}
use Rattle.std.proofs.lemmas.Bool.{or_right}
use Rattle.std.proofs.lemmas.Bool.Decides.{Decides-eqb}
use Rattle.std.proofs.lemmas.List.{take_all, take_more}
use Rattle.std.proofs.lemmas.List.Elements.{filter_map-append}
use Rattle.std.proofs.lemmas.Slice.Eq.{starts_is}
use Rattle.stage_graph.specs.declared.stage.Stage.{Stage}
use Rattle.stage_graph.specs.Plain.{stage_at}
use Rattle.step_words.specs.declared.names.Like.{Like}
use Rattle.step_words.specs.Names.{begins, has_part, name_like, names_like}

-- ---- a part of a name

begins_split : (name text : List ℕ) → begins name text ≡ true → name ≡ text ++ drop (length text) name
begins_split name text is = (starts_is Decides-eqb name text (begins name text) refl).0 is

begins_back : (name text rest : List ℕ) → name ≡ text ++ rest → begins name text ≡ true
begins_back name text rest is = (starts_is Decides-eqb name text (begins name text) refl).1 rest is

part_at : (x : ℕ) (xs text : List ℕ) (b : Bool) → begins (x ∷ xs) text ≡ b → (b || has_part xs text) ≡ true → (has_part xs text ≡ true → HasSubslice xs text) → HasSubslice (x ∷ xs) text
part_at x xs text true here is more = ([], drop (length text) (x ∷ xs), begins_split (x ∷ xs) text here)
part_at x xs text false here is more =
    let t = more is in
    (x ∷ t.0, t.1, ap (λ (ys : List ℕ). x ∷ ys) t.2)

part_has : (name text : List ℕ) → has_part name text ≡ true → HasSubslice name text
part_has [] text is = ([], drop (length text) [], begins_split [] text is)
part_has (x ∷ xs) text is = part_at x xs text (begins (x ∷ xs) text) refl is (λ more. part_has xs text more)

has_here : (name text rest : List ℕ) → name ≡ text ++ rest → has_part name text ≡ true
has_here [] text rest is = begins_back [] text rest is
has_here (x ∷ xs) text rest is = ap (λ (b : Bool). b || has_part xs text) (begins_back (x ∷ xs) text rest is)

has_from : (before text rest : List ℕ) → has_part (before ++ (text ++ rest)) text ≡ true
has_from [] text rest = has_here (text ++ rest) text rest refl
has_from (x ∷ before) text rest = or_right (begins (x ∷ (before ++ (text ++ rest))) text) (has_part (before ++ (text ++ rest)) text) (has_from before text rest)

bool_same : (r q : Bool) (P : Type 0) → ((r ≡ true) ↔ P) → (q ≡ true → P) → (P → q ≡ true) → r ≡ q
bool_same true q P iff to from = sym (from (iff.0 refl))
bool_same false true P iff to from = iff.1 (to refl)
bool_same false false P iff to from = refl

pub part_told : (r : Bool) (name text : List ℕ) → ((r ≡ true) ↔ HasSubslice name text) → r ≡ has_part name text
part_told r name text iff =
    bool_same r (has_part name text) (HasSubslice name text) iff (part_has name text)
    (λ t. subst (λ (whole : List ℕ). has_part whole text ≡ true) (sym t.2) (has_from t.0 text t.1))

-- ---- names, place by place

one_or_none : (r : Option (List ℕ)) → cons_option r [] ≡ option_to_list r
one_or_none None = refl
one_or_none (Some name) = refl

pub names_more : (like : Like) (text : List ℕ) (places : List (Option Stage)) (i : ℕ) (made next : List (List ℕ)) → i < length places → made ≡ names_like like text (take i places) → next ≡ made ++ option_to_list (name_like like text (stage_at places i)) → next ≡ names_like like text (take (i + 1) places)
names_more like text places i made next low so_far added =
    added
    ∙ ap (λ (names : List (List ℕ)). names ++ option_to_list (name_like like text (stage_at places i))) so_far
    ∙ sym
    (ap (filter_map (name_like like text)) (take_more places i None low)
    ∙ filter_map-append (name_like like text) (take i places) (stage_at places i ∷ [])
    ∙ ap (λ (names : List (List ℕ)). names_like like text (take i places) ++ names) (one_or_none (name_like like text (stage_at places i))))

pub names_ended : (like : Like) (text : List ℕ) (places : List (Option Stage)) (i : ℕ) (made : List (List ℕ)) → length places ≤ i → made ≡ names_like like text (take i places) → made ≡ names_like like text places
names_ended like text places i made done so_far = so_far ∙ ap (names_like like text) (take_all i places done)
