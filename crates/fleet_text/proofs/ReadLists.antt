-- A list that is read from an array, item by item.
use Rattle.std.proofs.Common.{ℕ, zero, suc, ◌≡◌, ◌+◌, ◌<◌, ◌≤◌, List, [], ◌∷◌, ◌++◌, length, get_or, take, map, Some, sym, refl, ap, ◌∙◌, subst, arith}
use Rattle.std.specs.List.{AllZip}
use Rattle.std.proofs.lemmas.List.{length-map, take_all}
use Rattle.serde_json.specs.Data.{Data, Items, item, no_items}
use Rattle.serde_json.specs.Find.{as_array}
use Rattle.serde_json.specs.View.{items_of, items_view, view}
use Rattle.serde_json.specs.declared.value.Value.{Value}
use Rattle.json_objects.specs.Objects.{count_json}
use Rattle.fleet_text.specs.Says.{SaysEntry, SaysList}

no_item : (d : Data) (ds : Items) → item d ds ≡ no_items → ⊥
no_item d ds same = cc

-- items are those of one list
pub items_of-same : (ds es : List Data) → items_of ds ≡ items_of es → ds ≡ es
items_of-same [] [] same = refl
items_of-same [] (e ∷ es) same = absurd (no_item e (items_of es) (sym same))
items_of-same (d ∷ ds) [] same = absurd (no_item d (items_of ds) same)
items_of-same (d ∷ ds) (e ∷ es) same =
    let first : d ≡ e = cc in
    let rest : items_of ds ≡ items_of es = cc in
    λ i. first i ∷ items_of-same ds es rest i

-- what says an entry has two values
pub two_values : (d : Data) (values : List Value) (entry : ℕ × ℕ) → as_array d ≡ Some (items_view values) → SaysEntry d entry → length values ≡ 2
two_values d values entry found says =
    let same : items_of (map view values) ≡ items_of (count_json entry.0 ∷ count_json entry.1 ∷ []) = cc (sym found ∙ ap as_array says) in
    sym (length-map values view) ∙ ap length (items_of-same (map view values) (count_json entry.0 ∷ count_json entry.1 ∷ []) same)

-- what says one value at most
abbrev pub SaysOne : {X : Type 0} → (Data → X → Type 0) → Type 0
SaysOne {X} says = (d : Data) (x y : X) → says d x → says d y → x ≡ y

pub each_one : {X : Type 0} (says : Data → X → Type 0) → SaysOne says → (ds : List Data) (xs ys : List X) → AllZip says ds xs → AllZip says ds ys → xs ≡ ys
each_one says one [] [] [] each other = refl
each_one says one [] [] (y ∷ ys) each other = absurd other
each_one says one [] (x ∷ xs) ys each other = absurd each
each_one says one (d ∷ ds) [] ys each other = absurd each
each_one says one (d ∷ ds) (x ∷ xs) [] each other = absurd other
each_one says one (d ∷ ds) (x ∷ xs) (y ∷ ys) each other =
    let first : x ≡ y = one d x y each.0 other.0 in
    let rest : xs ≡ ys = each_one says one ds xs ys each.1 other.1 in
    λ i. first i ∷ rest i

same_items : (d : Data) (ds es : List Data) → as_array d ≡ Some (items_of ds) → as_array d ≡ Some (items_of es) → ds ≡ es
same_items d ds es found also = items_of-same ds es (cc (sym found ∙ also))

pub list_one : {X : Type 0} (says : Data → X → Type 0) → SaysOne says → SaysOne (SaysList says)
list_one says one d xs ys is also =
    each_one says one is.items xs ys is.each (subst (λ (ds : List Data). AllZip says ds ys) (same_items d also.items is.items also.found is.found) also.each)

-- the values of an array that says a list say it one by one
pub each_of : {X : Type 0} (says : Data → X → Type 0) (d : Data) (values : List Value) (all : List X) → as_array d ≡ Some (items_view values) → SaysList says d all → AllZip says (map view values) all
each_of says d values all found is = subst (λ (ds : List Data). AllZip says ds all) (same_items d is.items (map view values) is.found found) is.each

abbrev pub AreSaid : {X : Type 0} → (Data → X → Type 0) → List Value → List X → Type 0
AreSaid says values xs = AllZip says (map view values) xs

said_more : {X : Type 0} (says : Data → X → Type 0) (values : List Value) (now later : List X) (index : ℕ) (value : Value) (own : X) → index < length values → value ≡ get_or values index value →
    AreSaid says (take index values) now → says (view value) own → later ≡ now ++ own ∷ [] → AreSaid says (take (suc index) values) later
said_more {X = X} says [] now later index value own below there each said is = absurd (omega arith)
said_more {X = X} says (v ∷ vs) [] later zero value own below there each said is =
    subst (λ (xs : List X). AllZip says (view v ∷ []) xs) (sym is) (subst (λ (w : Value). says (view w) own) there said, tt)
said_more {X = X} says (v ∷ vs) (x ∷ xs) later zero value own below there each said is = absurd each
said_more {X = X} says (v ∷ vs) [] later (suc index) value own below there each said is = absurd each
said_more {X = X} says (v ∷ vs) (x ∷ xs) later (suc index) value own below there each said is =
    subst (λ (ys : List X). AllZip says (view v ∷ map view (take (suc index) vs)) ys) (sym is)
    (each.0, said_more says vs xs (xs ++ own ∷ []) index value own (omega arith) there each.1 said refl)

pub AreSaid-more : {X : Type 0} (says : Data → X → Type 0) (values : List Value) (now later : List X) (index : ℕ) (value : Value) (own : X) → index < length values → value ≡ get_or values index value →
    AreSaid says (take index values) now → says (view value) own → later ≡ now ++ own ∷ [] → AreSaid says (take (index + 1) values) later
AreSaid-more says values now later index value own below there each said is = let next : suc index ≡ index + 1 = omega arith in subst (λ (n : ℕ). AreSaid says (take n values) later) next (said_more says values now later index value own below there each said is)

pub AreSaid-all : {X : Type 0} (says : Data → X → Type 0) (d : Data) (values : List Value) (now : List X) (index : ℕ) → length values ≤ index → as_array d ≡ Some (items_view values) → AreSaid says (take index values) now → SaysList says d now
AreSaid-all says d values now index past found each = record {
  items = map view values;
  found = found;
  each = subst (λ (vs : List Value). AllZip says (map view vs) now) (take_all index values past) each;
}

-- where the values say a list, what was read is its front
pub said_front : {X : Type 0} (says : Data → X → Type 0) → SaysOne says → (values : List Value) (all now : List X) (index : ℕ) → AreSaid says values all → AreSaid says (take index values) now → now ≡ take index all
said_front says one [] [] now zero whole each = each_one says one [] now [] each tt
said_front says one [] [] now (suc index) whole each = each_one says one [] now [] each tt
said_front says one [] (x ∷ xs) now index whole each = absurd whole
said_front says one (v ∷ vs) [] now index whole each = absurd whole
said_front says one (v ∷ vs) (x ∷ xs) now zero whole each = each_one says one [] now [] each tt
said_front says one (v ∷ vs) (x ∷ xs) [] (suc index) whole each = absurd each
said_front says one (v ∷ vs) (x ∷ xs) (n ∷ ns) (suc index) whole each =
    let first : n ≡ x = one (view v) n x each.0 whole.0 in
    let rest : ns ≡ take index xs = said_front says one vs xs ns index whole.1 each.1 in
    λ i. first i ∷ rest i

-- the next value, and what it says of a list that was read so far
pub record IsNext {X : Type 0} (says : Data → X → Type 0) (value : Value) (all now : List X) : Type 0 where
  pub own : X
  pub rest : List X
  pub is : all ≡ now ++ own ∷ rest
  pub said : says (view value) own

next_there : {X : Type 0} (says : Data → X → Type 0) (values : List Value) (all : List X) (index : ℕ) (value : Value) → AreSaid says values all → index < length values → value ≡ get_or values index value → IsNext says value all (take index all)
next_there says [] all index value whole below there = absurd (omega arith)
next_there says (v ∷ vs) [] index value whole below there = absurd whole
next_there says (v ∷ vs) (x ∷ xs) zero value whole below there = record { own = x; rest = xs; is = refl; said = subst (λ (w : Value). says (view w) x) (sym there) whole.0 }
next_there says (v ∷ vs) (x ∷ xs) (suc index) value whole below there =
    let later = next_there says vs xs index value whole.1 (omega arith) there in
    record { own = later.own; rest = later.rest; is = ap (λ ys. x ∷ ys) later.is; said = later.said }

pub next_of : {X : Type 0} (says : Data → X → Type 0) → SaysOne says → (d : Data) (values : List Value) (all now : List X) (index : ℕ) (value : Value) → as_array d ≡ Some (items_view values) → SaysList says d all → index < length values →
    value ≡ get_or values index value → AreSaid says (take index values) now → IsNext says value all now
next_of {X = X} says one d values all now index value found is below there each =
    let whole = each_of says d values all found is in
    subst (λ (front : List X). IsNext says value all front) (sym (said_front says one values all now index whole each)) (next_there says values all index value whole below there)
