-- What nodes are: a value, the items of an array, the members of an object.
use Rattle.std.proofs.Common.{◌≡◌, ℕ, zero, suc, ◌+◌, ◌*◌, ◌<◌, ◌≤◌, List, [], ◌∷◌, ◌++◌, length, map, take, drop, true, Option, Some, None, option_map, option_and_then, true≢false, refl, sym, ap, ap₂, ◌∙◌, subst, arith, length-append, add-one, drop-cons, drop-drop, length-drop, take_all, ◌-◌, get_or}
use Rattle.std.specs.Prelude.{slice_index_or}
use Rattle.std.proofs.lemmas.List.{length-map, take-map, drop-map}
use Rattle.std.proofs.Math.Seq.{take-append_seam, drop-append_seam}
use Rattle.std.specs.Prelude.{is_some, unwrap_or}
use Rattle.json.specs.Json as json
use Rattle.serde_json.specs.Data.{Num, Data, null, boolean, number, string, array, object, Items, no_items, item, Members, no_members, put}
use Rattle.serde_json.specs.Read.{number_of, of_json, of_items, of_members}
use Rattle.serde_json.specs.Find.{as_null, as_bool, as_number, as_str, as_array, as_object}
use Rattle.json_trees.specs.declared.node.Node.{Node}
use Rattle.json_trees.specs.Cells.{Cell, cell, span, first_cell, inner_cells, json_cells, items_cells, members_cells, key_cell, number_or_null, data_in, items_in, pairs_in, turns, data_at, items_at, members_at, AreOf, AreOfItems, AreOfMembers, HoldsData, HoldsItems, HoldsMembers, Texts}
use Rattle.json_trees.specs.First.{boolean_in, is_array_cell, is_null_cell, is_object_cell, key_in, number_in, string_in}
use Rattle.json_trees.specs.Named.{put_all, of_pairs}
use Rattle.json_trees.specs.Valued.{data_of, items_of, pairs_of, HasData, HasItems, HasPairs}

-- ---- options

mapped_some : {A B : Type 0} (f : A → B) (o : Option A) (b : B) → option_map f o ≡ Some b → (a : A) × (o ≡ Some a) × (b ≡ f a)
mapped_some f None b e = absurd (cc)
mapped_some f (Some a) b e = (a, refl, cc)

then_some : {A B : Type 0} (f : A → Option B) (o : Option A) (b : B) → option_and_then f o ≡ Some b → (a : A) × (o ≡ Some a) × (f a ≡ Some b)
then_some f None b e = absurd (cc)
then_some f (Some a) b e = (a, refl, e)

-- ---- the form of a value

abbrev pub Form : json.Json → Data → Type 0
Form json.null d = d ≡ null
Form (json.boolean b) d = d ≡ boolean b
Form (json.number s) d = (n : Num) × (number_of s ≡ Some n) × (d ≡ number n)
Form (json.string s) d = d ≡ string s
Form (json.array js) d = (ds : Items) × (of_items js ≡ Some ds) × (d ≡ array ds)
Form (json.object ms) d = (ds : Members) × (of_members ms no_members ≡ Some ds) × (d ≡ object ds)

pub form : (j : json.Json) (d : Data) → of_json j ≡ Some d → Form j d
form json.null d e = cc
form (json.boolean b) d e = cc
form (json.number s) d e = mapped_some number (number_of s) d e
form (json.string s) d e = cc
form (json.array js) d e = mapped_some array (of_items js) d e
form (json.object ms) d e = mapped_some object (of_members ms no_members) d e

pub string_is : (j : json.Json) (d : Data) → Form j d → string_in (first_cell j) ≡ as_str d
string_is json.null d e = ap as_str (sym e)
string_is (json.boolean b) d e = ap as_str (sym e)
string_is (json.number s) d e = ap as_str (sym e.2)
string_is (json.string s) d e = ap as_str (sym e)
string_is (json.array js) d e = ap as_str (sym e.2)
string_is (json.object ms) d e = ap as_str (sym e.2)

pub boolean_is : (j : json.Json) (d : Data) → Form j d → boolean_in (first_cell j) ≡ as_bool d
boolean_is json.null d e = ap as_bool (sym e)
boolean_is (json.boolean b) d e = ap as_bool (sym e)
boolean_is (json.number s) d e = ap as_bool (sym e.2)
boolean_is (json.string s) d e = ap as_bool (sym e)
boolean_is (json.array js) d e = ap as_bool (sym e.2)
boolean_is (json.object ms) d e = ap as_bool (sym e.2)

pub number_is : (j : json.Json) (d : Data) → Form j d → number_in (first_cell j) ≡ as_number d
number_is json.null d e = ap as_number (sym e)
number_is (json.boolean b) d e = ap as_number (sym e)
number_is (json.number s) d e = e.1 ∙ ap as_number (sym e.2)
number_is (json.string s) d e = ap as_number (sym e)
number_is (json.array js) d e = ap as_number (sym e.2)
number_is (json.object ms) d e = ap as_number (sym e.2)

pub null_is : (j : json.Json) (d : Data) → Form j d → is_null_cell (first_cell j) ≡ is_some (as_null d)
null_is json.null d e = ap (λ x. is_some (as_null x)) (sym e)
null_is (json.boolean b) d e = ap (λ x. is_some (as_null x)) (sym e)
null_is (json.number s) d e = ap (λ x. is_some (as_null x)) (sym e.2)
null_is (json.string s) d e = ap (λ x. is_some (as_null x)) (sym e)
null_is (json.array js) d e = ap (λ x. is_some (as_null x)) (sym e.2)
null_is (json.object ms) d e = ap (λ x. is_some (as_null x)) (sym e.2)

pub array_is : (j : json.Json) (d : Data) → Form j d → is_array_cell (first_cell j) ≡ is_some (as_array d)
array_is json.null d e = ap (λ x. is_some (as_array x)) (sym e)
array_is (json.boolean b) d e = ap (λ x. is_some (as_array x)) (sym e)
array_is (json.number s) d e = ap (λ x. is_some (as_array x)) (sym e.2)
array_is (json.string s) d e = ap (λ x. is_some (as_array x)) (sym e)
array_is (json.array js) d e = ap (λ x. is_some (as_array x)) (sym e.2)
array_is (json.object ms) d e = ap (λ x. is_some (as_array x)) (sym e.2)

pub object_is : (j : json.Json) (d : Data) → Form j d → is_object_cell (first_cell j) ≡ is_some (as_object d)
object_is json.null d e = ap (λ x. is_some (as_object x)) (sym e)
object_is (json.boolean b) d e = ap (λ x. is_some (as_object x)) (sym e)
object_is (json.number s) d e = ap (λ x. is_some (as_object x)) (sym e.2)
object_is (json.string s) d e = ap (λ x. is_some (as_object x)) (sym e)
object_is (json.array js) d e = ap (λ x. is_some (as_object x)) (sym e.2)
object_is (json.object ms) d e = ap (λ x. is_some (as_object x)) (sym e.2)

pub array_form : (j : json.Json) → is_array_cell (first_cell j) ≡ true → (js : json.Items) × (j ≡ json.array js)
array_form json.null e = absurd (true≢false (sym e))
array_form (json.boolean b) e = absurd (true≢false (sym e))
array_form (json.number s) e = absurd (true≢false (sym e))
array_form (json.string s) e = absurd (true≢false (sym e))
array_form (json.array js) e = (js, refl)
array_form (json.object ms) e = absurd (true≢false (sym e))

pub object_form : (j : json.Json) → is_object_cell (first_cell j) ≡ true → (ms : json.Members) × (j ≡ json.object ms)
object_form json.null e = absurd (true≢false (sym e))
object_form (json.boolean b) e = absurd (true≢false (sym e))
object_form (json.number s) e = absurd (true≢false (sym e))
object_form (json.string s) e = absurd (true≢false (sym e))
object_form (json.array js) e = absurd (true≢false (sym e))
object_form (json.object ms) e = (ms, refl)

-- ---- items and members, one after the other

-- an item, and those after it
pub record FirstItem (j : json.Json) (js : json.Items) (ds : Items) : Type 0 where
  pub first : Data
  pub rest : Items
  pub first_is : of_json j ≡ Some first
  pub rest_is : of_items js ≡ Some rest
  pub all_is : ds ≡ item first rest

pub first_item : (j : json.Json) (js : json.Items) (ds : Items) → of_items (json.item j js) ≡ Some ds → FirstItem j js ds
first_item j js ds e =
    let f = then_some (λ d. option_map (item d) (of_items js)) (of_json j) ds e in
    let g = mapped_some (item f.0) (of_items js) ds f.2 in
    record { first = f.0; rest = g.0; first_is = f.1; rest_is = g.1; all_is = g.2 }

pub no_items_left : (js : json.Items) (ds : Items) → of_items js ≡ Some ds → js ≡ json.no_items → ds ≡ no_items
no_items_left js ds e none = let same : Some no_items ≡ Some ds = ap of_items (sym none) ∙ e in cc

-- a member, and those after it
pub record FirstMember (k : List ℕ) (j : json.Json) (ms : json.Members) (ds : List (List ℕ × Data)) : Type 0 where
  pub first : Data
  pub rest : List (List ℕ × Data)
  pub first_is : of_json j ≡ Some first
  pub rest_is : of_pairs ms ≡ Some rest
  pub all_is : ds ≡ (k, first) ∷ rest

pub first_member : (k : List ℕ) (j : json.Json) (ms : json.Members) (ds : List (List ℕ × Data)) → of_pairs (json.member k j ms) ≡ Some ds → FirstMember k j ms ds
first_member k j ms ds e =
    let f = then_some (λ d. option_map (λ rest. (k, d) ∷ rest) (of_pairs ms)) (of_json j) ds e in
    let g = mapped_some (λ rest. (k, f.0) ∷ rest) (of_pairs ms) ds f.2 in
    record { first = f.0; rest = g.0; first_is = f.1; rest_is = g.1; all_is = g.2 }

pub no_pairs_left : (ms : json.Members) (ds : List (List ℕ × Data)) → of_pairs ms ≡ Some ds → ms ≡ json.no_members → ds ≡ []
no_pairs_left ms ds e none = let same : Some [] ≡ Some ds = ap of_pairs (sym none) ∙ e in cc

-- an object is its members, put in one after another
pub pairs : (ms : json.Members) (found out : Members) → of_members ms found ≡ Some out → (ps : List (List ℕ × Data)) × (of_pairs ms ≡ Some ps) × (out ≡ put_all ps found)
pairs json.no_members found out e = ([], refl, cc)
pairs (json.member k j ms) found out e =
    let f = then_some (λ d. of_members ms (put k d found)) (of_json j) out e in
    let g = pairs ms (put k f.0 found) out f.2 in
    ((k, f.0) ∷ g.0, ap (option_and_then (λ d. option_map (λ rest. (k, d) ∷ rest) (of_pairs ms))) f.1 ∙ ap (option_map (λ rest. (k, f.0) ∷ rest)) g.1, g.2)

pub data_is : (j : json.Json) → HasData j → of_json j ≡ Some (data_of j)
data_is j h = h.1 ∙ ap (λ (d : Data). Some d) (sym (ap (λ o. unwrap_or o null) h.1))

pub items_is : (js : json.Items) → HasItems js → of_items js ≡ Some (items_of js)
items_is js h = h.1 ∙ ap (λ (ds : Items). Some ds) (sym (ap (λ o. unwrap_or o no_items) h.1))

pub pairs_is : (ms : json.Members) → HasPairs ms → of_pairs ms ≡ Some (pairs_of ms)
pairs_is ms h = h.1 ∙ ap (λ (ps : List (List ℕ × Data)). Some ps) (sym (ap (λ o. unwrap_or o []) h.1))

pub form_of : (j : json.Json) → HasData j → Form j (data_of j)
form_of j h = form j (data_of j) (data_is j h)

pub has_items : (j : json.Json) (js : json.Items) → j ≡ json.array js → HasData j → HasItems js
has_items j js e h =
    let here : HasData (json.array js) = subst HasData e h in
    let inside = mapped_some array (of_items js) here.0 here.1 in
    (inside.0, inside.1)

pub has_pairs : (j : json.Json) (ms : json.Members) → j ≡ json.object ms → HasData j → HasPairs ms × (data_of j ≡ object (put_all (pairs_of ms) no_members))
has_pairs j ms e h =
    let here : HasData (json.object ms) = subst HasData e h in
    let inside = mapped_some object (of_members ms no_members) here.0 here.1 in
    let p = pairs ms no_members inside.0 inside.1 in
    let all : pairs_of ms ≡ p.0 = ap (λ o. unwrap_or o []) p.1 in
    ((p.0, p.1), ap data_of e ∙ ap (λ o. unwrap_or o null) here.1 ∙ inside.2 ∙ ap object p.2 ∙ ap (λ ps. object (put_all ps no_members)) (sym all))

pub first_of_items : (js rest : json.Items) (j : json.Json) → js ≡ json.item j rest → HasItems js → HasData j × (HasItems rest × (items_of js ≡ item (data_of j) (items_of rest)))
first_of_items js rest j e h =
    let here : HasItems (json.item j rest) = subst HasItems e h in
    let parts = first_item j rest here.0 here.1 in
    let first : data_of j ≡ parts.first = ap (λ o. unwrap_or o null) parts.first_is in
    let others : items_of rest ≡ parts.rest = ap (λ o. unwrap_or o no_items) parts.rest_is in
    ((parts.first, parts.first_is), ((parts.rest, parts.rest_is), ap items_of e ∙ ap (λ o. unwrap_or o no_items) here.1 ∙ parts.all_is ∙ ap₂ item (sym first) (sym others)))

pub first_of_members : (ms rest : json.Members) (k : List ℕ) (j : json.Json) → ms ≡ json.member k j rest → HasPairs ms → HasData j × (HasPairs rest × (pairs_of ms ≡ (k, data_of j) ∷ pairs_of rest))
first_of_members ms rest k j e h =
    let here : HasPairs (json.member k j rest) = subst HasPairs e h in
    let parts = first_member k j rest here.0 here.1 in
    let first : data_of j ≡ parts.first = ap (λ o. unwrap_or o null) parts.first_is in
    let others : pairs_of rest ≡ parts.rest = ap (λ o. unwrap_or o []) parts.rest_is in
    ((parts.first, parts.first_is), ((parts.rest, parts.rest_is), ap pairs_of e ∙ ap (λ o. unwrap_or o []) here.1 ∙ parts.all_is ∙ ap₂ (λ d ps. (k, d) ∷ ps) (sym first) (sym others)))

-- ---- the value that nodes are

span_first : (j : json.Json) → span (first_cell j) ≡ length (json_cells j)
span_first json.null = refl
span_first (json.boolean b) = refl
span_first (json.number s) = refl
span_first (json.string s) = refl
span_first (json.array js) = refl
span_first (json.object ms) = refl

its_own : (j : json.Json) (more : List Cell) → take (span (first_cell j)) (json_cells j ++ more) ≡ json_cells j
its_own j more = ap (λ n. take n (json_cells j ++ more)) (span_first j) ∙ take-append_seam (json_cells j) more

the_others : (j : json.Json) (more : List Cell) → drop (span (first_cell j)) (json_cells j ++ more) ≡ more
the_others j more = ap (λ n. drop n (json_cells j ++ more)) (span_first j) ∙ drop-append_seam (json_cells j) more

mutual
  data_back : (n : ℕ) (j : json.Json) (d : Data) → of_json j ≡ Some d → 2 * suc (length (inner_cells j)) ≤ n → data_in n (json_cells j) ≡ d
  data_back zero j d e enough = absurd (omega (arith, enough))
  data_back (suc n) json.null d e enough = sym (form json.null d e)
  data_back (suc n) (json.boolean b) d e enough = sym (form (json.boolean b) d e)
  data_back (suc n) (json.number s) d e enough = let f = form (json.number s) d e in ap number_or_null f.1 ∙ sym f.2
  data_back (suc n) (json.string s) d e enough = sym (form (json.string s) d e)
  data_back (suc n) (json.array js) d e enough =
      let f = form (json.array js) d e in
      ap array (items_back n js f.0 f.1 (omega (arith, enough))) ∙ sym f.2
  data_back (suc n) (json.object ms) d e enough =
      let f = form (json.object ms) d e in
      let p = pairs ms no_members f.0 f.1 in
      ap (λ ps. object (put_all ps no_members)) (pairs_back n ms p.0 p.1 (omega (arith, enough))) ∙ sym (f.2 ∙ ap object p.2)

  items_back : (n : ℕ) (js : json.Items) (ds : Items) → of_items js ≡ Some ds → 2 * length (items_cells js) + 1 ≤ n → items_in n (items_cells js) ≡ ds
  items_back zero js ds e enough = absurd (omega (arith, enough))
  items_back (suc n) json.no_items ds e enough = sym (no_items_left json.no_items ds e refl)
  items_back (suc n) (json.item j js) ds e enough =
      let f = first_item j js ds e in
      let all : length (inner_cells j ++ items_cells js) ≡ length (inner_cells j) + length (items_cells js) = length-append (inner_cells j) (items_cells js) in
      ap₂ item
      (ap (data_in n) (its_own j (items_cells js)) ∙ data_back n j f.first f.first_is (omega (arith, all, enough)))
      (ap (items_in n) (the_others j (items_cells js)) ∙ items_back n js f.rest f.rest_is (omega (arith, all, enough)))
      ∙ sym f.all_is

  pairs_back : (n : ℕ) (ms : json.Members) (ps : List (List ℕ × Data)) → of_pairs ms ≡ Some ps → 2 * length (members_cells ms) + 1 ≤ n → pairs_in n (members_cells ms) ≡ ps
  pairs_back zero ms ps e enough = absurd (omega (arith, enough))
  pairs_back (suc n) json.no_members ps e enough = sym (no_pairs_left json.no_members ps e refl)
  pairs_back (suc n) (json.member k j ms) ps e enough =
      let f = first_member k j ms ps e in
      let all : length (inner_cells j ++ members_cells ms) ≡ length (inner_cells j) + length (members_cells ms) = length-append (inner_cells j) (members_cells ms) in
      ap₂ (λ d ps. (k, d) ∷ ps)
      (ap (data_in n) (its_own j (members_cells ms)) ∙ data_back n j f.first f.first_is (omega (arith, all, enough)))
      (ap (pairs_in n) (the_others j (members_cells ms)) ∙ pairs_back n ms f.rest f.rest_is (omega (arith, all, enough)))
      ∙ sym f.all_is

pub data_at_is : (ts : Texts) (nodes : List Node) (j : json.Json) → AreOf ts nodes j → data_at ts nodes ≡ data_of j
data_at_is ts nodes j h = ap (λ cs. data_in (turns cs) cs) h.0 ∙ data_back (turns (json_cells j)) j (data_of j) (data_is j h.1) (omega arith)

pub items_at_is : (ts : Texts) (nodes : List Node) (js : json.Items) → AreOfItems ts nodes js → items_at ts nodes ≡ items_of js
items_at_is ts nodes js h = ap (λ cs. items_in (turns cs) cs) h.0 ∙ items_back (turns (items_cells js)) js (items_of js) (items_is js h.1) (omega arith)

pub members_at_is : (ts : Texts) (nodes : List Node) (ms : json.Members) → AreOfMembers ts nodes ms → members_at ts nodes ≡ pairs_of ms
members_at_is ts nodes ms h = ap (λ cs. pairs_in (turns cs) cs) h.0 ∙ pairs_back (turns (members_cells ms)) ms (pairs_of ms) (pairs_is ms h.1) (omega arith)

-- ---- a node that is read

-- `get_or` names a node that is read by any other default too
pub node_read : (nodes : List Node) (at : ℕ) (d : Node) → get_or nodes at d ≡ slice_index_or nodes at (get_or nodes at d)
node_read [] at d = refl
node_read (m ∷ nodes) zero d = refl
node_read (m ∷ nodes) (suc at) d = node_read nodes at d

-- ---- the first value

-- a node n that comes first is that of the value that comes first
pub first_of : (ts : Texts) (nodes : List Node) (n : Node) (j : json.Json) (more : List Cell) → n ≡ slice_index_or nodes 0 n → map (cell ts) nodes ≡ json_cells j ++ more → cell ts n ≡ first_cell j
first_of ts [] n j more is e = absurd (cc)
first_of ts (m ∷ nodes) n j more is e = ap (cell ts) is ∙ cc

pub reach : (ts : Texts) (nodes : List Node) (n : Node) (j : json.Json) (more : List Cell) → n ≡ slice_index_or nodes 0 n → map (cell ts) nodes ≡ json_cells j ++ more
    → (span (cell ts n) ≡ length (json_cells j)) × (length nodes ≡ length (json_cells j) + length more)
reach ts nodes n j more is e =
    (ap span (first_of ts nodes n j more is e) ∙ span_first j, sym (length-map nodes (cell ts)) ∙ ap length e ∙ length-append (json_cells j) more)

-- the value that comes first, and what comes after it
pub first_value : (ts : Texts) (nodes : List Node) (n : Node) (j : json.Json) (more : List Cell) → n ≡ slice_index_or nodes 0 n → map (cell ts) nodes ≡ json_cells j ++ more
    → (map (cell ts) (take (span (cell ts n)) nodes) ≡ json_cells j) × (map (cell ts) (drop (span (cell ts n)) nodes) ≡ more)
first_value ts nodes n j more is e =
    let here = first_of ts nodes n j more is e in
    (sym (take-map (cell ts) (span (cell ts n)) nodes) ∙ ap₂ (λ c cs. take (span c) cs) here e ∙ its_own j more, sym (drop-map (cell ts) (span (cell ts n)) nodes) ∙ ap₂ (λ c cs. drop (span c) cs) here e ∙ the_others j more)

-- ---- a handle

pub first_alone : (ts : Texts) (nodes : List Node) (n : Node) (j : json.Json) → n ≡ slice_index_or nodes 0 n → map (cell ts) nodes ≡ json_cells j → cell ts n ≡ first_cell j
first_alone ts [] n j is e = absurd (cc)
first_alone ts (m ∷ nodes) n j is e = ap (cell ts) is ∙ cc

abbrev pub FirstTells : Texts → Node → Data → Type 0
FirstTells ts n d = (j : json.Json) × (cell ts n ≡ first_cell j) × HasData j × (d ≡ data_of j)

pub tells : (ts : Texts) (nodes : List Node) (n : Node) (d : Data) → HoldsData ts nodes → data_at ts nodes ≡ d → n ≡ slice_index_or nodes 0 n → FirstTells ts n d
tells ts nodes n d h view is = (h.0, first_alone ts nodes n h.0 is h.1.0, h.1.1, sym view ∙ data_at_is ts nodes h.0 h.1)

pub string_told : (ts : Texts) (n : Node) (d : Data) → FirstTells ts n d → string_in (cell ts n) ≡ as_str d
string_told ts n d t = ap string_in t.1 ∙ string_is t.0 (data_of t.0) (form_of t.0 t.2) ∙ ap as_str (sym t.3)

pub boolean_told : (ts : Texts) (n : Node) (d : Data) → FirstTells ts n d → boolean_in (cell ts n) ≡ as_bool d
boolean_told ts n d t = ap boolean_in t.1 ∙ boolean_is t.0 (data_of t.0) (form_of t.0 t.2) ∙ ap as_bool (sym t.3)

pub number_told : (ts : Texts) (n : Node) (d : Data) → FirstTells ts n d → number_in (cell ts n) ≡ as_number d
number_told ts n d t = ap number_in t.1 ∙ number_is t.0 (data_of t.0) (form_of t.0 t.2) ∙ ap as_number (sym t.3)

pub null_told : (ts : Texts) (n : Node) (d : Data) → FirstTells ts n d → is_null_cell (cell ts n) ≡ is_some (as_null d)
null_told ts n d t = ap is_null_cell t.1 ∙ null_is t.0 (data_of t.0) (form_of t.0 t.2) ∙ ap (λ x. is_some (as_null x)) (sym t.3)

pub array_told : (ts : Texts) (n : Node) (d : Data) → FirstTells ts n d → is_array_cell (cell ts n) ≡ is_some (as_array d)
array_told ts n d t = ap is_array_cell t.1 ∙ array_is t.0 (data_of t.0) (form_of t.0 t.2) ∙ ap (λ x. is_some (as_array x)) (sym t.3)

pub object_told : (ts : Texts) (n : Node) (d : Data) → FirstTells ts n d → is_object_cell (cell ts n) ≡ is_some (as_object d)
object_told ts n d t = ap is_object_cell t.1 ∙ object_is t.0 (data_of t.0) (form_of t.0 t.2) ∙ ap (λ x. is_some (as_object x)) (sym t.3)

-- ---- what an array and an object have

past_first : (ts : Texts) (nodes : List Node) (j : json.Json) → map (cell ts) nodes ≡ json_cells j → map (cell ts) (drop 1 nodes) ≡ inner_cells j
past_first ts nodes j e = sym (drop-map (cell ts) 1 nodes) ∙ ap (drop 1) e

pub record HasArray (ts : Texts) (nodes : List Node) (d : Data) : Type 0 where
  pub «items» : json.Items
  pub are : AreOfItems ts (drop 1 nodes) «items»
  pub is : as_array d ≡ Some (items_of «items»)

pub array_there : (ts : Texts) (nodes : List Node) (d : Data) → HoldsData ts nodes → data_at ts nodes ≡ d → is_some (as_array d) ≡ true → HasArray ts nodes d
array_there ts nodes d h view some =
    let j = h.0 in
    let same : d ≡ data_of j = sym view ∙ data_at_is ts nodes j h.1 in
    let a = array_form j (array_is j (data_of j) (form_of j h.1.1) ∙ ap (λ x. is_some (as_array x)) (sym same) ∙ some) in
    let f : Form (json.array a.0) (data_of j) = subst (λ x. Form x (data_of j)) a.1 (form_of j h.1.1) in
    record {
      «items» = a.0;
      are = (past_first ts nodes j h.1.0 ∙ ap inner_cells a.1, has_items j a.0 a.1 h.1.1);
      is = ap as_array (same ∙ f.2) ∙ ap (λ (ds : Items). Some ds) (sym (ap (λ o. unwrap_or o no_items) f.1));
    }

pub record HasObject (ts : Texts) (nodes : List Node) (d : Data) : Type 0 where
  pub «members» : json.Members
  pub are : AreOfMembers ts (drop 1 nodes) «members»
  pub is : d ≡ object (put_all (pairs_of «members») no_members)

pub object_there : (ts : Texts) (nodes : List Node) (d : Data) → HoldsData ts nodes → data_at ts nodes ≡ d → is_some (as_object d) ≡ true → HasObject ts nodes d
object_there ts nodes d h view some =
    let j = h.0 in
    let same : d ≡ data_of j = sym view ∙ data_at_is ts nodes j h.1 in
    let a = object_form j (object_is j (data_of j) (form_of j h.1.1) ∙ ap (λ x. is_some (as_object x)) (sym same) ∙ some) in
    let all = has_pairs j a.0 a.1 h.1.1 in
    record { «members» = a.0; are = (past_first ts nodes j h.1.0 ∙ ap inner_cells a.1, all.0); is = same ∙ all.1 }

-- ---- the next item, the next member

pub front : (nodes : List Node) (at : ℕ) (n : Node) → at < length nodes → n ≡ slice_index_or nodes at n → drop at nodes ≡ n ∷ drop (at + 1) nodes
front nodes at n within is = rw (add-one, drop-cons nodes at n within) (ap (λ m. m ∷ drop (suc at) nodes) (sym is))

tail_is : (nodes : List Node) (at : ℕ) → take (length nodes - at) (drop at nodes) ≡ drop at nodes
tail_is nodes at = take_all (length nodes - at) (drop at nodes) (omega (arith, length-drop at nodes))

-- a value is taken that stands first in a part
abbrev pub TakesFirst : Texts → List Node → List Node → Type 0
TakesFirst ts part value = (j : json.Json) → (more : List Cell) → map (cell ts) part ≡ json_cells j ++ more → (map (cell ts) value ≡ json_cells j) × (map (cell ts) (drop (length value) part) ≡ more)

-- a value is taken that stands at a place, and what comes after it is left
taken : (ts : Texts) (nodes value : List Node) (at : ℕ) (j : json.Json) (more : List Cell) → map (cell ts) (drop at nodes) ≡ json_cells j ++ more → TakesFirst ts (take (length nodes - at) (drop at nodes)) value
    → (map (cell ts) value ≡ json_cells j) × (map (cell ts) (drop (at + length value) nodes) ≡ more)
taken ts nodes value at j more e f =
    let v = f j more (ap (map (cell ts)) (tail_is nodes at) ∙ e) in
    (v.0, ap (map (cell ts)) (sym (drop-drop (length value) at nodes)) ∙ ap (λ part. map (cell ts) (drop (length value) part)) (sym (tail_is nodes at)) ∙ v.1)

abbrev pub BeginsWithValue : Texts → List Node → Type 0
BeginsWithValue ts part = (j : json.Json) × (more : List Cell) × (map (cell ts) part ≡ json_cells j ++ more)

pub record NextItem (ts : Texts) (nodes : List Node) : Type 0 where
  pub value : json.Json
  pub others : json.Items
  pub begins : map (cell ts) nodes ≡ json_cells value ++ items_cells others
  pub has_value : HasData value
  pub has_others : HasItems others
  pub is : items_at ts nodes ≡ item (data_of value) (items_of others)

item_next : (ts : Texts) (nodes : List Node) (js : json.Items) → AreOfItems ts nodes js → 0 < length nodes → NextItem ts nodes
item_next ts nodes json.no_items h some = let none : length nodes ≡ 0 = sym (length-map nodes (cell ts)) ∙ ap length h.0 in absurd (omega (arith, none, some))
item_next ts nodes (json.item j js) h some =
    let f = first_of_items (json.item j js) js j refl h.1 in
    record { value = j; others = js; begins = h.0; has_value = f.0; has_others = f.1.0; is = items_at_is ts nodes (json.item j js) h ∙ f.1.1 }

pub next_item : (ts : Texts) (nodes : List Node) → HoldsItems ts nodes → 0 < length nodes → NextItem ts nodes
next_item ts nodes h some = item_next ts nodes h.0 h.1 some

pub record NextMember (ts : Texts) (nodes : List Node) : Type 0 where
  pub key : List ℕ
  pub value : json.Json
  pub others : json.Members
  pub begins : map (cell ts) nodes ≡ key_cell key ∷ (json_cells value ++ members_cells others)
  pub has_value : HasData value
  pub has_others : HasPairs others
  pub is : members_at ts nodes ≡ (key, data_of value) ∷ pairs_of others

member_next : (ts : Texts) (nodes : List Node) (ms : json.Members) → AreOfMembers ts nodes ms → 0 < length nodes → NextMember ts nodes
member_next ts nodes json.no_members h some = let none : length nodes ≡ 0 = sym (length-map nodes (cell ts)) ∙ ap length h.0 in absurd (omega (arith, none, some))
member_next ts nodes (json.member k j ms) h some =
    let f = first_of_members (json.member k j ms) ms k j refl h.1 in
    record { key = k; value = j; others = ms; begins = h.0; has_value = f.0; has_others = f.1.0; is = members_at_is ts nodes (json.member k j ms) h ∙ f.1.1 }

pub next_member : (ts : Texts) (nodes : List Node) → HoldsMembers ts nodes → 0 < length nodes → NextMember ts nodes
next_member ts nodes h some = member_next ts nodes h.0 h.1 some

pub item_begins : (ts : Texts) (nodes : List Node) (at : ℕ) → HoldsItems ts (drop at nodes) → at < length nodes → BeginsWithValue ts (take (length nodes - at) (drop at nodes))
item_begins ts nodes at h within =
    let n = next_item ts (drop at nodes) h (omega (arith, length-drop at nodes, within)) in
    (n.value, items_cells n.others, ap (map (cell ts)) (tail_is nodes at) ∙ n.begins)

pub record ItemTaken (ts : Texts) (nodes value : List Node) (at : ℕ) : Type 0 where
  pub holds_value : HoldsData ts value
  pub holds_others : HoldsItems ts (drop (at + length value) nodes)
  pub is : items_at ts (drop at nodes) ≡ item (data_at ts value) (items_at ts (drop (at + length value) nodes))

pub item_taken : (ts : Texts) (nodes value : List Node) (at : ℕ) → HoldsItems ts (drop at nodes) → at < length nodes → TakesFirst ts (take (length nodes - at) (drop at nodes)) value → ItemTaken ts nodes value at
item_taken ts nodes value at h within f =
    let n = next_item ts (drop at nodes) h (omega (arith, length-drop at nodes, within)) in
    let v = taken ts nodes value at n.value (items_cells n.others) n.begins f in
    record {
      holds_value = (n.value, (v.0, n.has_value));
      holds_others = (n.others, (v.1, n.has_others));
      is = n.is ∙ ap₂ item (sym (data_at_is ts value n.value (v.0, n.has_value))) (sym (items_at_is ts (drop (at + length value) nodes) n.others (v.1, n.has_others)));
    }

-- the member at a place: its name, and its value at the next one
pub record MemberThere (ts : Texts) (nodes : List Node) (at : ℕ) (n : Node) : Type 0 where
  pub next : NextMember ts (drop at nodes)
  pub key : cell ts n ≡ key_cell next.key
  pub begins : map (cell ts) (drop (at + 1) nodes) ≡ json_cells next.value ++ members_cells next.others

pub member_there : (ts : Texts) (nodes : List Node) (at : ℕ) (n : Node) → HoldsMembers ts (drop at nodes) → at < length nodes → n ≡ slice_index_or nodes at n → MemberThere ts nodes at n
member_there ts nodes at n h within is =
    let m = next_member ts (drop at nodes) h (omega (arith, length-drop at nodes, within)) in
    let both : cell ts n ∷ map (cell ts) (drop (at + 1) nodes) ≡ key_cell m.key ∷ (json_cells m.value ++ members_cells m.others) = sym (ap (map (cell ts)) (front nodes at n within is)) ∙ m.begins in
    record { next = m; key = cc; begins = cc }

pub member_begins : (ts : Texts) (nodes : List Node) (at : ℕ) (n : Node) → MemberThere ts nodes at n → BeginsWithValue ts (take (length nodes - (at + 1)) (drop (at + 1) nodes))
member_begins ts nodes at n t = (t.next.value, members_cells t.next.others, ap (map (cell ts)) (tail_is nodes (at + 1)) ∙ t.begins)

pub record MemberTaken (ts : Texts) (nodes value : List Node) (at : ℕ) (key : List ℕ) : Type 0 where
  pub holds_value : HoldsData ts value
  pub holds_others : HoldsMembers ts (drop (at + 1 + length value) nodes)
  pub is : members_at ts (drop at nodes) ≡ (key, data_at ts value) ∷ members_at ts (drop (at + 1 + length value) nodes)

pub member_taken : (ts : Texts) (nodes value : List Node) (at : ℕ) (n : Node) (key : List ℕ) (t : MemberThere ts nodes at n) → key ≡ t.next.key → TakesFirst ts (take (length nodes - (at + 1)) (drop (at + 1) nodes)) value → MemberTaken ts nodes value at key
member_taken ts nodes value at n key t named f =
    let m = t.next in
    let v = taken ts nodes value (at + 1) m.value (members_cells m.others) t.begins f in
    let past = drop (at + 1 + length value) nodes in
    record {
      holds_value = (m.value, (v.0, m.has_value));
      holds_others = (m.others, (v.1, m.has_others));
      is = m.is ∙ ap₂ (λ d ps. (m.key, d) ∷ ps) (sym (data_at_is ts value m.value (v.0, m.has_value))) (sym (members_at_is ts past m.others (v.1, m.has_others))) ∙ ap (λ k. (k, data_at ts value) ∷ members_at ts past) (sym named);
    }

pub array_tail : (ts : Texts) (nodes : List Node) (d : Data) → HoldsData ts nodes → data_at ts nodes ≡ d → is_some (as_array d) ≡ true
    → HoldsItems ts (take (length nodes - 1) (drop 1 nodes)) × (Some (items_at ts (take (length nodes - 1) (drop 1 nodes))) ≡ as_array d)
array_tail ts nodes d h view some =
    let a = array_there ts nodes d h view some in
    let all : (js : json.Items) × AreOfItems ts (take (length nodes - 1) (drop 1 nodes)) js = (a.«items», (ap (map (cell ts)) (tail_is nodes 1) ∙ a.are.0, a.are.1)) in
    (all, ap (λ (ds : Items). Some ds) (items_at_is ts (take (length nodes - 1) (drop 1 nodes)) a.«items» all.1) ∙ sym a.is)

pub object_tail : (ts : Texts) (nodes : List Node) (d : Data) → HoldsData ts nodes → data_at ts nodes ≡ d → is_some (as_object d) ≡ true
    → HoldsMembers ts (take (length nodes - 1) (drop 1 nodes)) × (d ≡ object (put_all (members_at ts (take (length nodes - 1) (drop 1 nodes))) no_members))
object_tail ts nodes d h view some =
    let a = object_there ts nodes d h view some in
    let all : (ms : json.Members) × AreOfMembers ts (take (length nodes - 1) (drop 1 nodes)) ms = (a.«members», (ap (map (cell ts)) (tail_is nodes 1) ∙ a.are.0, a.are.1)) in
    (all, a.is ∙ ap (λ ps. object (put_all ps no_members)) (sym (members_at_is ts (take (length nodes - 1) (drop 1 nodes)) a.«members» all.1)))

pub no_key : (ts : Texts) (nodes : List Node) (at : ℕ) (n : Node) → HoldsMembers ts (drop at nodes) → at < length nodes → n ≡ slice_index_or nodes at n → key_in (cell ts n) ≡ None → ⊥
no_key ts nodes at n h within is none = let t = member_there ts nodes at n h within is in cc

pub its_key : (ts : Texts) (nodes : List Node) (at : ℕ) (n : Node) (name : List ℕ) (t : MemberThere ts nodes at n) → Some name ≡ key_in (cell ts n) → name ≡ t.next.key
its_key ts nodes at n name t e = cc

pub member_at : (ts : Texts) (nodes value : List Node) (at : ℕ) (n : Node) (name : List ℕ) → HoldsMembers ts (drop at nodes) → at < length nodes → n ≡ slice_index_or nodes at n → Some name ≡ key_in (cell ts n)
    → TakesFirst ts (take (length nodes - (at + 1)) (drop (at + 1) nodes)) value → MemberTaken ts nodes value at name
member_at ts nodes value at n name h within is named f = let t = member_there ts nodes at n h within is in member_taken ts nodes value at n name t (its_key ts nodes at n name t named) f

pub none_left : (ts : Texts) → HoldsItems ts []
none_left ts = (json.no_items, (refl, (no_items, refl)))
