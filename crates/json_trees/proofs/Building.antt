-- Nodes are added one value after the other: what was read so far, and what its nodes are.
use Rattle.std.proofs.Common.{◌≡◌, ℕ, suc, ◌+◌, ◌-◌, ◌<◌, ◌≤◌, List, [], ◌∷◌, ◌++◌, length, map, set, Option, Some, None, is_some, true, true≢false, option_map, option_and_then, refl, sym, ap, ap₂, ◌∙◌, arith, append_assoc, append-nil, length-append, subst, Bor}
use Rattle.std.proofs.Math.Seq.{set-append_seam}
use Rattle.std.proofs.lemmas.List.{length-map, map-append, map-set}
use Rattle.json.specs.Token.{Token}
use Rattle.json.specs.Json as json
use Rattle.json.specs.Json.{Parse, parse_map, after_end_array, read_key, items, members}
use Rattle.json.proofs.Grammar.{items_end, items_more, members_end, members_more}
use Rattle.serde_json.specs.Data.{Num, Data, number, array, object, no_items, item, Members, no_members, put}
use Rattle.serde_json.specs.Read.{number_of, of_json, of_items, of_members, converted}
use Rattle.json_trees.specs.declared.node.Node.{Node}
use Rattle.json_trees.specs.declared.node.Node.TheVariants as node
use Rattle.json_trees.specs.declared.nodes.Nodes.{Nodes}
use Rattle.json_trees.specs.Added.{Added, AddedIn, GoesOn}
use Rattle.json_trees.specs.Cells.{Cell, cell, text_at, Texts, AreOf, json_cells, items_cells, members_cells, array_cell, object_cell, key_cell}
use Rattle.json_trees.specs.Named.{put_all, of_pairs}
use Rattle.json_trees.specs.Valued.{HasData, HasItems, HasPairs}
use Rattle.json_trees.proofs.Holding.{first_member, no_pairs_left}
use Rattle.json_trees.proofs.Texts.{at_seam}
use Rattle.json_trees.proofs.Reading.{refused, item_refused, member_refused, key_refused}

twice : {A B C : Type 0} (f : B → C) (g : A → B) (o : Option (A × List Token)) → parse_map f (parse_map g o) ≡ parse_map (λ a. f (g a)) o
twice f g None = refl
twice f g (Some a) = refl

then_none : {A B : Type 0} (g : A → Option B) (o : Option A) → ((a : A) → g a ≡ None) → option_and_then g o ≡ None
then_none g None h = refl
then_none g (Some a) h = h a

-- ---- the items of an array

item_has : (j : json.Json) (js : json.Items) → HasData j → HasItems js → HasItems (json.item j js)
item_has j js h k = (item h.0 k.0, ap (option_and_then (λ d. option_map (item d) (of_items js))) h.1 ∙ ap (option_map (item h.0)) k.1)

item_none : (j : json.Json) (js : json.Items) → of_items js ≡ None → of_items (json.item j js) ≡ None
item_none j js e = then_none (λ d. option_map (item d) (of_items js)) (of_json j) (λ d. ap (option_map (item d)) e)

-- f puts the items that were read before those that are still to come, and `inner` are the nodes of those
pub record ItemsBefore (f : json.Items → json.Items) (inner : List Cell) : Type 0 where
  pub has : (js : json.Items) → HasItems js → HasItems (f js)
  pub none : (js : json.Items) → of_items js ≡ None → of_items (f js) ≡ None
  pub cells : (js : json.Items) → items_cells (f js) ≡ inner ++ items_cells js

-- the state of the loop: `all` are the tokens of the items, `left` those that are still to come
abbrev pub ItemsSoFar : Parse json.Json → List Token → List Token → List Cell → Type 0
ItemsSoFar p all left inner = (n : ℕ) × (f : json.Items → json.Items) × ItemsBefore f inner × (length left ≤ n) × (items p (length all) all ≡ parse_map f (items p n left)) × (length left ≤ length all)

pub no_items_yet : (p : Parse json.Json) (all : List Token) → ItemsSoFar p all all []
no_items_yet p all =
    (length all, (λ js. js), record { has = λ js h. h; none = λ js e. e; cells = λ js. refl }, omega arith, unchanged (items p (length all) all), omega arith)
  where
    unchanged : (o : Option (json.Items × List Token)) → o ≡ parse_map (λ js. js) o
    unchanged None = refl
    unchanged (Some a) = refl

pub item_added : (p : Parse json.Json) (all left rest : List Token) (inner : List Cell) (j : json.Json) → ItemsSoFar p all left inner → after_end_array left ≡ None → p left ≡ Some (j, rest) → HasData j → length rest < length left
    → ItemsSoFar p all rest (inner ++ json_cells j)
item_added p all left rest inner j s going e h less =
    let n = s.0 in
    let f = s.1 in
    let b = s.2 in (
      n - 1,
      (λ js. f (json.item j js)),
      record {
        has = λ js k. b.has (json.item j js) (item_has j js h k);
        none = λ js k. b.none (json.item j js) (item_none j js k);
        cells = λ js. b.cells (json.item j js) ∙ sym (append_assoc inner (json_cells j) (items_cells js));
      },
      omega (arith, s.3, less),
      s.4 ∙ ap (parse_map f) (items_more p n left rest j (omega (arith, s.3, less)) going e) ∙ twice f (json.item j) (items p (n - 1) rest),
      omega (arith, s.5, less),
    )

none_before : (f : json.Items → json.Items) (inner : List Cell) → ItemsBefore f inner → (o : Option (json.Items × List Token)) → converted of_items o ≡ None → converted of_items (parse_map f o) ≡ None
none_before f inner b None e = refl
none_before f inner b (Some a) e = ap (option_map (λ ds. (ds, a.1))) (b.none a.0 (refused a.1 (of_items a.0) e))

pub item_is_none : (p : Parse json.Json) (all left : List Token) (inner : List Cell) → ItemsSoFar p all left inner → after_end_array left ≡ None → converted of_json (p left) ≡ None → converted of_items (items p (length all) all) ≡ None
item_is_none p all left inner s going e = ap (converted of_items) s.4 ∙ none_before s.1 inner s.2 (items p s.0 left) (item_refused p s.0 left going e)

-- ---- texts and nodes that are added

pub goes_on : (ts : Texts) (t : Bor (List ℕ)) (new : Texts) → new ≡ ts ++ t ∷ [] → GoesOn ts new
goes_on ts t new e = (t ∷ [], e)

pub no_text_more : (ts new : Texts) → new ≡ ts → GoesOn ts new
no_text_more ts new e = ([], e ∙ sym (append-nil ts))

pub goes_further : (ts new all : Texts) → GoesOn ts new → GoesOn new all → GoesOn ts all
goes_further ts new all g h = (g.0 ++ h.0, h.1 ∙ ap (λ us. us ++ h.0) g.1 ∙ append_assoc ts g.0 h.0)

-- the text that was added stays where it is, whatever comes later
pub text_stays : (ts new all : Texts) (t : Bor (List ℕ)) → new ≡ ts ++ t ∷ [] → GoesOn new all → text_at all (length ts) ≡ t.now
text_stays ts new all t e h = ap (λ us. text_at us (length ts)) (h.1 ∙ ap (λ us. us ++ h.0) e ∙ append_assoc ts (t ∷ []) h.0) ∙ at_seam ts t h.0

-- one after the other
pub both_added : (old mid new : Nodes) (xs ys : List Cell) → Added old mid xs → Added mid new ys → Added old new (xs ++ ys)
both_added old mid new xs ys a b = (
  goes_further old.texts.items mid.texts.items new.texts.items a.0 b.0,
  λ all h. b.1 all h ∙ ap (λ cs. cs ++ ys) (a.1 all (goes_further mid.texts.items new.texts.items all b.0 h)) ∙ append_assoc (map (cell all) old.list.items) xs ys,
)

-- a node with no text
pub node_added : (old new : Nodes) (n : Node) (c : Cell) → ((ts : Texts) → cell ts n ≡ c) → new.texts.items ≡ old.texts.items → new.list.items ≡ old.list.items ++ n ∷ [] → Added old new (c ∷ [])
node_added old new n c is texts e = (
  no_text_more old.texts.items new.texts.items texts,
  λ all h. ap (map (cell all)) e ∙ map-append (cell all) old.list.items (n ∷ []) ∙ ap (λ d. map (cell all) old.list.items ++ d ∷ []) (is all),
)

-- a node with a text that was added before it
pub text_added : (old new : Nodes) (n : Node) (t : Bor (List ℕ)) (c : Cell) → ((ts : Texts) → text_at ts (length old.texts.items) ≡ t.now → cell ts n ≡ c) → new.texts.items ≡ old.texts.items ++ t ∷ [] → new.list.items ≡ old.list.items ++ n ∷ []
    → Added old new (c ∷ [])
text_added old new n t c is texts e = (
  goes_on old.texts.items t new.texts.items texts,
  λ all h. ap (map (cell all)) e ∙ map-append (cell all) old.list.items (n ∷ []) ∙ ap (λ d. map (cell all) old.list.items ++ d ∷ []) (is all (text_stays old.texts.items new.texts.items all t texts h)),
)

len_is : (all : Texts) (old nodes : List Node) (head : Cell) (inner : List Cell) → map (cell all) nodes ≡ map (cell all) old ++ head ∷ inner → length nodes ≡ length old + suc (length inner)
len_is all old nodes head inner e =
    let whole : length nodes ≡ length (map (cell all) old ++ head ∷ inner) = sym (length-map nodes (cell all)) ∙ ap length e in
    let parts = length-append (map (cell all) old) (head ∷ inner) in
    let front = length-map old (cell all) in
    omega (arith, whole, parts, front)

-- the number of the nodes that were added
pub added_len : (old new : Nodes) (head : Cell) (inner : List Cell) → Added old new (head ∷ inner) → length new.list.items ≡ length old.list.items + suc (length inner)
added_len old new head inner a = len_is new.texts.items old.list.items new.list.items head inner (a.1 new.texts.items (no_text_more new.texts.items new.texts.items refl))

-- nodes that were added to none
pub read_cells : (none all : Nodes) (texts : Texts) (list : List Node) (j : json.Json) → none.list.items ≡ [] → Added none all (json_cells j) → list ≡ all.list.items → texts ≡ all.texts.items → HasData j → AreOf texts list j
read_cells none all texts list j empty a kept told has =
    (ap (map (cell texts)) kept ∙ a.1 texts (no_text_more all.texts.items texts told) ∙ ap (λ ns. map (cell texts) ns ++ json_cells j) empty, has)

-- the first node is written when all the others are there
closed : (old mid : Nodes) (head : Cell) (inner : List Cell) (at : ℕ) (n : Node) (c : Cell) → Added old mid (head ∷ inner) → at ≡ length old.list.items → ((ts : Texts) → cell ts n ≡ c)
    → AddedIn old mid.texts.items (set mid.list.items at n) (c ∷ inner)
closed old mid head inner at n c a here is = (
  a.0,
  λ all h.
      map-set (cell all) mid.list.items at n
      ∙ ap₂ (λ cs i. set cs i (cell all n)) (a.1 all h) (here ∙ sym (length-map old.list.items (cell all)))
      ∙ set-append_seam (map (cell all) old.list.items) head inner (cell all n)
      ∙ ap (λ d. map (cell all) old.list.items ++ d ∷ inner) (is all),
)

abbrev pub ArrayRead : Parse json.Json → List Token → List Token → Nodes → Texts → List Node → Type 0
ArrayRead p all rest old texts list = (js : json.Items) × (items p (length all) all ≡ Some (js, rest)) × HasItems js × AddedIn old texts list (array_cell (suc (length (items_cells js))) ∷ items_cells js)

pub array_closed : (p : Parse json.Json) (all left rest : List Token) (inner : List Cell) (old mid : Nodes) (at size : ℕ) → ItemsSoFar p all left inner → after_end_array left ≡ Some rest
    → Added old mid (array_cell 0 ∷ inner) → at ≡ length old.list.items → size ≡ length mid.list.items - at → ArrayRead p all rest old mid.texts.items (set mid.list.items at (node.Array size))
array_closed p all left rest inner old mid at size s over a here is =
    let f = s.1 in
    let b = s.2 in
    let mine : items_cells (f json.no_items) ≡ inner = b.cells json.no_items ∙ append-nil inner in
    let len = added_len old mid (array_cell 0) inner a in
    let span : size ≡ suc (length inner) = omega (arith, len, here, is) in (
      f json.no_items,
      s.4 ∙ ap (parse_map f) (items_end p s.0 left rest s.3 over),
      b.has json.no_items (no_items, refl),
      subst (λ cs. AddedIn old mid.texts.items (set mid.list.items at (node.Array size)) (array_cell (suc (length cs)) ∷ cs)) (sym mine) (closed old mid (array_cell 0) inner at (node.Array size) (array_cell (suc (length inner))) a here (λ ts. ap array_cell span)),
    )

-- ---- the members of an object

member_has : (k : List ℕ) (j : json.Json) (ms : json.Members) → HasData j → HasPairs ms → HasPairs (json.member k j ms)
member_has k j ms h g = ((k, h.0) ∷ g.0, ap (option_and_then (λ d. option_map (λ rest. (k, d) ∷ rest) (of_pairs ms))) h.1 ∙ ap (option_map (λ rest. (k, h.0) ∷ rest)) g.1)

abbrev NoMembers : json.Members → Type 0
NoMembers ms = (found : Members) → of_members ms found ≡ None

member_none : (k : List ℕ) (j : json.Json) (ms : json.Members) → NoMembers ms → NoMembers (json.member k j ms)
member_none k j ms e = λ found. then_none (λ d. of_members ms (put k d found)) (of_json j) (λ d. e (put k d found))

pub record MembersBefore (f : json.Members → json.Members) (inner : List Cell) : Type 0 where
  pub has : (ms : json.Members) → HasPairs ms → HasPairs (f ms)
  pub none : (ms : json.Members) → NoMembers ms → NoMembers (f ms)
  pub cells : (ms : json.Members) → members_cells (f ms) ≡ inner ++ members_cells ms

abbrev pub MembersSoFar : Parse json.Json → List Token → List Token → List Cell → Type 0
MembersSoFar p all left inner = (n : ℕ) × (f : json.Members → json.Members) × MembersBefore f inner × (length left ≤ n) × (members p (length all) all ≡ parse_map f (members p n left)) × (length left ≤ length all)

pub no_members_yet : (p : Parse json.Json) (all : List Token) → MembersSoFar p all all []
no_members_yet p all =
    (length all, (λ ms. ms), record { has = λ ms h. h; none = λ ms e. e; cells = λ ms. refl }, omega arith, unchanged (members p (length all) all), omega arith)
  where
    unchanged : (o : Option (json.Members × List Token)) → o ≡ parse_map (λ ms. ms) o
    unchanged None = refl
    unchanged (Some a) = refl

pub member_added : (p : Parse json.Json) (all left named rest : List Token) (inner : List Cell) (k : List ℕ) (j : json.Json) → MembersSoFar p all left inner → read_key left ≡ Some (Some k, named) → p named ≡ Some (j, rest) → HasData j → length rest < length left
    → MembersSoFar p all rest (inner ++ key_cell k ∷ json_cells j)
member_added p all left named rest inner k j s key e h less =
    let n = s.0 in
    let f = s.1 in
    let b = s.2 in (
      n - 1,
      (λ ms. f (json.member k j ms)),
      record {
        has = λ ms g. b.has (json.member k j ms) (member_has k j ms h g);
        none = λ ms g. b.none (json.member k j ms) (member_none k j ms g);
        cells = λ ms. b.cells (json.member k j ms) ∙ sym (append_assoc inner (key_cell k ∷ json_cells j) (members_cells ms));
      },
      omega (arith, s.3, less),
      s.4 ∙ ap (parse_map f) (members_more p n k left named rest j (omega (arith, s.3, less)) key e) ∙ twice f (json.member k j) (members p (n - 1) rest),
      omega (arith, s.5, less),
    )

no_member_before : (f : json.Members → json.Members) (inner : List Cell) → MembersBefore f inner → (o : Option (json.Members × List Token)) → ((found : Members) → converted (λ ms. of_members ms found) o ≡ None)
    → converted (λ ms. of_members ms no_members) (parse_map f o) ≡ None
no_member_before f inner b None e = refl
no_member_before f inner b (Some a) e = ap (option_map (λ ds. (ds, a.1))) (b.none a.0 (λ found. refused a.1 (of_members a.0 found) (e found)) no_members)

pub member_is_none : (p : Parse json.Json) (all left named : List Token) (inner : List Cell) (k : List ℕ) → MembersSoFar p all left inner → read_key left ≡ Some (Some k, named) → converted of_json (p named) ≡ None
    → converted (λ ms. of_members ms no_members) (members p (length all) all) ≡ None
member_is_none p all left named inner k s key e =
    ap (converted (λ ms. of_members ms no_members)) s.4 ∙ no_member_before s.1 inner s.2 (members p s.0 left) (λ found. member_refused p found s.0 k left named key e)

pub key_is_none : (p : Parse json.Json) (all left : List Token) (inner : List Cell) → MembersSoFar p all left inner → read_key left ≡ None → converted (λ ms. of_members ms no_members) (members p (length all) all) ≡ None
key_is_none p all left inner s e =
    ap (converted (λ ms. of_members ms no_members)) s.4 ∙ no_member_before s.1 inner s.2 (members p s.0 left) (λ found. key_refused p found s.0 left e)

abbrev pub ObjectRead : Parse json.Json → List Token → List Token → Nodes → Texts → List Node → Type 0
ObjectRead p all rest old texts list = (ms : json.Members) × (members p (length all) all ≡ Some (ms, rest)) × HasPairs ms × AddedIn old texts list (object_cell (suc (length (members_cells ms))) ∷ members_cells ms)

pub object_closed : (p : Parse json.Json) (all left rest : List Token) (inner : List Cell) (old mid : Nodes) (at size : ℕ) → MembersSoFar p all left inner → read_key left ≡ Some (None, rest)
    → Added old mid (object_cell 0 ∷ inner) → at ≡ length old.list.items → size ≡ length mid.list.items - at → ObjectRead p all rest old mid.texts.items (set mid.list.items at (node.Object size))
object_closed p all left rest inner old mid at size s over a here is =
    let f = s.1 in
    let b = s.2 in
    let mine : members_cells (f json.no_members) ≡ inner = b.cells json.no_members ∙ append-nil inner in
    let len = added_len old mid (object_cell 0) inner a in
    let span : size ≡ suc (length inner) = omega (arith, len, here, is) in (
      f json.no_members,
      s.4 ∙ ap (parse_map f) (members_end p s.0 left rest s.3 over),
      b.has json.no_members ([], refl),
      subst (λ cs. AddedIn old mid.texts.items (set mid.list.items at (node.Object size)) (object_cell (suc (length cs)) ∷ cs)) (sym mine) (closed old mid (object_cell 0) inner at (node.Object size) (object_cell (suc (length inner))) a here (λ ts. ap object_cell span)),
    )

-- ---- a value of them

members_of : (ms : json.Members) (ps : List (List ℕ × Data)) (found : Members) → of_pairs ms ≡ Some ps → of_members ms found ≡ Some (put_all ps found)
members_of json.no_members ps found e = ap (λ qs. Some (put_all qs found)) (sym (no_pairs_left json.no_members ps e refl))
members_of (json.member k j ms) ps found e =
    let f = first_member k j ms ps e in
    ap (option_and_then (λ d. of_members ms (put k d found))) f.first_is ∙ members_of ms f.rest (put k f.first found) f.rest_is ∙ ap (λ qs. Some (put_all qs found)) (sym f.all_is)

some_number : (o : Option Num) → is_some o ≡ true → (d : Data) × (option_map number o ≡ Some d)
some_number None h = absurd (true≢false (sym h))
some_number (Some n) h = (number n, refl)

pub number_has : (s : List ℕ) → is_some (number_of s) ≡ true → HasData (json.number s)
number_has s h = some_number (number_of s) h

pub array_has : (js : json.Items) → HasItems js → HasData (json.array js)
array_has js h = (array h.0, ap (option_map array) h.1)

pub object_has : (ms : json.Members) → HasPairs ms → HasData (json.object ms)
object_has ms h = (object (put_all h.0 no_members), ap (option_map object) (members_of ms h.0 no_members h.1))
