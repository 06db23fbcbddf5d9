-- Values that have no float and do not nest deeper than some number.
use Rattle.std.proofs.Common.{◌≡◌, ℕ, suc, ◌≤◌, max, List, [], ◌∷◌, Bool, true, false, ◌||◌, Option, None, Some, Ordering, Less, Equal, Greater, pos, negsuc, refl, arith, rules}
use Rattle.std.specs.Prelude.{codes, map}
use Rattle.std.specs.List.{AllByRecursion}
use Rattle.std.specs.Ordering.{nat_cmp, match_ordering}
use Rattle.std.specs.Cmp.Lexicographic.{slice_cmp}
use Rattle.act_expr.specs.declared.outcome.Value.{Value}
use Rattle.act_expr.specs.declared.outcome.Value.TheVariants.{Null, Num}
use Rattle.act_expr.specs.declared.outcome.Outcome.{Outcome}
use Rattle.act_expr.specs.declared.outcome.Outcome.TheVariants as outcome
use Rattle.serde_json.specs.Data as tree
use Rattle.serde_json.specs.Data.{Data, null, boolean, number, string, array, Items, item, Members, no_members, member, put, depth, items_depth, members_depth}
use Rattle.serde_json.specs.View.{items_of}
use Rattle.serde_json.specs.Written.{has_float, items_have_float, members_have_float}
use Rattle.report_json.specs.Changes.{flag}
use Rattle.report_json.specs.Json.{NamedValues, at_line, count, list, object, optional, outcome_json, text, value_json, with}

pub record IsExact (n : ℕ) (d : Data) : Type 0 where
  pub no_float : has_float d ≡ false
  pub shallow : depth d ≤ n

record ItemsAreExact (n : ℕ) (ds : Items) : Type 0 where
  no_float : items_have_float ds ≡ false
  shallow : items_depth ds ≤ n

record MembersAreExact (n : ℕ) (ms : Members) : Type 0 where
  no_float : members_have_float ms ≡ false
  shallow : members_depth ms ≤ n

neither : (a b : Bool) → a ≡ false → b ≡ false → (a || b) ≡ false
neither false b h k = k
neither true b h k = h

no_longer : (a b n : ℕ) → a ≤ n → b ≤ n → max a b ≤ n
no_longer a b n h k = omega arith

item_exact : (n : ℕ) (d : Data) (ds : Items) → IsExact n d → ItemsAreExact n ds → ItemsAreExact n (item d ds)
item_exact n d ds h k = record { no_float = neither _ _ h.no_float k.no_float; shallow = no_longer _ _ _ h.shallow k.shallow }

member_exact : (n : ℕ) (name : List ℕ) (d : Data) (ms : Members) → IsExact n d → MembersAreExact n ms → MembersAreExact n (member name d ms)
member_exact n name d ms h k = record { no_float = neither _ _ h.no_float k.no_float; shallow = no_longer _ _ _ h.shallow k.shallow }

by_order : (n : ℕ) (o : Ordering) (a b c : Members) → MembersAreExact n a → MembersAreExact n b → MembersAreExact n c → MembersAreExact n (match_ordering o a b c)
by_order n Less a b c x y z = x
by_order n Equal a b c x y z = y
by_order n Greater a b c x y z = z

parts : (a b : Bool) → (a || b) ≡ false → (a ≡ false) × (b ≡ false)
parts false b h = (refl, h)
parts true b h = absurd (search rules)

first_exact : (n : ℕ) (name : List ℕ) (d : Data) (ms : Members) → MembersAreExact n (member name d ms) → IsExact n d
first_exact n name d ms h = record { no_float = (parts _ _ h.no_float).0; shallow = search (arith, h.shallow) }

put_exact : (n : ℕ) (name : List ℕ) (d : Data) (ms : Members) → IsExact n d → MembersAreExact n ms → MembersAreExact n (put name d ms)
put_exact n name d no_members h k = member_exact n name d no_members h k
put_exact n name d (member other e ms) h k =
    let rest : MembersAreExact n ms = record { no_float = (parts _ _ k.no_float).1; shallow = search (arith, k.shallow) } in
    by_order n (slice_cmp nat_cmp name other) _ _ _ (member_exact n name d _ h k) (member_exact n other d ms h rest)
    (member_exact n other e _ (first_exact n other e ms k) (put_exact n name d ms h rest))

with_exact : (n : ℕ) (named : NamedValues) (ms : Members) → MembersAreExact n ms → AllByRecursion (λ m. IsExact n m.1) named → MembersAreExact n (with ms named)
with_exact n [] ms h k = h
with_exact n (m ∷ others) ms h k = with_exact n others _ (put_exact n m.0 m.1 ms k.0 h) k.1

none_exact : (n : ℕ) → MembersAreExact n no_members
none_exact n = record { no_float = refl; shallow = omega arith }

-- an object is, where its members are
pub object_exact : (n : ℕ) (named : NamedValues) → AllByRecursion (λ m. IsExact n m.1) named → IsExact (suc n) (object named)
object_exact n named h =
    let members = with_exact n named no_members (none_exact n) h in
    record { no_float = members.no_float; shallow = search (arith, members.shallow) }

items_exact : {X : Type 0} (n : ℕ) (f : X → Data) (xs : List X) → ((x : X) → IsExact n (f x)) → ItemsAreExact n (items_of (map f xs))
items_exact n f [] h = record { no_float = refl; shallow = omega arith }
items_exact n f (x ∷ xs) h = item_exact n (f x) _ (h x) (items_exact n f xs h)

-- a list is, where each of its items is
pub list_exact : {X : Type 0} (n : ℕ) (f : X → Data) (xs : List X) → ((x : X) → IsExact n (f x)) → IsExact (suc n) (list (map f xs))
list_exact n f xs h =
    let items = items_exact n f xs h in
    record { no_float = items.no_float; shallow = search (arith, items.shallow) }

-- ---- the parts

pub text_exact : (n : ℕ) (content : List ℕ) → IsExact n (text content)
text_exact n content = record { no_float = refl; shallow = omega arith }

pub count_exact : (n : ℕ) (amount : ℕ) → IsExact n (count amount)
count_exact n amount = record { no_float = refl; shallow = omega arith }

pub flag_exact : (n : ℕ) (holds : Bool) → IsExact n (flag holds)
flag_exact n holds = record { no_float = refl; shallow = omega arith }

pub null_exact : (n : ℕ) → IsExact n null
null_exact n = record { no_float = refl; shallow = omega arith }

pub value_exact : (n : ℕ) (value : Value) → IsExact n (value_json value)
value_exact n Null = null_exact n
value_exact n (Num (pos amount)) = record { no_float = refl; shallow = omega arith }
value_exact n (Num (negsuc amount)) = record { no_float = refl; shallow = omega arith }

pub optional_exact : {A : Type 0} (n : ℕ) (form : A → Data) (content : Option A) → ((some : A) → IsExact n (form some)) → IsExact n (optional form content)
optional_exact n form None h = null_exact n
optional_exact n form (Some content) h = h content

pub outcome_exact : (n : ℕ) (outcome : Outcome) → IsExact (suc n) (outcome_json outcome)
outcome_exact n (outcome.Value value) = object_exact n ((codes "value", value_json value) ∷ []) (value_exact n value, tt)
outcome_exact n (outcome.Bare name) = object_exact n ((codes "bare", text name) ∷ []) (text_exact n name, tt)
outcome_exact n (outcome.Wrapped name) = object_exact n ((codes "wrapped", text name) ∷ []) (text_exact n name, tt)

pub deeper : (m n : ℕ) (d : Data) → m ≤ n → IsExact m d → IsExact n d
deeper m n d more h = record { no_float = h.no_float; shallow = search (arith, more, h.shallow) }

-- ---- with the number of the line that is answered

pub at_line_exact : (n : ℕ) (line : Option ℕ) (d : Data) → IsExact (suc n) d → IsExact (suc n) (at_line line d)
at_line_exact n None d h = h
at_line_exact n (Some line) null h = h
at_line_exact n (Some line) (boolean b) h = h
at_line_exact n (Some line) (number x) h = h
at_line_exact n (Some line) (string s) h = h
at_line_exact n (Some line) (array ds) h = h
at_line_exact n (Some line) (tree.object ms) h =
    let members = put_exact n (codes "line") (count line) ms (count_exact n line) (record { no_float = h.no_float; shallow = search (arith, h.shallow) }) in
    record { no_float = members.no_float; shallow = search (arith, members.shallow) }
