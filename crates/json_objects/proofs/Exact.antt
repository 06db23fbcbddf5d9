-- An object whose members have no float has none, so its text is told exactly.
use Rattle.std.proofs.Common.{◌≡◌, ℕ, List, [], ◌∷◌, Bool, true, false, ◌||◌, map, Ordering, Less, Equal, Greater, refl, rules}
use Rattle.std.specs.List.{AllByRecursion}
use Rattle.std.specs.Ordering.{nat_cmp, match_ordering}
use Rattle.std.specs.Cmp.Lexicographic.{slice_cmp}
use Rattle.serde_json.specs.Data.{Data, Members, no_members, member, put}
use Rattle.serde_json.specs.View.{items_of}
use Rattle.serde_json.specs.Written.{has_float, items_have_float, members_have_float}
use Rattle.json_objects.specs.Objects.{NamedValues, object, with}

neither : (a b : Bool) → a ≡ false → b ≡ false → (a || b) ≡ false
neither false b h k = k
neither true b h k = h

parts : (a b : Bool) → (a || b) ≡ false → (a ≡ false) × (b ≡ false)
parts false b h = (refl, h)
parts true b h = absurd (search rules)

by_order : (o : Ordering) (a b c : Members) → members_have_float a ≡ false → members_have_float b ≡ false → members_have_float c ≡ false → members_have_float (match_ordering o a b c) ≡ false
by_order Less a b c x y z = x
by_order Equal a b c x y z = y
by_order Greater a b c x y z = z

put_exact : (name : List ℕ) (d : Data) (ms : Members) → has_float d ≡ false → members_have_float ms ≡ false → members_have_float (put name d ms) ≡ false
put_exact name d no_members h k = neither _ _ h k
put_exact name d (member other e ms) h k =
    by_order (slice_cmp nat_cmp name other) _ _ _ (neither _ _ h k) (neither _ _ h (parts _ _ k).1)
    (neither _ _ (parts _ _ k).0 (put_exact name d ms h (parts _ _ k).1))

with_exact : (named : NamedValues) (ms : Members) → members_have_float ms ≡ false → AllByRecursion (λ m. has_float m.1 ≡ false) named → members_have_float (with ms named) ≡ false
with_exact [] ms h k = h
with_exact (m ∷ others) ms h k = with_exact others _ (put_exact m.0 m.1 ms k.0 h) k.1

-- an object has none where its members have none
pub object_exact : (named : NamedValues) → AllByRecursion (λ m. has_float m.1 ≡ false) named → has_float (object named) ≡ false
object_exact named h = with_exact named no_members refl h

pub items_exact : {X : Type 0} (json : X → Data) → ((x : X) → has_float (json x) ≡ false) → (xs : List X) → items_have_float (items_of (map json xs)) ≡ false
items_exact json each [] = refl
items_exact json each (x ∷ xs) = neither _ _ (each x) (items_exact json each xs)
