-- How deep an object nests.
use Rattle.std.proofs.Common.{ℕ, suc, ◌≤◌, List, [], ◌∷◌, map, arith}
use Rattle.std.specs.List.{AllByRecursion}
use Rattle.std.specs.Ordering.{nat_cmp, match_ordering}
use Rattle.std.specs.Cmp.Lexicographic.{slice_cmp}
use Rattle.std.specs.declared.cmp.Ordering.{Ordering}
use Rattle.std.specs.declared.cmp.Ordering.TheVariants.{Less, Equal, Greater}
use Rattle.serde_json.specs.Data.{Data, Members, no_members, member, depth, items_depth, members_depth, put}
use Rattle.serde_json.specs.View.{items_of}
use Rattle.json_objects.specs.Objects.{NamedValues, object, with}

-- an array is no deeper than its items, and one
pub items_depth-below : {X : Type 0} (json : X → Data) (bound : ℕ) → ((x : X) → depth (json x) ≤ bound) → (xs : List X) → items_depth (items_of (map json xs)) ≤ bound
items_depth-below json bound each [] = omega arith
items_depth-below json bound each (x ∷ xs) = omega (arith, each x, items_depth-below json bound each xs)

by_order : (o : Ordering) (bound : ℕ) (a b c : Members) → members_depth a ≤ bound → members_depth b ≤ bound → members_depth c ≤ bound → members_depth (match_ordering o a b c) ≤ bound
by_order Less bound a b c x y z = x
by_order Equal bound a b c x y z = y
by_order Greater bound a b c x y z = z

put-below : (bound : ℕ) (name : List ℕ) (d : Data) (ms : Members) → depth d ≤ bound → members_depth ms ≤ bound → members_depth (put name d ms) ≤ bound
put-below bound name d no_members own rest = omega arith
put-below bound name d (member other e ms) own rest =
    let first : depth e ≤ bound = omega arith in
    let others : members_depth ms ≤ bound = omega arith in
    by_order (slice_cmp nat_cmp name other) bound (member name d (member other e ms)) (member other d ms) (member other e (put name d ms)) (omega arith) (omega arith)
    (omega (arith, put-below bound name d ms own others))

with-below : (bound : ℕ) (named : NamedValues) (ms : Members) → members_depth ms ≤ bound → AllByRecursion (λ (m : List ℕ × Data). depth m.1 ≤ bound) named → members_depth (with ms named) ≤ bound
with-below bound [] ms begun each = begun
with-below bound (m ∷ others) ms begun each = with-below bound others (put m.0 m.1 ms) (put-below bound m.0 m.1 ms each.0 begun) each.1

-- an object is no deeper than its members, and one
pub object-below : (bound : ℕ) (named : NamedValues) → AllByRecursion (λ (m : List ℕ × Data). depth m.1 ≤ bound) named → depth (object named) ≤ suc bound
object-below bound named each = let inner : members_depth (with no_members named) ≤ bound = with-below bound named no_members (omega arith) each in omega arith
