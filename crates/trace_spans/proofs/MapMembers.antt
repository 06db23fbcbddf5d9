-- The processes of a trace in a map, as the members of an object.
use Rattle.std.proofs.Common.{◌≡◌, ℕ, List, [], ◌∷◌, Option, Some, Result, Ok, Err, false, cond, refl, sym, ap, ◌∙◌, Bor}
use Rattle.std.specs.BTreeMap.{insert_entry}
use Rattle.std.specs.Cmp.Lexicographic.{slice_cmp}
use Rattle.std.specs.Map.{lookup}
use Rattle.std.specs.Ordering.{nat_cmp, match_ordering, is_eq}
use Rattle.std.specs.Result.{OnOk, is_err}
use Rattle.std.specs.declared.cmp.Ordering.{Ordering}
use Rattle.std.specs.declared.cmp.Ordering.TheVariants.{Less, Equal, Greater}
use Rattle.json_trees.specs.Named.{put_all}
use Rattle.serde_json.specs.Data.{Data, Members, member, put}
use Rattle.serde_json.specs.Find.{get_member}
use Rattle.trace_spans.specs.Processes.{members_from}

found : (o : Ordering) (d : Data) (a b : Option Data) → a ≡ b → match_ordering o a (Some d) a ≡ cond (is_eq o) (Some d) b
found Less d a b e = e
found Equal d a b e = refl
found Greater d a b e = e

-- a look-up in the map is one in the object
pub get_member-from : (name : List ℕ) (es : List (Bor (List ℕ) × Data)) → get_member name (members_from es) ≡ lookup (λ key. is_eq (slice_cmp nat_cmp name key.now)) es
get_member-from name [] = refl
get_member-from name (e ∷ es) = found (slice_cmp nat_cmp name e.0.now) e.1 _ _ (get_member-from name es)

at_ordering : (o : Ordering) (x y z : List (Bor (List ℕ) × Data)) (p q r : Members) → members_from x ≡ p → members_from y ≡ q → members_from z ≡ r → members_from (match_ordering o x y z) ≡ match_ordering o p q r
at_ordering Less x y z p q r a b c = a
at_ordering Equal x y z p q r a b c = b
at_ordering Greater x y z p q r a b c = c

-- a member goes into the object where it goes into the map
members_from-insert : (es : List (Bor (List ℕ) × Data)) (key : Bor (List ℕ)) (d : Data) → members_from (insert_entry (λ x y. slice_cmp nat_cmp x.now y.now) es key d) ≡ put key.now d (members_from es)
members_from-insert [] key d = refl
members_from-insert (e ∷ es) key d =
    at_ordering (slice_cmp nat_cmp key.now e.0.now) ((key, d) ∷ e ∷ es) ((e.0, d) ∷ es) (e ∷ insert_entry (λ x y. slice_cmp nat_cmp x.now y.now) es key d) _ _ _
    refl refl (ap (member e.0.now e.1) (members_from-insert es key d))

pub where_ok : {A E : Type 0} (r : Result A E) (P : Type 0) → is_err r ≡ false → OnOk r P → P
where_ok (Ok a) P e h = h
where_ok (Err fault) P e h = cc

-- one more member in the map
pub one_more_member : (m : Members) (old new : List (List ℕ × Data)) (es now : List (Bor (List ℕ) × Data)) (key : Bor (List ℕ)) (d : Data) → m ≡ put_all old (members_from es) → old ≡ (key.now, d) ∷ new → now ≡ insert_entry (λ x y. slice_cmp nat_cmp x.now y.now) es key d → m ≡ put_all new (members_from now)
one_more_member m old new es now key d so_far is entries =
    so_far ∙ ap (λ ms. put_all ms (members_from es)) is ∙ ap (put_all new) (sym (members_from-insert es key d) ∙ ap members_from (sym entries))
