-- The members that a walk over an object's names keeps: those that pass, in order, as long as there is room.
use Rattle.std.proofs.Common.{◌≡◌, ℕ, ◌<◌, ◌≤◌, Bool, true, false, true≢false, List, [], ◌∷◌, ◌++◌, length, take, map, Bor, Ordering, Less, Equal, Greater, nat_cmp, refl, ap, ◌∙◌, arith}
use Rattle.std.proofs.lemmas.List.{take_all, take-append-le, length-take, length-append, append-nil, map-append, length-map}
use Rattle.std.proofs.lemmas.List.Elements.{filter-append}
use Rattle.std.specs.BTreeMap.{insert_entry}
use Rattle.std.specs.Cmp.Lexicographic.{slice_cmp}
use Rattle.std.specs.List.{list_any}
use Rattle.std.specs.Map.{keys_of}
use Rattle.std.specs.Map.Iter.{deref}
use Rattle.std.specs.Ordering.{match_ordering}
use Rattle.std.specs.Prelude.{⊤, ◌||◌, filter}
use Rattle.serde_json.specs.Data.{Data, object, Members, no_members, member, put}
use Rattle.json_trees.specs.Named.{put_all}
use Rattle.json_names.specs.Members.{member_names, names_of}

abbrev pub texts : List (Bor (List ℕ)) → List (List ℕ)
texts = map (λ text. text.now)

kept_more : {X : Type 0} (p : X → Bool) (most : ℕ) (seen kept : List X) (x : X) → kept ≡ take most (filter p seen) → length kept < most → p x ≡ true → kept ++ x ∷ [] ≡ take most (filter p (seen ++ x ∷ []))
kept_more {X} p most seen kept x so_far room passes =
    let all : List X = filter p seen in
    let few : length all < most = omega (arith, ap length so_far ∙ length-take most all) in
    let more : length (all ++ x ∷ []) ≤ most = omega (arith, length-append all (x ∷ [])) in
    rw (filter-append p seen (x ∷ []), passes, take_all most (all ++ x ∷ []) more) (ap (λ l. l ++ x ∷ []) (so_far ∙ take_all most all (omega arith)))

-- the names that a walk over a map's keys has seen
abbrev pub seen : List (Bor (Bor (List ℕ))) → List (List ℕ)
seen = map (λ name. name.now.now)

-- a name that passes is kept where there is room
pub one_kept : (p : List ℕ → Bool) (most : ℕ) (ys : List (Bor (Bor (List ℕ)))) (kept : List (Bor (List ℕ))) (y : Bor (Bor (List ℕ))) → texts kept ≡ take most (filter p (seen ys)) → length kept < most → p y.now.now ≡ true → texts (kept ++ y.now ∷ []) ≡ take most (filter p (seen (ys ++ y ∷ [])))
one_kept p most ys kept y so_far room passes =
    rw (map-append (λ (text : Bor (List ℕ)). text.now) kept (y.now ∷ []), map-append (λ (name : Bor (Bor (List ℕ))). name.now.now) ys (y ∷ []))
    (kept_more p most (seen ys) (texts kept) y.now.now so_far (rw (length-map kept (λ (text : Bor (List ℕ)). text.now)) room) passes)

-- a name that does not pass is not kept
pub one_passed_over : (p : List ℕ → Bool) (most : ℕ) (ys : List (Bor (Bor (List ℕ)))) (kept : List (Bor (List ℕ))) (y : Bor (Bor (List ℕ))) → texts kept ≡ take most (filter p (seen ys)) → p y.now.now ≡ false → texts kept ≡ take most (filter p (seen (ys ++ y ∷ [])))
one_passed_over p most ys kept y so_far fails =
    rw (map-append (λ (name : Bor (Bor (List ℕ))). name.now.now) ys (y ∷ []), filter-append p (seen ys) (y.now.now ∷ []), fails, append-nil (filter p (seen ys))) so_far

-- where there is no room, none is kept
pub none_kept : (p : List ℕ → Bool) (most : ℕ) (ys : List (Bor (Bor (List ℕ)))) (kept : List (Bor (List ℕ))) (y : Bor (Bor (List ℕ))) → texts kept ≡ take most (filter p (seen ys)) → most ≤ length kept → texts kept ≡ take most (filter p (seen (ys ++ y ∷ [])))
none_kept p most ys kept y so_far full =
    let many : most ≤ length (filter p (seen ys)) = omega (arith, ap length so_far, length-take most (filter p (seen ys)), length-map kept (λ (text : Bor (List ℕ)). text.now)) in
    rw (map-append (λ (name : Bor (Bor (List ℕ))). name.now.now) ys (y ∷ []), filter-append p (seen ys) (y.now.now ∷ []), take-append-le most (filter p (seen ys)) _ many) so_far

seen_by_reference : (ys : List (Bor (Bor (List ℕ)))) → seen ys ≡ texts (map deref ys)
seen_by_reference [] = refl
seen_by_reference (y ∷ ys) = ap (λ names. y.now.now ∷ names) (seen_by_reference ys)

-- a walk over all keys has seen all names
pub all_seen : (ys : List (Bor (Bor (List ℕ)))) (keys : List (Bor (List ℕ))) (names : List (List ℕ)) → map deref ys ≡ keys → texts keys ≡ names → seen ys ≡ names
all_seen ys keys names all is = seen_by_reference ys ∙ ap texts all ∙ is

-- names in order, with one more
abbrev pub put_name : List ℕ → List (List ℕ) → List (List ℕ)
put_name k [] = k ∷ []
put_name k (l ∷ names) = match_ordering (slice_cmp nat_cmp k l) (k ∷ l ∷ names) (l ∷ names) (l ∷ put_name k names)

-- names in order, with those of an object's members
abbrev pub put_names : List (List ℕ × Data) → List (List ℕ) → List (List ℕ)
put_names [] names = names
put_names (m ∷ ms) names = put_names ms (put_name m.0 names)

names_of-match_ordering : (o : Ordering) (a b c : Members) → names_of (match_ordering o a b c) ≡ match_ordering o (names_of a) (names_of b) (names_of c)
names_of-match_ordering Less a b c = refl
names_of-match_ordering Equal a b c = refl
names_of-match_ordering Greater a b c = refl

names_of-put : (k : List ℕ) (d : Data) (ms : Members) → names_of (put k d ms) ≡ put_name k (names_of ms)
names_of-put k d no_members = refl
names_of-put k d (member l e ms) = names_of-match_ordering (slice_cmp nat_cmp k l) _ _ _ ∙ rw (names_of-put k d ms)

-- the names of the members that an object's text makes
pub names_of-put_all : (pairs : List (List ℕ × Data)) (found : Members) → names_of (put_all pairs found) ≡ put_names pairs (names_of found)
names_of-put_all [] found = refl
names_of-put_all (m ∷ pairs) found = names_of-put_all pairs (put m.0 m.1 found) ∙ ap (put_names pairs) (names_of-put m.0 m.1 found)

abbrev pub Entry : Type 0
Entry = Bor (List ℕ) × ⊤

abbrev pub keys : List Entry → List (List ℕ)
keys entries = texts (keys_of entries)

keys-match_ordering : (o : Ordering) (a b c : List Entry) → keys (match_ordering o a b c) ≡ match_ordering o (keys a) (keys b) (keys c)
keys-match_ordering Less a b c = refl
keys-match_ordering Equal a b c = refl
keys-match_ordering Greater a b c = refl

-- a name that is put into a map
pub keys-insert_entry : (es : List Entry) (k : Bor (List ℕ)) (v : ⊤) → keys (insert_entry (λ (a b : Bor (List ℕ)). slice_cmp nat_cmp a.now b.now) es k v) ≡ put_name k.now (keys es)
keys-insert_entry [] k v = refl
keys-insert_entry (e ∷ es) k v = keys-match_ordering (slice_cmp nat_cmp k.now e.0.now) _ _ _ ∙ rw (keys-insert_entry es k v)

-- whether a name of the members passes
abbrev pub HasUnread : (List ℕ → Bool) → List (List ℕ × Data) → Bool
HasUnread p pairs = list_any (λ m. p m.0) pairs

-- no name passes
abbrev NonePasses : (List ℕ → Bool) → List (List ℕ) → Type 0
NonePasses p [] = ⊤
NonePasses p (name ∷ names) = (p name ≡ false) × NonePasses p names

none_of : (o : Ordering) (p : List ℕ → Bool) (a b c : List (List ℕ)) → NonePasses p a → NonePasses p b → NonePasses p c → NonePasses p (match_ordering o a b c)
none_of Less p a b c x y z = x
none_of Equal p a b c x y z = y
none_of Greater p a b c x y z = z

none_put : (p : List ℕ → Bool) (k : List ℕ) (names : List (List ℕ)) → p k ≡ false → NonePasses p names → NonePasses p (put_name k names)
none_put p k [] fails none = (fails, tt)
none_put p k (l ∷ names) fails none = none_of (slice_cmp nat_cmp k l) p _ _ _ (fails, none) none (none.0, none_put p k names fails none.1)

neither : (a b : Bool) → (a || b) ≡ false → (a ≡ false) × (b ≡ false)
neither false b h = (refl, h)
neither true b h = absurd (true≢false h)

none_put_all : (p : List ℕ → Bool) (pairs : List (List ℕ × Data)) (names : List (List ℕ)) → HasUnread p pairs ≡ false → NonePasses p names → NonePasses p (put_names pairs names)
none_put_all p [] names h none = none
none_put_all p (m ∷ pairs) names h none =
    let fail = neither (p m.0) (HasUnread p pairs) h in
    none_put_all p pairs (put_name m.0 names) fail.1 (none_put p m.0 names fail.0 none)

filter_none : (p : List ℕ → Bool) (names : List (List ℕ)) → NonePasses p names → filter p names ≡ []
filter_none p [] none = refl
filter_none p (name ∷ names) none = rw none.0 (filter_none p names none.1)

-- where no name of the members passes, none of the object's does
pub none_unread : (p : List ℕ → Bool) (value : Data) (pairs : List (List ℕ × Data)) → value ≡ object (put_all pairs no_members) → HasUnread p pairs ≡ false → filter p (member_names value) ≡ []
none_unread p value pairs is none = rw (is, names_of-put_all pairs no_members) (filter_none p _ (none_put_all p pairs [] none tt))

-- before the first member no name is in the map
pub no_name_yet : (value : Data) (pairs : List (List ℕ × Data)) (es : List Entry) → value ≡ object (put_all pairs no_members) → es ≡ [] → member_names value ≡ put_names pairs (keys es)
no_name_yet value pairs es is none = rw (is, none) (names_of-put_all pairs no_members)

-- the name of a member goes into the map
pub one_name_more : (names : List (List ℕ)) (pairs rest : List (List ℕ × Data)) (name : Bor (List ℕ)) (d : Data) (es more : List Entry) → names ≡ put_names pairs (keys es) → pairs ≡ (name.now, d) ∷ rest → more ≡ insert_entry (λ (a b : Bor (List ℕ)). slice_cmp nat_cmp a.now b.now) es name tt → names ≡ put_names rest (keys more)
one_name_more names pairs rest name d es more so_far is put_in = so_far ∙ rw (is, put_in, keys-insert_entry es name tt)
