-- The members of an object that nothing reads.
use Rattle.std.specs.Prelude.{ℕ, List, [], ◌∷◌, Bool, not, ◌&&◌, ◌||◌, filter, nat_eq, codes, option_map, unwrap_or}
use Rattle.std.specs.List.{list_any, starts_with}
use Rattle.std.specs.Str.{bytes_eq}
use Rattle.std.specs.Borrow.{Bor}
use Rattle.serde_json.specs.Data.{Data, Members, no_members, member}
use Rattle.serde_json.specs.Find.{as_object}

-- a label begins with `$`, `_` or `x-`
abbrev pub is_label : List ℕ → Bool
is_label name = starts_with nat_eq name (codes "$") || starts_with nat_eq name (codes "_") || starts_with nat_eq name (codes "x-")

-- whether a text is one of several
abbrev pub is_among : List ℕ → List (Bor (List ℕ)) → Bool
is_among text names = list_any (λ name. bytes_eq name.now text) names

-- the names of an object's members, in order
abbrev pub names_of : Members → List (List ℕ)
names_of no_members = []
names_of (member name value rest) = name ∷ names_of rest

-- what no object is has no members
abbrev pub member_names : Data → List (List ℕ)
member_names value = unwrap_or (option_map names_of (as_object value)) []

-- whether a member is no label, and none of those that are read
abbrev pub is_unread : List (Bor (List ℕ)) → List ℕ → Bool
is_unread read name = not (is_label name) && not (is_among name read)

-- the members that are no labels, and none of those that are read, in order
abbrev pub unread_of : Data → List (Bor (List ℕ)) → List (List ℕ)
unread_of value read = filter (is_unread read) (member_names value)
