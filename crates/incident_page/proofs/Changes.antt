-- What versions changed, one after the other.
use Rattle.std.proofs.Common.{◌≡◌, List, [], ◌∷◌, ◌++◌, length, refl, ap, ◌∙◌}
use Rattle.std.proofs.lemmas.List.{nil_from_length}
use Rattle.version_store.specs.Plain.{PlainVersion}
use Rattle.incident_page.specs.Escaped.{escaped}
use Rattle.incident_page.specs.Scripts.{change_data, changes_data}
use Rattle.incident_page.proofs.Escaping.{escaped_append}

-- the first of some versions, and then the others
first_data : (version : PlainVersion) (others : List PlainVersion) → changes_data (version ∷ others) ≡ change_data version ++ changes_data others
unfolding changes_data
first_data version others = refl

pub changes_first : (made : List PlainVersion) (version : PlainVersion) (others : List PlainVersion) → made ≡ version ∷ others
    → escaped (changes_data made) ≡ escaped (change_data version) ++ escaped (changes_data others)
changes_first made version others is =
    ap (λ (made : List PlainVersion). escaped (changes_data made)) is ∙ ap escaped (first_data version others) ∙ escaped_append (change_data version) (changes_data others)

nothing_of_none : escaped (changes_data []) ≡ []
unfolding changes_data escaped
nothing_of_none = refl

pub changes_none : (made : List PlainVersion) → length made ≡ 0 → escaped (changes_data made) ≡ []
changes_none made is = ap (λ (made : List PlainVersion). escaped (changes_data made)) (nil_from_length made is) ∙ nothing_of_none
