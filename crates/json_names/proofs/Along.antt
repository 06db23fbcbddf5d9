-- The names along places, one place after the other.
use Rattle.std.proofs.Common.{◌≡◌, ℕ, ◌+◌, ◌<◌, ◌≤◌, List, [], ◌∷◌, ◌++◌, Bool, true, false, cond, Bor, length, drop, get_or, map, Option, Some, None, option_map, refl, ap, ◌∙◌, add-one, append_assoc, append-nil, drop-cons}
use Rattle.std.proofs.lemmas.List.{drop_all, map-append}
use Rattle.std.specs.Prelude.{◌&&◌, option_and_then, slice_get}
use Rattle.serde_json.specs.Data.{Data}
use Rattle.json_names.specs.Circles.{circle_names, each_waits, is_awaited, name_of, names_at, stages_of, waits_for_first}

abbrev texts : List (Bor (List ℕ)) → List (List ℕ)
texts = map (λ text. text.now)

-- the names along the places, if the stage before waits for the first one, and each for the next one
abbrev pub names_along : List Data → Option Data → List ℕ → Option (List (List ℕ))
names_along stages before [] = Some []
names_along stages before (place ∷ places) =
    option_and_then (λ stage. option_and_then (λ name. cond (is_awaited before name) (option_map (λ names. name ∷ names) (names_along stages (Some stage) places)) None) (name_of stage)) (slice_get stages place)

-- whether the stage before waits for the one at the first place
abbrev awaits_first : List Data → Option Data → List ℕ → Bool
awaits_first stages None places = true
awaits_first stages (Some stage) places = waits_for_first stages stage places

-- names if the test passes
abbrev passing : Bool → Option (List (List ℕ)) → Option (List (List ℕ))
passing passes names = cond passes names None

none_passing : (passes : Bool) → None ≡ passing passes None
none_passing true = refl
none_passing false = refl

both_pass : (first others : Bool) (name : List ℕ) (names : Option (List (List ℕ))) → passing first (option_map (λ more. name ∷ more) (passing others names)) ≡ passing (first && others) (option_map (λ more. name ∷ more) names)
both_pass true true name names = refl
both_pass true false name names = refl
both_pass false true name names = refl
both_pass false false name names = refl

-- what is to be shown of places
abbrev Agrees : List Data → Option Data → List ℕ → Type 0
Agrees stages before places = names_along stages before places ≡ passing (awaits_first stages before places && each_waits stages places) (names_at stages places)

named : (stages : List Data) (before : Option Data) (place : ℕ) (places : List ℕ) (stage : Data) (name : List ℕ) → slice_get stages place ≡ Some stage → name_of stage ≡ Some name → Agrees stages (Some stage) places → Agrees stages before (place ∷ places)
named stages None place places stage name found is rest =
    rw (found, is, rest) (both_pass true (waits_for_first stages stage places && each_waits stages places) name (names_at stages places))
named stages (Some b) place places stage name found is rest =
    rw (found, is, rest) (both_pass (is_awaited (Some b) name) (waits_for_first stages stage places && each_waits stages places) name (names_at stages places))

with_name : (stages : List Data) (before : Option Data) (place : ℕ) (places : List ℕ) (stage : Data) (name : Option (List ℕ)) → slice_get stages place ≡ Some stage → name_of stage ≡ name → Agrees stages (Some stage) places → Agrees stages before (place ∷ places)
with_name stages before place places stage None found is rest = rw (found, is) (none_passing _)
with_name stages before place places stage (Some name) found is rest = named stages before place places stage name found is rest

with_stage : (stages : List Data) (before : Option Data) (place : ℕ) (places : List ℕ) (stage : Option Data) → slice_get stages place ≡ stage → ((stage : Data) → Agrees stages (Some stage) places) → Agrees stages before (place ∷ places)
with_stage stages before place places None found rest = rw found (none_passing _)
with_stage stages before place places (Some stage) found rest = with_name stages before place places stage _ found refl (rest stage)

agrees : (stages : List Data) (places : List ℕ) (before : Option Data) → Agrees stages before places
agrees stages [] None = refl
agrees stages [] (Some stage) = refl
agrees stages (place ∷ places) before = with_stage stages before place places _ refl (λ stage. agrees stages places (Some stage))

-- the names along all places are those of the circle
pub circle_along : (recording : Data) (stages : List Data) (places : List ℕ) → stages ≡ stages_of recording → names_along stages None places ≡ circle_names recording places
circle_along recording stages places is = agrees stages places None ∙ ap (λ all. passing (each_waits all places) (names_at all places)) is

-- the names along all places are those so far, and those along the places that are left
pub record IsSoFar (stages : List Data) (places : List ℕ) (i : ℕ) (before : Option Data) (names : List (Bor (List ℕ))) : Type 0 where
  pub goes_on : names_along stages None places ≡ option_map (λ rest. texts names ++ rest) (names_along stages before (drop i places))

next_place : (places : List ℕ) (i : ℕ) → i < length places → drop i places ≡ get_or places i 0 ∷ drop (i + 1) places
next_place places i within = rw add-one (drop-cons places i 0 within)

-- there is no stage at the next place
pub no_stage : (stages : List Data) (places : List ℕ) (i : ℕ) (before : Option Data) (names : List (Bor (List ℕ))) → IsSoFar stages places i before names → i < length places → None ≡ slice_get stages (get_or places i 0) → None ≡ names_along stages None places
no_stage stages places i before names so_far within none = rw (so_far.goes_on, next_place places i within, ← none)

-- the stage at the next place has no name
pub no_name : (stages : List Data) (places : List ℕ) (i : ℕ) (before : Option Data) (names : List (Bor (List ℕ))) (stage : Data) → IsSoFar stages places i before names → i < length places → Some stage ≡ slice_get stages (get_or places i 0) → None ≡ name_of stage → None ≡ names_along stages None places
no_name stages places i before names stage so_far within found none = rw (so_far.goes_on, next_place places i within, ← found, ← none)

-- the stage before does not wait for the one at the next place
pub not_awaited : (stages : List Data) (places : List ℕ) (i : ℕ) (before : Option Data) (names : List (Bor (List ℕ))) (stage : Data) (name : List ℕ) → IsSoFar stages places i before names → i < length places → Some stage ≡ slice_get stages (get_or places i 0) → Some name ≡ name_of stage → is_awaited before name ≡ false → None ≡ names_along stages None places
not_awaited stages places i before names stage name so_far within found is waits = rw (so_far.goes_on, next_place places i within, ← found, ← is, waits)

one_name : (names : List (Bor (List ℕ))) (name : Bor (List ℕ)) (rest : Option (List (List ℕ))) → option_map (λ more. texts names ++ more) (option_map (λ more. name.now ∷ more) rest) ≡ option_map (λ more. texts (names ++ name ∷ []) ++ more) rest
one_name names name None = refl
one_name names name (Some rest) = ap Some (rw (map-append (λ (text : Bor (List ℕ)). text.now) names (name ∷ []), append_assoc (texts names) (name.now ∷ []) rest))

-- the stage before waits for the one at the next place
pub one_more : (stages : List Data) (places : List ℕ) (i : ℕ) (before : Option Data) (names : List (Bor (List ℕ))) (stage : Data) (name : Bor (List ℕ)) → IsSoFar stages places i before names → i < length places → Some stage ≡ slice_get stages (get_or places i 0) → Some name.now ≡ name_of stage → is_awaited before name.now ≡ true → IsSoFar stages places (i + 1) (Some stage) (names ++ name ∷ [])
one_more stages places i before names stage name so_far within found is waits = record {
  goes_on = rw (so_far.goes_on, next_place places i within, ← found, ← is, waits) (one_name names name (names_along stages (Some stage) (drop (i + 1) places)));
}

-- no place is left
pub all_along : (stages : List Data) (places : List ℕ) (i : ℕ) (before : Option Data) (names : List (Bor (List ℕ))) → IsSoFar stages places i before names → length places ≤ i → Some (texts names) ≡ names_along stages None places
all_along stages places i before names so_far past = rw (so_far.goes_on, drop_all i places past, append-nil (texts names))
