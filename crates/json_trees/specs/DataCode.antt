-- How the logic stores a value: as the steps that build it on a stack.
use Rattle.std.specs.Prelude.{◌≡◌, ℕ, ℤ, pos, List, [], ◌∷◌, Bool, true, false, cond, ◌==◌, refl}
use Rattle.std.specs.Float.{Float, nan}
use Rattle.std.specs.Coded.{Coded, code_by, coded×, coded_ℕ, coded_ℤ, coded_list}
use base.Stored.{coded_float}
use mathlib.Core.Path.{ap, ◌∙◌}
use Rattle.serde_json.specs.Data.{Num, unsigned, negative, float, Data, null, boolean, number, string, array, object, Items, no_items, item, Members, no_members, member}

-- which step, and what it pushes
abbrev Step : Type 0
Step = ℕ × (ℕ × (List ℕ × (ℤ × Float)))

abbrev plain : ℕ → Step
plain kind = (kind, (0, ([], (pos 0, nan))))

abbrev named : ℕ → List ℕ → Step
named kind s = (kind, (0, (s, (pos 0, nan))))

abbrev number_step : Num → Step
number_step (unsigned n) = (3, (n, ([], (pos 0, nan))))
number_step (negative z) = (4, (0, ([], (z, nan))))
number_step (float x) = (5, (0, ([], (pos 0, x))))

abbrev bool_step : Bool → Step
bool_step true = plain 1
bool_step false = plain 2

-- the steps of a value, and more steps
abbrev mutual
  steps : Data → List Step → List Step
  steps null more = plain 0 ∷ more
  steps (boolean b) more = bool_step b ∷ more
  steps (number n) more = number_step n ∷ more
  steps (string s) more = named 6 s ∷ more
  steps (array ds) more = items_steps ds more
  steps (object ms) more = members_steps ms more

  items_steps : Items → List Step → List Step
  items_steps no_items more = plain 7 ∷ more
  items_steps (item d ds) more = steps d (items_steps ds (plain 8 ∷ more))

  members_steps : Members → List Step → List Step
  members_steps no_members more = plain 9 ∷ more
  members_steps (member k d ms) more = steps d (members_steps ms (named 10 k ∷ more))

abbrev un_array : Data → Items
un_array null = no_items
un_array (boolean b) = no_items
un_array (number n) = no_items
un_array (string s) = no_items
un_array (array ds) = ds
un_array (object ms) = no_items

abbrev un_object : Data → Members
un_object null = no_members
un_object (boolean b) = no_members
un_object (number n) = no_members
un_object (string s) = no_members
un_object (array ds) = no_members
un_object (object ms) = ms

abbrev add_item : List Data → List Data
add_item [] = []
add_item (ds ∷ []) = []
add_item (ds ∷ d ∷ stack) = array (item d (un_array ds)) ∷ stack

abbrev add_member : List ℕ → List Data → List Data
add_member k [] = []
add_member k (ms ∷ []) = []
add_member k (ms ∷ d ∷ stack) = object (member k d (un_object ms)) ∷ stack

abbrev taken : Step → List Data → List Data
taken p stack =
    cond (p.0 == 0) (null ∷ stack) (cond (p.0 == 1) (boolean true ∷ stack) (cond (p.0 == 2) (boolean false ∷ stack) (cond (p.0 == 3) (number (unsigned p.1.0) ∷ stack)
    (cond (p.0 == 4) (number (negative p.1.1.1.0) ∷ stack) (cond (p.0 == 5) (number (float p.1.1.1.1) ∷ stack) (cond (p.0 == 6) (string p.1.1.0 ∷ stack)
    (cond (p.0 == 7) (array no_items ∷ stack) (cond (p.0 == 8) (add_item stack) (cond (p.0 == 9) (object no_members ∷ stack) (add_member p.1.1.0 stack))))))))))

abbrev run : List Step → List Data → List Data
run [] stack = stack
run (p ∷ ps) stack = run ps (taken p stack)

abbrev top : List Data → Data
top [] = null
top (d ∷ stack) = d

mutual
  run-steps : (d : Data) (more : List Step) (stack : List Data) → run (steps d more) stack ≡ run more (d ∷ stack)
  run-steps null more stack = refl
  run-steps (boolean true) more stack = refl
  run-steps (boolean false) more stack = refl
  run-steps (number (unsigned n)) more stack = refl
  run-steps (number (negative z)) more stack = refl
  run-steps (number (float x)) more stack = refl
  run-steps (string s) more stack = refl
  run-steps (array ds) more stack = run-items ds more stack
  run-steps (object ms) more stack = run-members ms more stack

  run-items : (ds : Items) (more : List Step) (stack : List Data) → run (items_steps ds more) stack ≡ run more (array ds ∷ stack)
  run-items no_items more stack = refl
  run-items (item d ds) more stack = run-steps d (items_steps ds (plain 8 ∷ more)) stack ∙ run-items ds (plain 8 ∷ more) (d ∷ stack)

  run-members : (ms : Members) (more : List Step) (stack : List Data) → run (members_steps ms more) stack ≡ run more (object ms ∷ stack)
  run-members no_members more stack = refl
  run-members (member k d ms) more stack = run-steps d (members_steps ms (named 10 k ∷ more)) stack ∙ run-members ms (named 10 k ∷ more) (d ∷ stack)

abbrev to_steps : Data → List Step
to_steps d = steps d []

abbrev from_steps : List Step → Data
from_steps ps = top (run ps [])

pub from_steps-to_steps : (d : Data) → from_steps (to_steps d) ≡ d
from_steps-to_steps d = ap top (run-steps d [] [])

abbrev pub data_code : Coded Data
data_code = code_by (List Step) (coded_list (coded× coded_ℕ (coded× coded_ℕ (coded× (coded_list coded_ℕ) (coded× coded_ℤ coded_float))))) to_steps from_steps from_steps-to_steps

abbrev pub items_code : Coded Items
items_code = code_by Data data_code array un_array (λ _. refl)
