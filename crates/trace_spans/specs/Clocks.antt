-- How clocks are told.
use Rattle.std.specs.Prelude.{ℕ, List, [], ◌∷◌, ◌++◌, codes}

-- texts after others, each with a space before it unless it is the first; those that are empty are passed over
abbrev pub joined_on : List ℕ → List (List ℕ) → List ℕ
joined_on told [] = told
joined_on told ([] ∷ texts) = joined_on told texts
joined_on [] ((x ∷ xs) ∷ texts) = joined_on (x ∷ xs) texts
joined_on (y ∷ ys) ((x ∷ xs) ∷ texts) = joined_on ((y ∷ ys) ++ codes " " ++ (x ∷ xs)) texts

-- the parts of a clock, but for empty ones, with a space between any two
abbrev pub clock_text : List (List ℕ) → List ℕ
clock_text parts = joined_on [] parts

-- the first part
abbrev pub service_of : List (List ℕ) → List ℕ
service_of [] = []
service_of (service ∷ others) = service

-- the clock of an instance of a service on a host
abbrev pub clock_of : List ℕ → List ℕ → List ℕ → List (List ℕ)
clock_of service instance host = service ∷ (instance ∷ (host ∷ []))
