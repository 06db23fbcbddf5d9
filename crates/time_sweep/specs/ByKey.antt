-- Lists in the order of a key.
use Rattle.std.specs.Prelude.{ℕ, List, filter, ◌==◌}
use Rattle.std.specs.List.{flat_map, range_with_len}

-- those of a key, in the order of the list
abbrev pub at_key : {A : Type 0} → (A → ℕ) → List A → ℕ → List A
at_key key items at = filter (λ item. key item == at) items

-- those of each key of some keys, one key after the other
abbrev pub by_key : {A : Type 0} → (A → ℕ) → ℕ → ℕ → List A → List A
by_key key start count items = flat_map (at_key key items) (range_with_len start count)
