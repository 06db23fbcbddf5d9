-- Sets of places, with a bit for each.
use Rattle.std.specs.Prelude.{ℕ, ◌/◌, ◌%◌, ◌==◌, Bool, List, slice_index}
use Rattle.std.specs.Int.{bit_at}

-- whether the place is in the set: bit k of word n is that of the place 64 * n + k
abbrev pub is_within : List ℕ → ℕ → Bool
is_within words place = bit_at (slice_index words (place / 64)) (place % 64) == 1
