-- How much an import writes at most.
use Rattle.std.specs.Prelude.{ℕ}

-- stages
abbrev pub most_stages : ℕ
most_stages = 65_536

-- bytes
abbrev pub longest : ℕ
longest = 67_108_864
