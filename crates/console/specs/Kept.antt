-- How many writes of a sink that keeps what it passes on have failed.
use Rattle.std.specs.Prelude.{ℕ}
use Rattle.console.specs.declared.keeping.KeepingSink.{KeepingSink}

abbrev pub kept_failures : {S : Type 0} → (S → ℕ) → KeepingSink S → ℕ
kept_failures failures keeping = failures keeping.sink
