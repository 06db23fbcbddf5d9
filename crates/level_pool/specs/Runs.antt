-- What a run gives.
use Rattle.std.specs.Prelude.{ℕ, List}
use Rattle.std.specs.List.{AllZip}

-- the results are, in order and each once, what the calls at the pieces gave
abbrev pub IsPlainMap : {T : Type 0} → (ℕ → T → Type 0) → List ℕ → List T → Type 0
IsPlainMap gives pieces results = AllZip gives pieces results
