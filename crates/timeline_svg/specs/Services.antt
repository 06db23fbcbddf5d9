-- Services.
use Rattle.std.specs.Prelude.{ℕ, ◌==◌, List}
use Rattle.std.specs.List.{before_first}

-- what stands before the first dot of a name
abbrev pub service_of : List ℕ → List ℕ
service_of name = before_first (λ byte. byte == 46) name
