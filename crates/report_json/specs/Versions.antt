-- What is answered where a version was made or is asked for.
use Rattle.std.specs.Prelude.{ℕ, List, [], ◌∷◌, codes}
use Rattle.serde_json.specs.Data.{Data}
use Rattle.report_json.specs.Json.{NamedValues, count, object, text}

-- the reply, and the version's number
abbrev pub at_version_members : List ℕ → ℕ → NamedValues
at_version_members reply version = (codes "reply", text reply) ∷ (codes "version", count version) ∷ []

abbrev pub at_version_json : List ℕ → ℕ → Data
at_version_json reply version = object (at_version_members reply version)
