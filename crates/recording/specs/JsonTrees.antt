-- The tree of the crate `json` that a text is.
use Rattle.std.specs.Prelude.{ℕ, List, Option, option_and_then}
use Rattle.json.specs.Json.{Json, value, if_last}
use Rattle.json.specs.Lex.{tokens}
use Rattle.serde_json.specs.Read.{max_depth}

-- none where the text is no JSON, or nests deeper than `serde_json` reads
abbrev pub tree_of : List ℕ → Option Json
tree_of text = option_and_then (λ found. if_last found.0 found.1) (value max_depth (tokens text))
