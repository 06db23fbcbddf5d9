-- The names of stages.
use Rattle.std.specs.Prelude.{ℕ, List, map}
use Rattle.std.specs.Borrow.{Bor}
use Rattle.stage_graph.specs.Plain.{PlainGraph, stage_at, name_of}

-- the name of the stage at a place; nothing at an empty one
abbrev pub name_at : PlainGraph → ℕ → List ℕ
name_at graph place = name_of (stage_at graph.places place)

abbrev pub names_at : PlainGraph → List ℕ → List (List ℕ)
names_at graph places = map (name_at graph) places

-- what borrowed texts are
abbrev pub bytes_of : List (Bor (List ℕ)) → List (List ℕ)
bytes_of texts = map (λ text. text.now) texts
