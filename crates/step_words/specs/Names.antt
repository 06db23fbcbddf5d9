-- Stages by their names, or by parts of these.
use Rattle.std.specs.Prelude.{ℕ, ◌==◌, Bool, ◌||◌, nat_eq, is_some, if◌then◌else◌, List, [], ◌∷◌, length, Option, Some, None, Result, Ok, Err}
use Rattle.std.specs.List.{filter_map, starts_with}
use Rattle.stage_graph.specs.declared.stage.Stage.{Stage}
use Rattle.stage_graph.specs.Plain.{place_named}
use Rattle.step_words.specs.declared.mistake.Mistake.{Mistake}
use Rattle.step_words.specs.declared.mistake.Mistake.TheVariants.{Missing, NoStage, SeveralStages}
use Rattle.step_words.specs.declared.names.Like.{Like}
use Rattle.step_words.specs.declared.names.Like.TheVariants.{Beginning, Part}

-- a name begins with a text
abbrev pub begins : List ℕ → List ℕ → Bool
begins name text = starts_with nat_eq name text

-- a text is a part of a name: a rest of the name begins with it
abbrev pub has_part : List ℕ → List ℕ → Bool
has_part [] text = begins [] text
has_part (x ∷ xs) text = begins (x ∷ xs) text || has_part xs text

abbrev pub is_like : Like → List ℕ → List ℕ → Bool
is_like Beginning name text = begins name text
is_like Part name text = has_part name text

-- the name of the stage at a place, if the text stands so in it
abbrev pub name_like : Like → List ℕ → Option Stage → Option (List ℕ)
name_like like text None = None
name_like like text (Some stage) = if is_like like stage.name text then Some stage.name else None

-- the names in which the text stands so, by their places
abbrev pub names_like : Like → List ℕ → List (Option Stage) → List (List ℕ)
names_like like text places = filter_map (name_like like text) places

unfoldable pub the_only : List (List ℕ) → Result (List ℕ) Mistake
the_only [] = Err NoStage
the_only (name ∷ []) = Ok name
the_only (name ∷ other ∷ others) = Err SeveralStages

-- the name of the stage that a text names: its whole name, or a beginning of its name alone
abbrev pub stage_in : List (Option Stage) → List ℕ → Result (List ℕ) Mistake
stage_in places text =
    if length text == 0 then Err Missing
    else if is_some (place_named places text) then Ok text
    else the_only (names_like Beginning text places)
