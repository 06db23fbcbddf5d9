-- What is told of a recording, by its texts.
use Rattle.std.specs.Prelude.{ℕ, Bool, List, Option, string_bytes}
use Rattle.recording.specs.Labels.{deadline_label, is_imported, unit_label}
use Rattle.recording.specs.declared.labels.Told.{Told}

pub record PlainTold : Type 0 where
  pub unit : List ℕ
  pub is_imported : Bool
  pub deadline : Option ℕ

abbrev pub plain_told : Told → PlainTold
plain_told told = record { unit = string_bytes told.unit; is_imported = told.is_imported; deadline = told.deadline }

-- what its labels tell
abbrev pub told_of : List ℕ → PlainTold
told_of recording = record { unit = unit_label recording; is_imported = is_imported recording; deadline = deadline_label recording }
