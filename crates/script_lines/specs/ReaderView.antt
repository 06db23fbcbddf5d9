-- The state of a line reader.
use Rattle.std.specs.Prelude.{ℕ, List, Option}

-- the part of a line that was read (None: longer than a line may be), what was read and is in no line yet, and how many bytes
-- may still be read
pub record ReaderView : Type 0 where
  pub line : Option (List ℕ)
  pub waiting : List ℕ
  pub left : ℕ
