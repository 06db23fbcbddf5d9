-- The fields of a line that is being read.
use Rattle.std.specs.Prelude.{◌≤◌, length}
use Rattle.script_lines.specs.Lines.{IsUnbroken}
use Rattle.script_lines.specs.declared.partial_line.PartialLine.TheInside.{Inside}

-- what is kept has no line end, and is no longer than a line may be
pub record IsPartialLine (partial : Inside) : Type 0 where
  pub unbroken : IsUnbroken partial.text.items
  pub short : length partial.text.items ≤ 65536
