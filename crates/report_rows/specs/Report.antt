-- What a report says.
use Rattle.std.specs.Prelude.{List}
use Rattle.report_rows.specs.declared.head.Head.{Head}
use Rattle.report_rows.specs.declared.row.Row.{Row}

pub record Report : Type 0 where
  pub head : Head
  pub rows : List Row
