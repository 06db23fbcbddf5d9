use Rattle.std.proofs.Math.Facts.{to_z-of_z}
use Rattle.report_json.proofs.Pushed.{integer_told}
use Rattle.report_json.proofs.line.Line.integer.Goals as goal

pub returns : goal.returns
returns c = rw (← c.self.view_is) (integer_told c.i64.result c.args.number _ _ _ c.ranges.number (to_z-of_z c.ranges.number) c.i64.ensures.ok)
