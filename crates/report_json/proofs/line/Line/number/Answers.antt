use Rattle.report_json.proofs.Pushed.{count_told}
use Rattle.report_json.proofs.line.Line.number.Goals as goal

pub returns : goal.returns
returns c = rw (← c.self.view_is) (count_told c.u64.result c.args.number _ _ c.ranges.number.fits c.u64.ensures.ok)
