use Rattle.std.proofs.Common.{refl}
use Rattle.report_json.specs.Rows.{row_json}
use Rattle.report_json.proofs.Listing.{all_of, next_of, none_of}
use Rattle.report_json.proofs.Pushed.{list_told}
use Rattle.report_json.proofs.rows.push_rows.Goals as goal

pub loop-row-init : goal.loop-row-init
loop-row-init g c = none_of row_json _ _ _ c.in_ok-begin_list.ensures

pub loop-row-preserved : goal.loop-row-preserved
loop-row-preserved g c = next_of row_json _ _ _ _ _ _ _ c.loop-row.invariant c.in-Some.ensures c.in_ok-push_row.ensures

pub returns : goal.returns
returns g c = list_told c.end_list.result _ _ _ _ _ _ refl refl (all_of row_json _ _ _ _ c.loop-row.invariant c.in_default.ensures.0) c.end_list.ensures
