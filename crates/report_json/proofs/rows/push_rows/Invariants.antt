use Rattle.std.proofs.Common.{◌∷◌, [], ◌++◌, length}
use Rattle.json.specs.Token.{begin_array}
use Rattle.report_json.specs.Rows.{row_json}
use Rattle.report_json.proofs.Listing.{TellsBut}
use Rattle.report_json.proofs.rows.push_rows.Given as goal

-- those so far
abbrev pub invariant-loop-row : goal.invariant-loop-row
invariant-loop-row g l = TellsBut row_json l.fn.rows l.rows (l.fn.line ++ begin_array ∷ []) l.line

abbrev pub decreases-loop-row : goal.decreases-loop-row
decreases-loop-row g l = length l.rows
