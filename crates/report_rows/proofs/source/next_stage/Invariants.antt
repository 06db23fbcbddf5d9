use Rattle.std.proofs.Common.{◌≡◌, drop}
use Rattle.report_rows.specs.Listings.{rows_at}
use Rattle.report_rows.proofs.source.next_stage.Given as goal

-- none so far has a row
abbrev pub invariant-loop-index : goal.invariant-loop-index
invariant-loop-index g l = rows_at l.listing l.version l.against (drop l.begin l.places) ≡ rows_at l.listing l.version l.against (drop l.index l.places)
