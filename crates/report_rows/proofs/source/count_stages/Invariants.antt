use Rattle.std.proofs.Common.{◌≡◌, ◌+◌, ◌≤◌, drop, length}
use Rattle.report_rows.specs.Listings.{rows_at}
use Rattle.report_rows.proofs.source.count_stages.Given as goal

pub record Counting (Counted Bounded : Type 0) : Type 0 where
  pub counted : Counted
  pub bounded : Bounded

-- those so far are counted
abbrev pub invariant-loop-index : goal.invariant-loop-index
invariant-loop-index g l = Counting
    (length (rows_at l.listing l.version l.against (drop l.at l.places)) ≡ l.count + length (rows_at l.listing l.version l.against (drop l.index l.places)))
    (l.count ≤ l.index)
