use Rattle.std.proofs.Common.{◌≡◌, length}
use Rattle.std.specs.List.{range_with_len}
use Rattle.report_rows.proofs.places.all_places.Given as goal

pub record Listing (Listed Ends : Type 0) : Type 0 where
  pub listed : Listed
  pub ends : Ends

-- the places so far
abbrev pub invariant-loop-place : goal.invariant-loop-place
invariant-loop-place g l = Listing (l.places.items ≡ range_with_len 0 l.place) (l.place-end ≡ length l.graph.places)
