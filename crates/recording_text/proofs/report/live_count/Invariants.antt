use Rattle.std.proofs.Common.{◌≡◌, ◌+◌, ◌≤◌, drop, length}
use Rattle.recording_text.specs.Named.{named_among, specs_of}
use Rattle.recording_text.proofs.report.live_count.Given as goal

pub record Counting (Counted Bound Ends : Type 0) : Type 0 where
  pub counted : Counted
  pub bound : Bound
  pub ends : Ends

-- the stages so far are counted, and no more than one stands at a place
abbrev pub invariant-loop-place : goal.invariant-loop-place
invariant-loop-place g l = Counting
    (l.count + length (named_among l.graph.places (drop l.place l.graph.places)) ≡ length (specs_of l.graph))
    (l.count ≤ l.place)
    (l.place-end ≡ length l.graph.places)
