use Rattle.std.proofs.Common.{◌≡◌, ◌+◌, ◌++◌, length}
use Rattle.std.specs.Prelude.{string_bytes}
use Rattle.timeline_trace.specs.Flows.{arrows}
use Rattle.timeline_trace.proofs.flow.push_arrows.Given as goal

-- what is written and what is left make the whole
abbrev pub invariant-loop-first : goal.invariant-loop-first
invariant-loop-first l = record {
  numbered : l.number + length l.rest ≡ 1 + length l.path;
  written : string_bytes l.text ++ arrows l.labels l.rows l.number l.rest ≡ string_bytes l.fn.text ++ arrows l.labels l.rows 1 l.path;
}

abbrev pub decreases-loop-first : goal.decreases-loop-first
decreases-loop-first l = length l.rest
