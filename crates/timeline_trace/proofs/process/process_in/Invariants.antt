use Rattle.std.proofs.Common.{◌≡◌, ◌+◌, drop}
use Rattle.timeline_trace.specs.Processes.{process_in}
use Rattle.timeline_trace.proofs.process.process_in.Given as goal

-- the rows so far are none of the service
abbrev pub invariant-loop-row : goal.invariant-loop-row
invariant-loop-row l = record {
  counted : l.process ≡ l.row-index + 1;
  found : l.row-index + process_in (drop l.row-index l.rows) l.service ≡ process_in l.rows l.service;
}
