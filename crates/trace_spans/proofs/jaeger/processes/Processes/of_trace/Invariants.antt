use Rattle.std.proofs.Common.{◌≡◌, length}
use Rattle.json_trees.specs.Named.{put_all}
use Rattle.serde_json.specs.Data.{no_members}
use Rattle.trace_spans.specs.Processes.{members_from}
use Rattle.trace_spans.proofs.jaeger.processes.Processes.of_trace.Given as goal

-- the members that are left go in after those that are in the map
abbrev pub invariant-loop-name : goal.invariant-loop-name
invariant-loop-name l = put_all l.initial.members no_members ≡ put_all l.members (members_from l.by_name.entries)

abbrev pub decreases-loop-name : goal.decreases-loop-name
decreases-loop-name l = length l.members
