use Rattle.std.proofs.Common.{◌≡◌, length}
use Rattle.serde_json.specs.Data.{Members, no_members}
use Rattle.json_trees.specs.Named.{put_all}
use Rattle.trace_spans.specs.JaegerMembers.{jaeger_members_in}
use Rattle.trace_spans.proofs.jaeger.members.JaegerMembers.of.Given as goal

-- those among the members so far, and the members that are left go in after them
abbrev pub invariant-loop-name : goal.invariant-loop-name
invariant-loop-name l = (so_far : Members) × (put_all l.initial.members no_members ≡ put_all l.members so_far) × (l.found ≡ jaeger_members_in so_far)

abbrev pub decreases-loop-name : goal.decreases-loop-name
decreases-loop-name l = length l.members
