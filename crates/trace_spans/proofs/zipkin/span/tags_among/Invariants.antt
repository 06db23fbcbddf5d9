use Rattle.std.proofs.Common.{◌≡◌, length}
use Rattle.serde_json.specs.Data.{Members, no_members}
use Rattle.json_trees.specs.Named.{put_all}
use Rattle.trace_spans.specs.Tags.{tags_among}
use Rattle.trace_spans.proofs.zipkin.span.tags_among.Given as goal

-- those among the members so far, and the members that are left go in after them
abbrev pub invariant-members : goal.invariant-members
invariant-members l = (so_far : Members) × (put_all l.fn.members no_members ≡ put_all l.members so_far) × (l.tags ≡ tags_among so_far)

abbrev pub decreases-members : goal.decreases-members
decreases-members l = length l.members
