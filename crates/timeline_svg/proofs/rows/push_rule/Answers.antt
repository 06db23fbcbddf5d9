use Rattle.std.proofs.Common.{append_assoc}
use Rattle.timeline_svg.proofs.rows.push_rule.Goals as goal

pub returns : goal.returns
returns c = simp append_assoc c.write.ensures.bytes
