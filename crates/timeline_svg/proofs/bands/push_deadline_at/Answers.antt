use Rattle.std.proofs.Common.{append_assoc}
use Rattle.timeline_svg.proofs.bands.push_deadline_at.Goals as goal

pub returns : goal.returns
returns c = simp append_assoc c.writeln.ensures.bytes
