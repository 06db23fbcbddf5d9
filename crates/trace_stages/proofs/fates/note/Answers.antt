use Rattle.std.proofs.Common.{◌∙◌, sym}
use Rattle.trace_stages.proofs.Firsts.{newly_noted}
use Rattle.trace_stages.proofs.fates.note.Goals as goal

pub returns : goal.returns
returns c = newly_noted c.args.name.now c.in_ok-name.name c.args.firsts.now c.insert.new.self c.args.place (c.in_ok-name.ensures.ok ∙ c.as_str.ensures) (sym c.is_noted.ensures ∙ c.if-is_noted.false) c.in_ok-insert.ensures.updates
