use Rattle.std.proofs.Common.{ap, ◌∙◌}
use Rattle.serde_json.specs.Read.{read}
use Rattle.fleet_text.specs.Json.{part_json}
use Rattle.fleet_text.proofs.Said.{part_written}
use Rattle.fleet_text.proofs.laws.written_and_read.Goals as goal

pub returns : goal.returns
returns c sound = c.read_summary.ensures.back c.args.part.now (part_json c.args.part.now) sound (ap read c.deref.ensures ∙ c.in_ok-text.ensures.read) (part_written c.args.part.now)
