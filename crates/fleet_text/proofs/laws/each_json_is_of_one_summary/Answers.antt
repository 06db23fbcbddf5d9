use Rattle.fleet_text.proofs.Said.{part_one, part_written}
use Rattle.fleet_text.proofs.laws.each_json_is_of_one_summary.Goals as goal

pub returns-clause-written : goal.returns-clause-written
returns-clause-written c = part_written

pub returns-clause-one : goal.returns-clause-one
returns-clause-one c = part_one
