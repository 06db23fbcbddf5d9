use Rattle.session_core.proofs.Runs.{steps_where_taken}
use Rattle.session_core.proofs.table.Table.take.Goals as goal

pub returns-clause-steps : goal.returns-clause-steps
returns-clause-steps g c = steps_where_taken c.args.self.now c.args.event.now c.reply_to.result c.reply_to.new.self c.reply_to.ensures
