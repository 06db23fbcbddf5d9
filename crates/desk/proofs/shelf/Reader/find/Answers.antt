use Rattle.desk.proofs.Fronts.{prefix_trans}
use Rattle.desk.proofs.shelf.Reader.find.Goals as goal

pub returns-in_err-again-clause-later : goal.returns-in_err-again-clause-later
returns-in_err-again-clause-later g c = prefix_trans c.args.front.now c.learn.new.front c.show.new.front c.learn.ensures.later c.show.ensures.later

pub returns-clause-later : goal.returns-clause-later
returns-clause-later g c = prefix_trans c.args.front.now c.learn.new.front c.show.new.front c.learn.ensures.later c.show.ensures.later
