use Rattle.fleet_text.proofs.Lasts.{last_decides}
use Rattle.fleet_text.proofs.order.is_last.Goals as goal

pub returns-in-Some : goal.returns-in-Some
returns-in-Some g c = last_decides g.met.K.Ord.total c.args.map.now.entries _ _ _ c.args.key.now _ c.in-Some.ensures.last c.in-Some.ensures.all_up_to cc
