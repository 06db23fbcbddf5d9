use Rattle.reply_rescue.proofs.Undoing.{keeps_its_moment}
use Rattle.reply_rescue.proofs.laws.each_keeps_its_moment.Goals as goal

pub returns : goal.returns
returns c = λ mode stage inputs value done is not_ended. keeps_its_moment mode stage inputs value done is not_ended
