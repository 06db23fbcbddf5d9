use Rattle.std.proofs.Common.{subst}
use Rattle.std.specs.Prelude.{option_copied}
use Rattle.fleet_replies.specs.Placed.{IsPlacing}
use Rattle.fleet_replies.proofs.Tracing.{replied}
use Rattle.fleet_replies.proofs.traced.reply_of_trace.Goals as goal

pub returns-in-Some : goal.returns-in-Some
returns-in-Some g c =
    let question = c.args.question.now in
    replied question c.args.trace.now c.in-Ok.made c.in-Some.placed c.reply_read.result c.in-Ok.ensures
    (subst (IsPlacing question.by (option_copied question.reply) c.in-Ok.made.reading) c.in-Some.is c.in_ok-placed.ensures) c.reply_read.ensures

pub returns : goal.returns
returns g c =
    let question = c.args.question.now in
    (c.in-Ok.made, c.in-Ok.ensures, subst (IsPlacing question.by (option_copied question.reply) c.in-Ok.made.reading) c.in-None.is c.in_ok-placed.ensures)
