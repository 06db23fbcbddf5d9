use Rattle.std.specs.Prelude.{IfOk}
use Rattle.fleet_replies.specs.Traced.{IsReplyOfTrace}
use Rattle.fleet_replies.specs.Traces.{IsReplyNumbered}
use Rattle.fleet_replies.proofs.Zips.{all_numbered}
use Rattle.fleet_replies.proofs.traces.replies_of_traces.Goals as goal

pub returns : goal.returns
returns g c =
    all_numbered (λ trace found. IfOk found (IsReplyOfTrace c.args.question.now trace)) (IsReplyNumbered c.args.question.now c.args.traces.now) c.args.traces.now c.in-Ok.count c.found_beside.result
    c.in-Ok.ensures.1 (λ number found own. own) c.found_beside.ensures
