use Rattle.std.proofs.Common.{ap, subst}
use Rattle.stage_graph.specs.Plain.{PlainGraph}
use Rattle.version_store.specs.Plain.{PlainVersion}
use Rattle.fleet_replies.specs.Replies.{IsReplyAt}
use Rattle.fleet_replies.proofs.recorded.reply_in.Goals as goal

pub returns : goal.returns
returns g c = (
  c.in-Some.reply,
  (
    c.in_ok-grouping.grouping,
    subst (λ (graph : PlainGraph). IsReplyAt graph c.in_ok-grouping.grouping c.in-Some.reply c.args.question.now.changes.now c.in_ok-found.found)
        (ap (λ (version : PlainVersion). version.graph) c.in_ok-version.ensures) c.in_ok-found.ensures,
  ),
)
