use Rattle.serde_json.specs.View.{view}
use Rattle.fleet_text.proofs.Said.{replies_one}
use Rattle.fleet_text.proofs.reading.replies_in.Goals as goal

pub returns-clause-back : goal.returns-clause-back
returns-clause-back c replies times says =
    replies_one (view c.args.value.now) _ replies
    (record { count = c.in_ok-count_of.ensures.said; failed = c.in_ok-count_of-2.ensures.said; times = c.in_ok-histogram_of.ensures.said }) says
