use Rattle.std.specs.Prelude.{IfOk}
use Rattle.fleet_replies.specs.Recorded.{IsReplyOfRecording}
use Rattle.fleet_replies.specs.Recordings.{IsRecordedNumbered}
use Rattle.fleet_replies.proofs.Zips.{all_numbered}
use Rattle.fleet_replies.proofs.recordings.replies_of_recordings.Goals as goal

pub returns : goal.returns
returns g c =
    all_numbered (λ recording found. IfOk found (IsReplyOfRecording c.args.question.now recording.now)) (IsRecordedNumbered c.args.question.now c.args.recordings.now) c.args.recordings.now c.in-Ok.count c.found_beside.result
    c.in-Ok.ensures.1 (λ number found own. own) c.found_beside.ensures
