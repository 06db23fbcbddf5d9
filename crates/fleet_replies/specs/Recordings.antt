-- What came of the replies of several recordings: of each by itself.
use Rattle.std.specs.Prelude.{ℕ, List, Result, IfOk, IfSome, slice_get}
use Rattle.std.specs.Borrow.{Bor}
use Rattle.std.specs.List.{AllZip}
use Rattle.std.specs.declared.alloc.AllocError.{AllocError}
use Rattle.fleet_replies.specs.Recorded.{IsReplyOfRecording}
use Rattle.fleet_replies.specs.declared.question.Question.{Question}
use Rattle.fleet_replies.specs.declared.recorded.RecordedReply.{RecordedReply}

-- that of the recording of a number, if there is one
abbrev pub IsRecordedNumbered : Question → List (Bor (List ℕ)) → ℕ → Result RecordedReply AllocError → Type 0
IsRecordedNumbered question recordings number found = IfSome (slice_get recordings number) (λ recording. IfOk found (IsReplyOfRecording question recording.now))

-- that of each, in their order, or that memory ran out for it
abbrev pub AreRecordedReplies : Question → List (Bor (List ℕ)) → List (Result RecordedReply AllocError) → Type 0
AreRecordedReplies question recordings replies = AllZip (λ recording found. IfOk found (IsReplyOfRecording question recording.now)) recordings replies
