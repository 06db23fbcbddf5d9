-- What came of the replies of several traces: of each by itself.
use Rattle.std.specs.Prelude.{ℕ, List, Result, IfOk, IfSome, slice_get}
use Rattle.std.specs.List.{AllZip}
use Rattle.std.specs.declared.alloc.AllocError.{AllocError}
use Rattle.trace_spans.specs.declared.trace.Trace.{Trace}
use Rattle.fleet_replies.specs.Traced.{IsReplyOfTrace}
use Rattle.fleet_replies.specs.declared.question.Question.{Question}
use Rattle.fleet_replies.specs.declared.traced.TraceReply.{TraceReply}

-- that of the trace of a number, if there is one
abbrev pub IsReplyNumbered : Question → List Trace → ℕ → Result TraceReply AllocError → Type 0
IsReplyNumbered question traces number found = IfSome (slice_get traces number) (λ trace. IfOk found (IsReplyOfTrace question trace))

-- that of each, in their order, or that memory ran out for it
abbrev pub AreReplies : Question → List Trace → List (Result TraceReply AllocError) → Type 0
AreReplies question traces replies = AllZip (λ trace found. IfOk found (IsReplyOfTrace question trace)) traces replies
