-- What came of the reply of a trace, where a span answers.
use Rattle.std.proofs.Common.{Result, Ok, Err}
use Rattle.std.specs.Prelude.{IfOk, option_copied}
use Rattle.std.specs.declared.alloc.AllocError.{AllocError}
use Rattle.trace_import.specs.Imported.{IsTracedFrom}
use Rattle.trace_import.specs.declared.traced.TraceRecording.{TraceRecording}
use Rattle.trace_spans.specs.declared.trace.Trace.{Trace}
use Rattle.fleet_replies.specs.Placed.{IsPlaced}
use Rattle.fleet_replies.specs.Traced.{IsReadReply, IsReplyOfTrace}
use Rattle.fleet_replies.specs.declared.placed.Placed.{Placed}
use Rattle.fleet_replies.specs.declared.question.Question.{Question}
use Rattle.fleet_replies.specs.declared.traced.TraceReply.{TraceReply}
use Rattle.fleet_replies.specs.declared.traced.TraceReply.TheVariants.{Replied, NoSpan, NotImported, Refused}

pub replied : (question : Question) (trace : Trace) (made : TraceRecording) (placed : Placed) (found : Result TraceReply AllocError)
    → IsTracedFrom question.mapping trace (Ok made) → IsPlaced question.by (option_copied question.reply) made.reading placed
    → IfOk found (IsReadReply made.text.items placed question.changes.now) → IfOk found (IsReplyOfTrace question trace)
replied question trace made placed (Ok (Replied reply)) traced is read = (made, traced, (placed, is, read))
replied question trace made placed (Ok (Refused fault)) traced is read = (made, traced, (placed, is, read))
replied question trace made placed (Ok NoSpan) traced is read = absurd read
replied question trace made placed (Ok (NotImported fault)) traced is read = absurd read
replied question trace made placed (Err error) traced is read = tt
