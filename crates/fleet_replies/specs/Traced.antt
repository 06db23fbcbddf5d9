-- What came of the reply of a trace.
use Rattle.std.specs.Prelude.{ℕ, ◌≡◌, List, Ok, Err, option_copied}
use Rattle.change_words.specs.declared.change.Change.{Change}
use Rattle.recording.specs.Reads.{IsNamed}
use Rattle.recording.specs.RecordingOf.{named}
use Rattle.stage_graph.specs.Plain.{PlainGraph}
use Rattle.trace_import.specs.Imported.{IsNotMade, IsTracedFrom}
use Rattle.trace_import.specs.declared.traced.TraceRecording.{TraceRecording}
use Rattle.trace_spans.specs.declared.trace.Trace.{Trace}
use Rattle.fleet_replies.specs.Placed.{HasNoPlace, IsPlaced}
use Rattle.fleet_replies.specs.Replies.{IsReplyAt}
use Rattle.fleet_replies.specs.declared.placed.Placed.{Placed}
use Rattle.fleet_replies.specs.declared.question.Question.{Question}
use Rattle.fleet_replies.specs.declared.reply.Reply.{Reply}
use Rattle.fleet_replies.specs.declared.traced.TraceReply.{TraceReply}
use Rattle.fleet_replies.specs.declared.traced.TraceReply.TheVariants.{Replied, NoSpan, NotImported, Refused}

-- what there is in a graph of the reply that stands so
abbrev pub IsGraphReply : PlainGraph → Placed → List Change → Reply → Type 0
IsGraphReply graph placed changes reply = IsReplyAt graph placed.grouping placed.reply changes reply

-- in the graph that a recording tells, or why it tells none
abbrev pub IsReadReply : List ℕ → Placed → List Change → TraceReply → Type 0
IsReadReply text placed changes (Replied reply) = (graph : PlainGraph) × (named text ≡ Ok graph) × IsGraphReply graph placed changes reply
IsReadReply text placed changes (Refused fault) = IsNamed (Err fault) (named text)
IsReadReply text placed changes other = ⊥

-- in the recording that a trace makes, where a span answers
abbrev pub IsReplyOfTrace : Question → Trace → TraceReply → Type 0
IsReplyOfTrace question trace (NotImported fault) = IsNotMade question.mapping trace fault
IsReplyOfTrace question trace NoSpan = (made : TraceRecording) × IsTracedFrom question.mapping trace (Ok made) × HasNoPlace (option_copied question.reply) made.reading
IsReplyOfTrace question trace reply =
    (made : TraceRecording) × IsTracedFrom question.mapping trace (Ok made)
    × ((placed : Placed) × IsPlaced question.by (option_copied question.reply) made.reading placed × IsReadReply made.text.items placed question.changes.now reply)
