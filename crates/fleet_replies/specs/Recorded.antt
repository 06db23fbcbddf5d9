-- What came of the reply of a recording.
use Rattle.std.specs.Prelude.{ℕ, ◌≡◌, List, Option, Some, None, Ok, Err}
use Rattle.std.specs.String.{string_bytes}
use Rattle.recording.specs.Labels.{unit_label}
use Rattle.recording.specs.Reads.{IsNamed}
use Rattle.recording.specs.RecordingOf.{named}
use Rattle.span_groups.specs.declared.grouping.Grouping.{Grouping}
use Rattle.stage_graph.specs.Plain.{PlainGraph}
use Rattle.fleet_replies.specs.Replies.{IsReplyAt}
use Rattle.fleet_replies.specs.declared.question.Question.{Question}
use Rattle.fleet_replies.specs.declared.recorded.RecordedReply.{RecordedReply}
use Rattle.fleet_replies.specs.declared.recorded.RecordedReply.TheVariants.{Replied, NoStage, Refused}
use Rattle.fleet_replies.specs.declared.reply.Reply.{Reply}

-- what there is in a graph of the reply that stands at some place, where stages count to groups in some way: the names tell both
abbrev pub IsReplyIn : Question → PlainGraph → Option Reply → Type 0
IsReplyIn question graph None = Unit {0}
IsReplyIn question graph (Some reply) = (place : ℕ) × ((grouping : Grouping) × IsReplyAt graph grouping place question.changes.now reply)

-- in the graph that a recording tells, or why it tells none
abbrev pub IsReplyOfRecording : Question → List ℕ → RecordedReply → Type 0
IsReplyOfRecording question recording (Replied reply unit) =
    (graph : PlainGraph) × (named recording ≡ Ok graph) × IsReplyIn question graph (Some reply) × (string_bytes unit ≡ unit_label recording)
IsReplyOfRecording question recording NoStage = (graph : PlainGraph) × (named recording ≡ Ok graph)
IsReplyOfRecording question recording (Refused fault) = IsNamed (Err fault) (named recording)
