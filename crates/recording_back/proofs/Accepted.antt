-- The text of a graph without a cycle is accepted.
use Rattle.std.proofs.Common.{◌≡◌, ◌≤◌, length, Result, Ok, Err, sym, subst, ◌∙◌}
use Rattle.stage_graph.specs.Plain.{PlainGraph}
use Rattle.stage_graph.specs.Sound.{IsSound}
use Rattle.stage_graph.specs.Walk.{IsRanked}
use Rattle.stage_graph.specs.Order.{IsClosedWalk}
use Rattle.stage_graph.proofs.Ranked.{not_ranked_from_closed_walk}
use Rattle.recording.specs.declared.fault.Fault.{Fault}
use Rattle.recording.specs.declared.fault.Fault.TheVariants.{TooLong, Json, Shape, ListSize, Refused, Cycle, Memory}
use Rattle.recording.specs.Reads.{IsNamed}
use Rattle.recording.specs.RecordingOf.{longest, named}
use Rattle.recording_text.specs.Labels.{recording_with}
use Rattle.recording_text.specs.Texts.{recording_text}
use Rattle.recording_back.specs.Accepted.{IsAccepted, IsGraph, EachGraphIsAccepted}
use Rattle.recording_back.specs.Packed.{AreTyped, without_empty}
use Rattle.recording_back.proofs.Loading.{graph_read_back, plain_read_back}
use Rattle.recording_back.proofs.StaysRanked.{stays_ranked}

same_graph : (a b : PlainGraph) → ◌≡◌ {A = Result PlainGraph Fault} (Ok a) (Ok b) → a ≡ b
same_graph a b is = cc

-- what is answered where the definition of reading finds a ranked graph
accepted : (graph : PlainGraph) (meant : Result PlainGraph Fault) → meant ≡ Ok graph → IsRanked graph.places → (answer : Result PlainGraph Fault) → IsNamed answer meant → IsGraph answer graph
accepted graph meant is ranked (Ok answered) h = same_graph answered graph (sym h.0 ∙ is)
accepted graph meant is ranked (Err TooLong) h = absurd cc
accepted graph meant is ranked (Err Json) h = absurd cc
accepted graph meant is ranked (Err (Shape member)) h = absurd cc
accepted graph meant is ranked (Err ListSize) h = absurd cc
accepted graph meant is ranked (Err (Refused refused)) h = absurd cc
accepted graph meant is ranked (Err (Cycle path)) (found, same, closed) =
    let here : found ≡ graph = same_graph found graph (sym same ∙ is) in
    absurd (not_ranked_from_closed_walk graph.places path (subst (λ (g : PlainGraph). IsClosedWalk g.places path) here closed) ranked)
accepted graph meant is ranked (Err Memory) h = tt

pub graph_accepted : EachGraphIsAccepted
graph_accepted graph mode head stages sound ranked typed is short =
    accepted (without_empty graph) (named (recording_with mode head stages)) (graph_read_back graph mode head stages sound typed is short) (stays_ranked graph sound ranked)

pub plain_accepted : (graph : PlainGraph) → IsSound graph → IsRanked graph.places → AreTyped graph.places → length (recording_text graph) ≤ longest → IsAccepted (recording_text graph) (without_empty graph)
plain_accepted graph sound ranked typed short =
    accepted (without_empty graph) (named (recording_text graph)) (plain_read_back graph sound typed short) (stays_ranked graph sound ranked)
