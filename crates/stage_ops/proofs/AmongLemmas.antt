-- The feeds of a sound stage of a graph are among the graph's places.
use Rattle.std.proofs.Common.{ℕ, ◌<◌, List, length, Option}
use Rattle.std.proofs.lemmas.List.Elements.{All-weaker}
use Rattle.stage_graph.specs.declared.stage.Stage.{Stage}
use Rattle.stage_graph.specs.Plain.{feeds_of, IsLive}
use Rattle.stage_graph.specs.Sound.{IsSoundStage}
use Rattle.stage_graph.proofs.Placing.{place_from_live}
use Rattle.stage_ops.specs.Among.{IsSoundAmong}

pub sound_among : (places : List (Option Stage)) (place : ℕ) (stage : Stage) → IsSoundStage places place stage → IsSoundAmong (length places) stage
sound_among places place stage sound = record {
  lawful = sound.lawful;
  feeds = All-weaker (IsLive places) (λ feed. feed < length places) (λ feed live. place_from_live places feed live) (feeds_of stage) sound.live_feeds;
}
