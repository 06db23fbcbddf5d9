use Rattle.std.proofs.Common.{◌≡◌, drop, false, length}
use Rattle.text_io.specs.Sink.{AppendsBut}
use Rattle.recording_text.specs.Named.{named_among, specs_of}
use Rattle.recording_text.specs.Texts.{lines}
use Rattle.recording_text.proofs.writing.write_stages.Given as goal

pub record Writing (Appended Unfailed Ends : Type 0) : Type 0 where
  pub appended : Appended
  pub unfailed : Unfailed
  pub ends : Ends

-- the text is written but for the lines of the places that are left
abbrev pub invariant-loop-place : goal.invariant-loop-place
invariant-loop-place g l = Writing
    (AppendsBut (lines l.later (named_among l.graph.places (drop l.place l.graph.places))) (g.S.Sink.held l.fn.sink) (g.S.Sink.held l.sink) (lines false (specs_of l.graph)))
    (g.S.Sink.failures l.sink ≡ g.S.Sink.failures l.fn.sink)
    (l.place-end ≡ length l.graph.places)
