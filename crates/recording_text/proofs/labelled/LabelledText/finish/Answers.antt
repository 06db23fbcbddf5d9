use Rattle.std.proofs.Common.{subst}
use Rattle.recording_text.specs.Labels.{Begun, IsFinished}
use Rattle.recording_text.proofs.Begun.{finishes}
use Rattle.recording_text.proofs.labelled.LabelledText.finish.Goals as goal

pub returns : goal.returns
returns c =
    subst (λ (begun : Begun). IsFinished begun c.extend_from_slice.new.self.items) c.self.view_is
    (finishes c.self.inside.bytes.items c.extend_from_slice.new.self.items c.self.inside.has_stages c.in_ok-extend_from_slice.ensures.items)
