use Rattle.std.proofs.Common.{ℕ, List, true, ◌++◌, ◌∙◌, ap, ap₂, append_assoc, map, subst}
use Rattle.recording_text.specs.Labels.{Begun, GainsStage, Labelled, labelled_text, plain_label}
use Rattle.recording_text.specs.Texts.{line_break}
use Rattle.recording_text.proofs.Begun.{gains}
use Rattle.recording_text.proofs.labelled.LabelledText.push.Goals as goal

pub returns-clause-ok : goal.returns-clause-ok
returns-clause-ok c =
    let text = c.self.inside.bytes.items in
    let later = c.self.inside.has_stages in
    let stage : Labelled = (c.args.stage.now, map plain_label c.args.labels.now) in
    subst (λ (begun : Begun). GainsStage begun (c.extend_from_slice-2.new.self.items, true) stage) c.self.view_is
    (gains text c.extend_from_slice-2.new.self.items later stage
    (c.in_default.ensures.items
    ∙ ap₂ (λ (l more : List ℕ). l ++ more)
    (c.in_ok-extend_from_slice.ensures.items ∙ ap (λ (l : List ℕ). text ++ l) (c.as_bytes.ensures.value ∙ c.line_break.ensures))
    (c.as_slice.ensures.value ∙ c.in_ok-text.ensures)
    ∙ append_assoc text (line_break later) (labelled_text stage)))
