use Rattle.std.proofs.Common.{List, ℕ, ◌++◌, ◌∷◌, [], ◌∙◌, ap, codes}
use Rattle.json.specs.Token.{key, string}
use Rattle.recording.specs.WrittenStages.{mode_text}
use Rattle.recording_text.specs.Named.{specs_of}
use Rattle.recording_text.proofs.Pushing.{recording_pushed}
use Rattle.recording_text.proofs.report.push_recording.Goals as goal

pub returns : goal.returns
returns g c =
    recording_pushed c.token-4.result c.args.graph.now.mode (specs_of c.args.graph.now) c.args.line.now c.token.new.self c.push_count.new.line c.push_text.new.line c.key.new.self c.token-2.new.self c.push_stages.new.line c.token-3.new.self c.token-4.new.self
    c.in_ok-token.ensures c.in_ok-push_count.ensures
    (c.in_ok-push_text.ensures ∙ ap (λ (text : List ℕ). c.push_count.new.line ++ key (codes "wrap") ∷ string text ∷ []) (c.mode_text.ensures ∙ ap mode_text c.mode.ensures))
    c.in_ok-key.ensures c.in_ok-token-2.ensures c.in_ok-push_stages.ensures c.in_ok-token-3.ensures c.token-4.ensures
