use Rattle.std.proofs.Common.{Option, subst}
use Rattle.text_io.specs.Sink.{AppendsPrefix}
use Rattle.stage_graph.specs.declared.stage.Stage.{Stage}
use Rattle.recording_text.specs.Texts.{place_text}
use Rattle.recording_text.proofs.Lines.{on_err}
use Rattle.recording_text.proofs.writing.write_place.Goals as goal

pub returns-in_err-write_stage-in-Some-clause-err : goal.returns-in_err-write_stage-in-Some-clause-err
returns-in_err-write_stage-in-Some-clause-err g c =
    on_err _ (subst (λ (here : Option Stage). AppendsPrefix (g.S.Sink.held c.args.sink.now) (g.S.Sink.held c.write_stage.new.sink) (place_text c.args.graph.now.places c.args.later here))
    c.in-Some.ensures.stage c.in_err-write_stage-in-Some.ensures.err)
