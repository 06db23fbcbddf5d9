use Rattle.std.proofs.Common.{codes}
use Rattle.recording_text.specs.Json.{recording_json}
use Rattle.recording_text.specs.Named.{specs_of}
use Rattle.recording_text.proofs.Pushing.{named_pushed}
use Rattle.recording_text.proofs.report.push_named_recording.Goals as goal

pub returns : goal.returns
returns g c =
    named_pushed c.push_recording.result (codes "recording") (recording_json c.args.graph.now.mode (specs_of c.args.graph.now)) c.args.line.now c.key.new.self c.push_recording.new.line
    c.in_ok-key.ensures c.push_recording.ensures
