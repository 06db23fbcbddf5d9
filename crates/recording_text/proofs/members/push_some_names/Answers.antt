use Rattle.std.proofs.Common.{◌∙◌, map, sym}
use Rattle.json.specs.Json.{string}
use Rattle.recording_text.specs.Named.{name_at}
use Rattle.recording_text.proofs.Pushing.{some_mapped, some_pushed}
use Rattle.recording_text.proofs.members.push_some_names.Goals as goal

pub returns : goal.returns
returns g c =
    let name = name_at c.args.graph.now.places in
    some_pushed c.token-2.result string c.args.name.now (map name c.args.places.now) c.args.line.now c.key.new.self c.token.new.self c.push_names.new.line c.token-2.new.self
    (some_mapped name c.args.places.now (sym c.is_empty.ensures ∙ c.if-is_empty.false)) c.in_ok-key.ensures c.in_ok-token.ensures c.in_ok-push_names.ensures c.token-2.ensures
