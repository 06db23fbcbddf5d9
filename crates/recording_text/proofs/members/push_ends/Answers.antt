use Rattle.std.proofs.Common.{◌∙◌, codes, sym}
use Rattle.recording_text.specs.Json.{end_json}
use Rattle.recording_text.proofs.Pushing.{some_pushed}
use Rattle.recording_text.proofs.members.push_ends.Goals as goal

pub returns : goal.returns
returns c =
    some_pushed c.token-2.result end_json (codes "ends") c.args.ends.now c.args.line.now c.key.new.self c.token.new.self c.push_each_end.new.line c.token-2.new.self
    (sym c.is_empty.ensures ∙ c.if-is_empty.false) c.in_ok-key.ensures c.in_ok-token.ensures c.in_ok-push_each_end.ensures c.token-2.ensures
