use Rattle.std.proofs.Common.{◌∙◌, map, sym}
use Rattle.recording_text.specs.Labels.{plain_label}
use Rattle.recording_text.proofs.Pushing.{group_pushed, some_mapped}
use Rattle.recording_text.proofs.label.push_group.Goals as goal

pub returns : goal.returns
returns c =
    group_pushed c.token-2.result c.args.group.name.now (map plain_label c.args.group.labels.now) c.args.line.now c.key.new.self c.token.new.self c.push_labels.new.line c.token-2.new.self
    (some_mapped plain_label c.args.group.labels.now (sym c.is_empty.ensures ∙ c.if-is_empty.false)) c.in_ok-key.ensures c.in_ok-token.ensures c.in_ok-push_labels.ensures c.token-2.ensures
