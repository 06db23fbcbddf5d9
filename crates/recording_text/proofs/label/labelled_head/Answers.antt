use Rattle.std.proofs.Common.{◌∙◌, ap, map}
use Rattle.json.specs.Print.{print}
use Rattle.recording_text.specs.Labels.{plain_group, plain_label}
use Rattle.recording_text.proofs.Pushing.{head_pushed}
use Rattle.recording_text.proofs.label.labelled_head.Goals as goal

pub returns : goal.returns
returns c =
    c.into_bytes.ensures
    ∙ ap print
    (head_pushed (map plain_label c.args.head.labels.now) (plain_group c.args.head.group)
    c.in_ok-line.line c.token.new.self c.push_count.new.line c.push_labels.new.line c.push_group.new.line c.key.new.self c.token-2.new.self
    c.in_ok-line.ensures c.in_ok-token.ensures c.in_ok-push_count.ensures c.in_ok-push_labels.ensures c.in_ok-push_group.ensures c.in_ok-key.ensures c.in_ok-token-2.ensures)
