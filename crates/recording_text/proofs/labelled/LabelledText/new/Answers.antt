use Rattle.std.proofs.Common.{false, None, ◌∙◌, ap, append-nil, sym}
use Rattle.recording_text.specs.Labels.{begun, labelled_head, plain_head}
use Rattle.recording_text.proofs.Begun.{with_stages}
use Rattle.recording_text.proofs.labelled.LabelledText.new.Goals as goal

pub returns : goal.returns
unfolding begun
returns c = ap (with_stages false) (c.in_ok-bytes.ensures ∙ sym (append-nil (labelled_head None (plain_head c.args.head))))
