use Rattle.std.proofs.Common.{◌≡◌, ◌++◌, map, take}
use Rattle.recording_text.specs.Json.{rows_tokens}
use Rattle.recording_text.specs.Labels.{label_rows, plain_label}
use Rattle.recording_text.proofs.label.push_labels.Given as goal

-- the labels so far
abbrev pub invariant-loop-label : goal.invariant-loop-label
invariant-loop-label l = l.line ≡ l.fn.line ++ rows_tokens (label_rows (map plain_label (take l.label-index l.labels)))
