use Rattle.std.proofs.Common.{sym, ap, ◌∙◌}
use Rattle.trace_spans.specs.Lines.{told_after}
use Rattle.trace_spans.specs.Members.{then_on}
use Rattle.trace_spans.specs.Texts.{last_text}
use Rattle.trace_spans.proofs.Texts.{last_blank, last_missing}
use Rattle.trace_spans.proofs.lines.told_before.Goals as goal

pub returns-then-some_before : goal.returns-then-some_before
returns-then-some_before c = λ line blank.
    c.told.ensures ∙ sym (ap (λ some. then_on (last_text some line) (told_after c.args.so_far)) c.if-some_before.true ∙ last_blank line (told_after c.args.so_far) blank)

pub returns : goal.returns
returns c = λ line blank. sym (ap (λ some. then_on (last_text some line) (told_after c.args.so_far)) c.if-some_before.false ∙ last_missing line (told_after c.args.so_far) blank)
