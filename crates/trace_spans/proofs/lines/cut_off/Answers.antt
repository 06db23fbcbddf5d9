use Rattle.std.proofs.Common.{sym, ap, subst, ◌∙◌}
use Rattle.std.proofs.lemmas.Bool.{false≢true}
use Rattle.trace_spans.specs.declared.fault.Fault.{Fault}
use Rattle.trace_spans.specs.Lines.{told_after}
use Rattle.trace_spans.specs.Members.{then_on}
use Rattle.trace_spans.specs.Reads.{IsFault}
use Rattle.trace_spans.specs.Texts.{json_of, last_text}
use Rattle.trace_spans.proofs.Texts.{is_itself, last_cut, last_unread}
use Rattle.trace_spans.proofs.lines.cut_off.Goals as goal

pub returns-then-not-some_before : goal.returns-then-not-some_before
returns-then-not-some_before c = λ line full h.
    last_unread c.args.fault c.args.some_before line (told_after c.args.so_far) full h (λ same. absurd (false≢true (sym c.if-not-some_before.true ∙ same)))

pub returns-in-Json : goal.returns-in-Json
returns-in-Json c = λ line full h.
    is_itself c.told.result _
    (ap (λ some. then_on (last_text some line) (told_after c.args.so_far)) c.if-not-some_before.false
    ∙ last_cut line (told_after c.args.so_far) full (subst (λ (f : Fault). IsFault f (json_of line)) c.in-Json.is h)
    ∙ sym c.told.ensures)

pub returns-in_default : goal.returns-in_default
returns-in_default c = λ line full h.
    last_unread c.args.fault c.args.some_before line (told_after c.args.so_far) full h (λ same. c.in_default.not-Json)
