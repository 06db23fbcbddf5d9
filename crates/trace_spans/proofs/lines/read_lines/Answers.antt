use Rattle.std.proofs.Common.{Some, None, Result, false, lit<, sym, ap, subst, ◌∙◌}
use Rattle.std.proofs.lemmas.Result.{err_from_is_err_and}
use Rattle.std.proofs.lemmas.Str.Pattern.{split_once_first, split_parts}
use Rattle.trace_spans.specs.declared.fault.Fault.{Fault}
use Rattle.trace_spans.specs.declared.told.Told.{Told}
use Rattle.trace_spans.specs.declared.lines.Reading.TheVariants.{Spans}
use Rattle.trace_spans.specs.Reads.{IsRead}
use Rattle.trace_spans.specs.Texts.{lines_of, texts_of_lines}
use Rattle.trace_spans.proofs.Texts.{from_nothing}
use Rattle.trace_spans.proofs.Turns.{blank_turn, cut, last_turn, left_utf8, read_turn, refused_turn, rest_of}
use Rattle.trace_spans.proofs.lines.read_lines.Goals as goal

pub loop-line-init : goal.loop-line-init
loop-line-init c = (
  sym (from_nothing (texts_of_lines false (lines_of c.args.text.now))) ∙ ap (λ spans. rest_of false (Spans spans) c.args.text.now) (sym c.new.ensures),
  c.utf8.text,
  c.utf8.text,
)

pub returns-in_err-reading : goal.returns-in_err-reading
returns-in_err-reading c =
    let t = split_once_first 10 c.loop-line.rest.now (Some (c.in-Some.line, c.in-Some.others)) c.in-Some.ensures.cases (lit< tt) in
    let p = err_from_is_err_and c.from_residual.result c.from_residual.ensures.1 in
    rw (p.1, p.2) (refused_turn _ c.loop-line.some c.loop-line.reading c.loop-line.rest.now c.in-Some.line.now c.in-Some.others.now _ c.loop-line.invariant.0 (cut c.loop-line.rest.now c.in-Some.line.now c.in-Some.others.now t.0 t.1 t.2) (sym c.if-not-is_blank.ensures) c.in_err-reading.ensures)

pub loop-line-preserved-then-not-is_blank : goal.loop-line-preserved-then-not-is_blank
loop-line-preserved-then-not-is_blank c =
    let t = split_once_first 10 c.loop-line.rest.now (Some (c.in-Some.line, c.in-Some.others)) c.in-Some.ensures.cases (lit< tt) in
    let parts = split_parts 10 c.loop-line.rest.now (Some (c.in-Some.line, c.in-Some.others)) c.in-Some.ensures.cases (lit< tt) in
    let text = left_utf8 c.loop-line.rest.now c.in-Some.line.now c.in-Some.others.now c.loop-line.invariant.1 parts.0 in
    (read_turn _ c.loop-line.some c.loop-line.reading c.in_ok-reading.reading c.loop-line.rest.now c.in-Some.line.now c.in-Some.others.now c.loop-line.invariant.0 (cut c.loop-line.rest.now c.in-Some.line.now c.in-Some.others.now t.0 t.1 t.2) (sym c.if-not-is_blank.ensures) c.in_ok-reading.ensures, text, text)

pub loop-line-preserved : goal.loop-line-preserved
loop-line-preserved c =
    let t = split_once_first 10 c.loop-line.rest.now (Some (c.in-Some.line, c.in-Some.others)) c.in-Some.ensures.cases (lit< tt) in
    let parts = split_parts 10 c.loop-line.rest.now (Some (c.in-Some.line, c.in-Some.others)) c.in-Some.ensures.cases (lit< tt) in
    let text = left_utf8 c.loop-line.rest.now c.in-Some.line.now c.in-Some.others.now c.loop-line.invariant.1 parts.0 in
    (blank_turn _ c.loop-line.some c.loop-line.reading c.loop-line.rest.now c.in-Some.line.now c.in-Some.others.now c.loop-line.invariant.0 (cut c.loop-line.rest.now c.in-Some.line.now c.in-Some.others.now t.0 t.1 t.2) (sym c.if-not-is_blank.ensures), text, text)

pub returns : goal.returns
returns c =
    let none = split_once_first 10 c.loop-line.rest.now None c.in_default.ensures.cases (lit< tt) in
    subst (λ (m : Result Told Fault). IsRead c.read_last.result m) (sym (last_turn _ c.loop-line.some c.loop-line.reading c.loop-line.rest.now c.loop-line.invariant.0 none)) c.read_last.ensures
