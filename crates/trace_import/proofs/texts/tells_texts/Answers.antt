use Rattle.std.proofs.Common.{◌∙◌, All, List, ap, arith, get_or, length, subst}
use Rattle.std.proofs.lemmas.List.{take_all}
use Rattle.std.proofs.lemmas.List.Elements.{All-more}
use Rattle.std.specs.Str.{IsUtf8}
use Rattle.trace_spans.specs.declared.span.Span.{Span}
use Rattle.trace_import.specs.Texts.{HasTexts}
use Rattle.trace_import.proofs.texts.tells_texts.Goals as goal

pub loop-span-preserved : goal.loop-span-preserved
loop-span-preserved c =
    let place = c.loop-span.span-index in
    let span = c.span-item.result in
    All-more HasTexts c.args.trace.now.spans place span (omega (arith, c.loop-span-test.true, ap length c.as_slice-span-items.ensures)) c.loop-span.invariant
    (subst HasTexts (c.span-item.is ∙ ap (λ (spans : List Span). get_or spans place span) c.as_slice-span-items.ensures) c.has_texts.ensures)

pub returns : goal.returns
returns c = record {
  id = subst IsUtf8 c.as_str.ensures c.as_str.utf8;
  spans = subst (All HasTexts) (take_all c.loop-span.span-index c.args.trace.now.spans (omega (arith, c.loop-span-test.false, ap length c.as_slice-span-items.ensures))) c.loop-span.invariant;
}
