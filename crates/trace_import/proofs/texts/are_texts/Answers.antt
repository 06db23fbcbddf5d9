use Rattle.std.proofs.Common.{◌∙◌, All, arith, subst}
use Rattle.std.proofs.lemmas.List.{take_all}
use Rattle.std.proofs.lemmas.List.Elements.{All-more}
use Rattle.std.specs.Str.{IsUtf8}
use Rattle.trace_import.proofs.texts.are_texts.Goals as goal

pub loop-text-preserved : goal.loop-text-preserved
loop-text-preserved c =
    All-more IsUtf8 c.args.texts.now c.loop-text.text-index c.text-item.result c.loop-text-test.true c.loop-text.invariant (subst IsUtf8 (c.as_str.ensures ∙ c.text-item.is) c.as_str.utf8)

pub returns : goal.returns
returns c = subst (All IsUtf8) (take_all c.loop-text.text-index c.args.texts.now (omega (arith, c.loop-text-test.false))) c.loop-text.invariant
