use Rattle.std.proofs.Common.{◌++◌, ◌∙◌, ap, arith}
use Rattle.std.specs.Prelude.{string_bytes}
use Rattle.trace_relations.specs.Keys.{measured}
use Rattle.trace_relations.proofs.Keying.{key_more, short_more}
use Rattle.trace_relations.proofs.key.push_texts.Goals as goal

pub loop-text-preserved : goal.loop-text-preserved
loop-text-preserved c = record {
  texts = key_more c.args.texts.now c.loop-text.text-index c.text-item.result (string_bytes c.args.key.now) (string_bytes c.loop-text.key) (string_bytes c.push_text.new.key) (omega arith) c.text-item.is c.loop-text.invariant.texts
      (c.in_ok-push_text.ensures.text ∙ ap (λ text. string_bytes c.loop-text.key ++ measured text) c.as_str.ensures);
  short = short_more c.args.texts.now c.loop-text.text-index c.text-item.result c.as_str.result.now (omega arith) c.text-item.is c.as_str.ensures c.loop-text.invariant.short c.in_ok-push_text.ensures.short;
}
