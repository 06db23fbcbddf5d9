use Rattle.std.proofs.Common.{arith}
use Rattle.std.specs.Prelude.{string_bytes}
use Rattle.trace_relations.proofs.Keying.{target_more, target_short}
use Rattle.trace_relations.proofs.calls.push_target.Goals as goal

pub loop-aim-preserved : goal.loop-aim-preserved
loop-aim-preserved c = record {
  texts = target_more c.args.target.now c.loop-aim.aim-index c.aim-item.result (string_bytes c.args.key.now) (string_bytes c.loop-aim.key) (string_bytes c.push_text.new.key) (string_bytes c.push_text-in-loop-aim.new.key) c.attribute_text.result.now c.as_str.result.now (omega arith) c.aim-item.is c.attribute_text.ensures c.as_str.ensures
      c.loop-aim.invariant.texts c.in_ok-push_text.ensures.text c.in_ok-push_text-2.ensures.text;
  short = target_short c.args.target.now c.loop-aim.aim-index c.aim-item.result c.attribute_text.result.now c.as_str.result.now (omega arith) c.aim-item.is c.attribute_text.ensures c.as_str.ensures c.loop-aim.invariant.short c.in_ok-push_text.ensures.short c.in_ok-push_text-2.ensures.short;
}
