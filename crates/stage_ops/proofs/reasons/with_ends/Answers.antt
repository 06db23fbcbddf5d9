use Rattle.std.proofs.Common.{Some, sym, ap, ◌∙◌, arith}
use Rattle.stage_ops.specs.declared.reason.Cause.TheVariants.{Ended}
use Rattle.stage_ops.specs.declared.reason.Reason.{Reason}
use Rattle.stage_ops.specs.declared.reasons.Explained.{Explained}
use Rattle.stage_ops.specs.declared.state.Done.{Done}
use Rattle.stage_ops.specs.Ended.{set_by}
use Rattle.stage_ops.specs.Reasons.{at_once, explained, explained_moment}
use Rattle.stage_ops.specs.Waiting.{sooner_of}
use Rattle.stage_ops.proofs.ReasonsLemmas.{candidates_more}
use Rattle.stage_ops.proofs.reasons.with_ends.Goals as goal

pub loop-end-preserved : goal.loop-end-preserved
loop-end-preserved c = record {
  first =
      let ends = c.as_slice-end-items.result.now in
      let end = c.end-item.result in
      ap (λ (x : Explained). Some x) c.sooner.ensures
      ∙ ap (λ (done : Done). Some (sooner_of explained_moment c.loop-end.first (explained c.at_once.result done))) c.set_by.ensures
      ∙ ap (λ (reason : Reason). Some (sooner_of explained_moment c.loop-end.first (explained reason (set_by end)))) c.at_once.ensures
      ∙ ap (λ index. Some (sooner_of explained_moment c.loop-end.first (explained (at_once (Ended index)) (set_by end)))) c.loop-end.invariant.index
      ∙ ap (λ first. Some (sooner_of explained_moment first (explained (at_once (Ended c.loop-end.end-index)) (set_by end)))) c.loop-end.invariant.first
      ∙ sym (candidates_more c.args.completion c.args.reason.now ends c.loop-end.end-index c.loop-end-test.true end c.end-item.is);
  index = omega arith;
}
