use Rattle.std.proofs.Common.{◌≡◌, ◌++◌, ◌∙◌, ℕ, ap, append-nil, arith, length, sym}
use Rattle.std.specs.List.{flat_map, range_with_len}
use Rattle.reply_rescue.specs.Changes.{longer_at}
use Rattle.reply_rescue.proofs.Gathering.{index_more}
use Rattle.reply_rescue.proofs.changes.push_longer_ends.Goals as goal

pub loop-index-init : goal.loop-index-init
loop-index-init c = sym (append-nil c.args.changes.now.items)

pub loop-index-preserved : goal.loop-index-preserved
loop-index-preserved c =
    index_more (longer_at c.args.ends.now) c.args.changes.now.items c.loop-index.changes.items _ c.loop-index.index c.loop-index.invariant c.in_ok-push_longer_end.ensures

pub returns : goal.returns
returns c =
    let all : c.loop-index.index ≡ length c.args.ends.now = omega (arith, c.loop-index-test.false, c.loop-index.auto.index-end) in
    c.loop-index.invariant ∙ ap (λ (count : ℕ). c.args.changes.now.items ++ flat_map (longer_at c.args.ends.now) (range_with_len 0 count)) all
