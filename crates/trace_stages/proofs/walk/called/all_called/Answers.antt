use Rattle.std.proofs.Common.{◌∙◌, arith}
use Rattle.trace_relations.specs.Relations.{plain}
use Rattle.trace_stages.specs.Called.{called_at}
use Rattle.trace_stages.proofs.Calling.{called_more}
use Rattle.trace_stages.proofs.walk.called.all_called.Goals as goal

pub loop-place-preserved : goal.loop-place-preserved
loop-place-preserved c = (
  c.in_ok-add_given_up.ensures.kept ∙ c.loop-place.invariant.0,
  λ span lt. called_more (plain c.args.relations.now) span _ c.loop-place.place-index _ (called_at c.loop-place.all.items span) (called_at c.add_given_up.new.all.items span) c.loop-place-test.true (c.loop-place.invariant.1 span lt) (c.in_ok-add_given_up.ensures.added span (omega arith)),
)
