use Rattle.std.proofs.Common.{◌∙◌, ap}
use Rattle.trace_relations.specs.Ancestry.{without_circles}
use Rattle.trace_relations.proofs.relations.parents_of.Goals as goal

pub returns : goal.returns
returns c = c.in_ok-parents.ensures ∙ ap (without_circles c.args.intervals.now) (c.deref.ensures.value ∙ c.in_ok-named.ensures)
