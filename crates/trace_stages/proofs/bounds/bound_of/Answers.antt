use Rattle.std.proofs.Common.{◌∙◌, ap, sym}
use Rattle.trace_relations.specs.Ancestry.{parent_at}
use Rattle.trace_relations.specs.Relations.{plain}
use Rattle.trace_stages.specs.Bounds.{callers_end, earlier_moment}
use Rattle.trace_stages.specs.declared.bounds.BoundLine.{BoundLine}
use Rattle.trace_stages.proofs.Bounding.{bound_below, bound_of_root}
use Rattle.trace_stages.proofs.bounds.bound_of.Goals as goal

pub returns-in-Some : goal.returns-in-Some
returns-in-Some c =
    c.earlier_moment.ensures
    ∙ ap (λ moment. earlier_moment moment c.line_at.result.bound) c.callers_end-own.ensures
    ∙ ap (λ (line : BoundLine). earlier_moment (callers_end (plain c.args.relations.now) c.args.place) line.bound) c.line_at.ensures
    ∙ sym (bound_below (plain c.args.relations.now) c.args.lines.now c.requires c.args.place c.in-Some.parent (sym (c.in-Some.ensures ∙ ap (λ those. parent_at those c.args.place) c.deref.ensures.value)))

pub returns-in-None : goal.returns-in-None
returns-in-None c =
    c.callers_end-own.ensures
    ∙ sym (bound_of_root (plain c.args.relations.now) c.args.place (sym (c.in-None.ensures ∙ ap (λ those. parent_at those c.args.place) c.deref.ensures.value)))
