use Rattle.std.proofs.Common.{◌∙◌, ap, refl}
use Rattle.std.specs.Prelude.{nat_eq}
use Rattle.std.specs.HashSet.{contains_by}
use Rattle.trace_relations.specs.Relations.{plain}
use Rattle.trace_stages.specs.TwoStages.{has_two}
use Rattle.trace_stages.specs.Visits.{children_at}
use Rattle.trace_stages.proofs.Recorded.{known_as}
use Rattle.trace_stages.proofs.stages.known_of.Goals as goal

pub returns : goal.returns
returns c = (
  c.in_ok-holdings.ensures.0,
  (
    c.in_ok-holdings.ensures.1.0,
    known_as c.args.spans.now (plain c.args.relations.now) c.args.as_told c.in_ok-holdings.ensures.0 c.in_ok-fates.fates.items (λ q. contains_by (nat_eq q) c.in_ok-with_two.with_two) c.in_ok-holdings.holdings.items (children_at c.args.children.items) c.in_ok-bounds.bounds.items _ c.in_ok-fates.ensures
        (λ q. c.in_ok-with_two.ensures q ∙ ap (λ those. has_two those c.deref-2.result.now q) c.deref.ensures.value ∙ ap (λ those. has_two c.args.relations.now.hosts.items those q) c.deref-2.ensures.value)
        c.in_ok-holdings.ensures.1.1 c.in_ok-holdings.ensures.1.2 c.requires c.in_ok-bounds.ensures refl,
  ),
)
