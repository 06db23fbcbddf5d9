use Rattle.std.proofs.Common.{◌∙◌, ap, map}
use Rattle.trace_relations.specs.Relations.{plain}
use Rattle.trace_stages.specs.Failures.{failures_by}
use Rattle.trace_stages.specs.Known.{plain_known}
use Rattle.trace_stages.specs.Naming.{imported, plain_stages}
use Rattle.trace_stages.specs.Order.{ordered}
use Rattle.trace_stages.specs.Outcomes.{failing}
use Rattle.trace_stages.specs.Scene.{plain_scene}
use Rattle.trace_stages.specs.Visits.{visits}
use Rattle.trace_stages.proofs.Recorded.{recorded_as}
use Rattle.trace_stages.proofs.stages.stages_of.Goals as goal

pub visits_of-requires : goal.visits_of-requires
visits_of-requires c = rw (c.deref-3.ensures.value, c.deref-4.ensures.value, c.deref-5.ensures.value) (rw (c.deref.ensures.value, c.deref-2.ensures.value) at c.in_ok-children.ensures)

pub known_of-requires : goal.known_of-requires
known_of-requires c = rw (c.deref.ensures.value, c.deref-2.ensures.value) at c.in_ok-children.ensures

pub returns : goal.returns
returns c = (
  c.in_ok-known.ensures.0,
  (
    c.in_ok-known.ensures.1.0,
    recorded_as c.args.spans.now (plain c.args.relations.now) c.args.as_told c.in_ok-known.ensures.0 (plain_known c.in_ok-known.known) c.in_ok-visits.visits.items (failing c.in_ok-failures.failures) (plain_scene c.in_ok-scene.scene) c.in_ok-ids.ids.items (plain_stages c.in_ok-stages.stages.items)
        c.in_ok-known.ensures.1.1
        (c.in_ok-visits.ensures ∙ ap (λ those. visits those c.deref-4.result.now) c.deref-3.ensures.value ∙ ap (λ those. visits c.args.relations.now.parents.items those) c.deref-4.ensures.value)
        (λ q. c.in_ok-failures.ensures q ∙ ap (λ those. failures_by (plain_known c.in_ok-known.known) those q) c.deref-6.ensures.value)
        c.in_ok-scene.ensures
        (c.in_ok-ids.ensures ∙ ap (λ those. ordered (plain_scene c.in_ok-scene.scene) those) c.deref-7.ensures.value)
        (c.in_ok-stages.ensures ∙ ap (λ those. map (imported (plain_scene c.in_ok-scene.scene)) those) c.deref-8.ensures.value),
  ),
)
