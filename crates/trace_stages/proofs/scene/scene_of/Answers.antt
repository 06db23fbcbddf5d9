use Rattle.std.proofs.Common.{◌∙◌, ap, map}
use Rattle.trace_stages.specs.Known.{plain_known}
use Rattle.trace_stages.specs.Outcomes.{failing, plain_outcomes}
use Rattle.trace_stages.specs.PlainJoins.{plain_joins}
use Rattle.trace_stages.specs.Scene.{all_entry_outcomes, all_outcomes, whole_sight}
use Rattle.trace_stages.proofs.Tables.{scene_as}
use Rattle.trace_stages.specs.Joins.{plain_joined}
use Rattle.trace_stages.proofs.scene.scene_of.Goals as goal

pub returns : goal.returns
returns c = scene_as (plain_known c.args.known) (failing c.args.failures) (plain_joins c.in_ok-handed.handed.items) (plain_outcomes c.in_ok-outcomes.outcomes.items) (map plain_joined c.in_ok-entries.entries.items) (plain_outcomes c.in_ok-entry_outcomes.entry_outcomes.items)
    c.in_ok-handed.ensures
    (c.in_ok-outcomes.ensures ∙ ap (λ those. all_outcomes (plain_known c.args.known) (failing c.args.failures) (plain_joins those)) c.deref.ensures.value)
    c.in_ok-entries.ensures
    (c.in_ok-entry_outcomes.ensures
    ∙ ap (λ sight. all_entry_outcomes sight (map plain_joined c.deref-3.result.now)) (c.whole_sight-sight.ensures ∙ ap (λ those. whole_sight (plain_known c.args.known) (failing c.args.failures) (plain_outcomes those)) c.deref-2.ensures.value)
    ∙ ap (λ those. all_entry_outcomes (whole_sight (plain_known c.args.known) (failing c.args.failures) (plain_outcomes c.in_ok-outcomes.outcomes.items)) (map plain_joined those)) c.deref-3.ensures.value)
