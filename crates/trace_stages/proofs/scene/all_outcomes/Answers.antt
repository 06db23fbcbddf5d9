use Rattle.std.proofs.Common.{◌∙◌, ◌++◌, ap}
use Rattle.trace_stages.specs.EndOutcomes.{own_sight}
use Rattle.trace_stages.specs.Known.{had_at, plain_hads, plain_known}
use Rattle.trace_stages.specs.Outcomes.{failing, join_outcomes}
use Rattle.trace_stages.specs.PlainJoins.{plain_joins}
use Rattle.trace_stages.specs.Scene.{span_outcomes, handed_join}
use Rattle.trace_stages.proofs.Tables.{table_more}
use Rattle.trace_stages.proofs.scene.all_outcomes.Goals as goal

pub loop-place-preserved : goal.loop-place-preserved
loop-place-preserved c = table_more (λ those. those.items) (span_outcomes (plain_known c.args.known.now) (failing c.args.failures.now) (plain_joins c.args.handed.now)) c.loop-place.all.items c.push.new.self.items c.in_ok-span_outcomes.field-0 c.loop-place.place c.loop-place.invariant
    (c.in_ok-span_outcomes.ensures
    ∙ ap (λ sight. join_outcomes sight (plain_joins c.joins_at-joins.result.now ++ handed_join c.handed_at.result.now)) c.own_sight-sight.ensures
    ∙ ap (λ joins. join_outcomes (own_sight (plain_known c.args.known.now) (failing c.args.failures.now)) (joins ++ handed_join c.handed_at.result.now)) (c.joins_at-joins.ensures ∙ ap (λ those. (had_at (plain_hads those) c.loop-place.place).joins) c.deref.ensures.value)
    ∙ ap (λ handed. join_outcomes (own_sight (plain_known c.args.known.now) (failing c.args.failures.now)) ((had_at (plain_hads c.args.known.now.holdings.items) c.loop-place.place).joins ++ handed_join handed)) c.handed_at.ensures)
    c.in_ok-push.ensures.items
