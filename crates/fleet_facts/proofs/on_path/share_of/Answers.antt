use Rattle.std.proofs.Common.{◌∙◌, ◌+◌, get_or, take, take_all, sym, ap}
use Rattle.std.specs.List.{list_any}
use Rattle.span_groups.specs.Grouping.{counts_to}
use Rattle.fleet_summary.specs.Histogram.{capped}
use Rattle.fleet_facts.specs.OnPath.{queued_at, queued_on, ran_at, ran_on}
use Rattle.fleet_facts.proofs.Counting.{on_more, on_same, ticks_more, ticks_same}
use Rattle.fleet_facts.proofs.on_path.share_of.Goals as goal
use Rattle.fleet_facts.proofs.on_path.share_of.Goals.{then-counts_to, else-counts_to}

pub loop-place-preserved : goal.loop-place-preserved
loop-place-preserved g c =
    let graph = c.args.version.now.graph in
    let stages = c.args.stages.now in
    let group = c.args.group in
    let path = c.args.path.now in
    let k = c.loop-place.place-index in
    let place = get_or path k 0 in
    let inv = c.loop-place.invariant in
    let within = c.loop-place-test.true in
    elim c.if-counts_to.branch [
      | then-counts_to w ↦
          (let here = sym c.counts_to.ensures ∙ w.if-counts_to.true in
          record {
            on_path = rw w.share-is (on_more stages group path k within here);
            ran = rw w.share-is
                (w.saturating_add.ensures
                ∙ ap (λ before. capped (before + w.own_ticks-own.result.ran)) inv.ran
                ∙ ap (λ own. capped (ran_on graph stages group (take k path) + own)) w.own_ticks-own.ensures.ran
                ∙ ticks_more (ran_at graph) stages group path k within here);
            queued = rw w.share-is
                (w.saturating_add-then-counts_to.ensures
                ∙ ap (λ before. capped (before + w.own_ticks-own.result.queued)) inv.queued
                ∙ ap (λ own. capped (queued_on graph stages group (take k path) + own)) w.own_ticks-own.ensures.queued
                ∙ ticks_more (queued_at graph) stages group path k within here);
          })
      | else-counts_to w ↦
          (let other = sym c.counts_to.ensures ∙ w.if-counts_to.false in
          record {
            on_path = rw w.share-is (on_same stages group path k within c.loop-place.share.is_on_path inv.on_path other);
            ran = rw w.share-is (inv.ran ∙ ticks_same (ran_at graph) stages group path k within other);
            queued = rw w.share-is (inv.queued ∙ ticks_same (queued_at graph) stages group path k within other);
          })
    ]

pub returns-clause-on_path : goal.returns-clause-on_path
returns-clause-on_path g c =
    c.loop-place.invariant.on_path ∙ ap (list_any (counts_to c.args.stages.now c.args.group)) (take_all c.loop-place.place-index c.args.path.now c.loop-place-test.false)

pub returns-clause-ran : goal.returns-clause-ran
returns-clause-ran g c =
    c.loop-place.invariant.ran ∙ ap (ran_on c.args.version.now.graph c.args.stages.now c.args.group) (take_all c.loop-place.place-index c.args.path.now c.loop-place-test.false)

pub returns-clause-queued : goal.returns-clause-queued
returns-clause-queued g c =
    c.loop-place.invariant.queued ∙ ap (queued_on c.args.version.now.graph c.args.stages.now c.args.group) (take_all c.loop-place.place-index c.args.path.now c.loop-place-test.false)
