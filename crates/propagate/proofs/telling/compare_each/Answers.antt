use Rattle.std.proofs.Common.{◌∙◌, ◌<◌, None, ap, arith, get_or, length}
use Rattle.propagate.specs.Telling.{is_another}
use Rattle.propagate.proofs.Told.{one_compared, within_any}
use Rattle.propagate.proofs.telling.compare_each.Goals as goal

pub loop-at-preserved : goal.loop-at-preserved
loop-at-preserved g c =
    let states = c.args.states.now in
    let level = c.args.level.now in
    let at = c.loop-at.at in
    let within : at < length c.args.results.now = omega (arith, c.requires.each) in
    one_compared states level c.args.results.now at c.loop-at.changed.items _ c.is_another.result c.loop-at.invariant c.in_ok-push.ensures.items
    (c.is_another.ensures ∙ ap (is_another states (get_or level at 0)) (c.index-results-at.is ∙ within_any c.args.results.now at _ None within))
