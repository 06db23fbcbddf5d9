use Rattle.std.proofs.Common.{◌≡◌, ◌∙◌, ap, length, sym, arith}
use Rattle.trace_relations.specs.Lines.{line_at}
use Rattle.trace_relations.proofs.Hosting.{begun, found_host, gone_out, gone_to, level_at, missed_host, no_host, stayed_here}
use Rattle.trace_relations.proofs.hosts.host_above.Goals as goal
use Rattle.trace_relations.proofs.hosts.host_above.Goals.{then-start-interval_at+in-Some-after, else-start-interval_at}

pub loop-passed-init : goal.loop-passed-init
loop-passed-init c = begun c.args.intervals.now c.args.parents.now c.args.place (length c.args.levels.now) _ c.requires.all c.in-Some.ensures

pub loop-passed-preserved : goal.loop-passed-preserved
loop-passed-preserved c =
    let are = level_at c.args.intervals.now c.args.parents.now c.args.levels.now c.loop-passed.passed c.index-levels-levels.result c.requires.lines (omega arith) c.index-levels-levels.is in
    let here : c.line_at-line.result ≡ line_at c.index-levels-levels.result.items c.loop-passed.at = c.line_at-line.ensures ∙ ap (λ lines. line_at lines c.loop-passed.at) c.deref.ensures.value in
    let s = ap (λ interval. interval.start) c.interval_at-start.ensures in
    let t = ap (λ interval. interval.start) c.interval_at.ensures in
    elim c.if-start-interval_at.branch [
      | then-start-interval_at+in-Some-after w ↦
          rw w.at-is (gone_to c.args.intervals.now c.args.parents.now c.args.place (length c.args.levels.now) c.loop-passed.passed c.loop-passed.at c.interval_at-start.result.start c.interval_at.result.start w.in-Some-after.next c.line_at-line.result c.index-levels-levels.result.items
          (omega arith) are here s t w.if-start-interval_at.true w.in-Some-after.is c.loop-passed.invariant)
      | else-start-interval_at w ↦
          rw w.at-is (stayed_here c.args.intervals.now c.args.parents.now c.args.place (length c.args.levels.now) c.loop-passed.passed c.loop-passed.at c.interval_at-start.result.start c.interval_at.result.start c.line_at-line.result c.index-levels-levels.result.items
          (omega arith) are here s t w.if-start-interval_at.false c.loop-passed.invariant)
    ]

pub returns-in_default : goal.returns-in_default
returns-in_default c = sym (no_host c.args.intervals.now c.args.parents.now c.args.place (length c.args.levels.now) 0 (begun c.args.intervals.now c.args.parents.now c.args.place (length c.args.levels.now) _ c.requires.all c.in_default.ensures))

pub returns-in_default-after : goal.returns-in_default-after
returns-in_default-after c =
    let are = level_at c.args.intervals.now c.args.parents.now c.args.levels.now c.loop-passed.passed c.index-levels-levels.result c.requires.lines (omega arith) c.index-levels-levels.is in
    let here : c.line_at-line.result ≡ line_at c.index-levels-levels.result.items c.loop-passed.at = c.line_at-line.ensures ∙ ap (λ lines. line_at lines c.loop-passed.at) c.deref.ensures.value in
    gone_out c.args.intervals.now c.args.parents.now c.args.place (length c.args.levels.now) c.loop-passed.passed c.loop-passed.at c.interval_at-start.result.start c.interval_at.result.start c.line_at-line.result c.index-levels-levels.result.items
    (omega arith) are here (ap (λ interval. interval.start) c.interval_at-start.ensures) (ap (λ interval. interval.start) c.interval_at.ensures) c.if-start-interval_at.true c.in_default-after.is c.loop-passed.invariant

pub returns-then-interval_at-start : goal.returns-then-interval_at-start
returns-then-interval_at-start c =
    found_host c.args.intervals.now c.args.parents.now c.args.place (length c.args.levels.now) c.loop-passed.passed c.loop-passed.at c.interval_at-start.result.start _ (omega arith) c.loop-passed.invariant
    (ap (λ interval. interval.start) c.interval_at-start.ensures) (ap (λ interval. interval.start) c.interval_at-2.ensures) c.if-interval_at-start.true

pub returns-else-interval_at-start : goal.returns-else-interval_at-start
returns-else-interval_at-start c =
    missed_host c.args.intervals.now c.args.parents.now c.args.place (length c.args.levels.now) c.loop-passed.passed c.loop-passed.at c.interval_at-start.result.start _ (omega arith) c.loop-passed.invariant
    (ap (λ interval. interval.start) c.interval_at-start.ensures) (ap (λ interval. interval.start) c.interval_at-2.ensures) c.if-interval_at-start.false
