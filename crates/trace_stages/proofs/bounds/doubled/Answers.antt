use Rattle.std.proofs.Common.{◌≡◌, ◌+◌, ◌∙◌, ap, arith, length}
use Rattle.trace_relations.specs.Relations.{plain}
use Rattle.trace_stages.specs.BoundLines.{line_of_two}
use Rattle.trace_stages.proofs.Lining.{all_of_two, got_pushed}
use Rattle.trace_stages.proofs.bounds.doubled.Goals as goal

pub loop-place-preserved : goal.loop-place-preserved
loop-place-preserved c =
    let count : length c.loop-place.more.items ≡ c.loop-place.place = omega (arith, c.loop-place.more.ok.0) in (
      c.in_ok-push.ensures.len ∙ ap (λ n. n + 1) c.loop-place.invariant.0,
      got_pushed c.loop-place.more.items c.push.new.self.items c.line_of_two.result (line_of_two (plain c.args.relations.now) c.args.lines.now) c.loop-place.place count c.loop-place.invariant.1 c.line_of_two.ensures c.in_ok-push.ensures.items,
    )

pub returns : goal.returns
returns c =
    let count : length c.loop-place.more.items ≡ c.loop-place.place = omega (arith, c.loop-place.more.ok.0) in
    let all : c.loop-place.place ≡ length c.args.lines.now = omega arith in
    all_of_two (plain c.args.relations.now) c.args.lines.now c.loop-place.more.items c.loop-place.place count all c.loop-place.invariant.1
