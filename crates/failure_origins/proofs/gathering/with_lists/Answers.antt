use Rattle.std.proofs.Common.{◌≡◌, ◌∙◌, ◌<◌, ℕ, Bool, true, false, length, sym, arith}
use Rattle.failure_origins.specs.Lists.{list_at}
use Rattle.failure_origins.specs.Origins.{comes_from}
use Rattle.failure_origins.proofs.Telling.{gathered_more, gathered_same, left_on, taken_is, taken_one}
use Rattle.failure_origins.proofs.gathering.with_lists.Goals as goal
use Rattle.failure_origins.proofs.gathering.with_lists.Goals.{then-comes_from+in_ok-push, else-comes_from}

pub loop-origin-preserved : goal.loop-origin-preserved
loop-origin-preserved c =
    let inv = c.loop-origin.invariant in
    let origin = c.loop-origin.origin in
    let reached = c.args.reached.items in
    let handled = c.args.handled.items in
    let test : ℕ → Bool = λ place. comes_from c.args.origins.now place place in
    let inside : origin < length c.loop-origin.reached.items = omega (arith, c.loop-origin-test.true, c.requires.few, c.requires.reached, inv.reached.long) in
    let inside_too : origin < length c.loop-origin.handled.items = omega (arith, c.loop-origin-test.true, c.requires.few, c.requires.handled, inv.handled.long) in
    elim c.if-comes_from.branch [
      | then-comes_from+in_ok-push w ↦
          let passes : comes_from c.args.origins.now origin origin ≡ true = sym c.comes_from.ensures ∙ w.if-comes_from.true in
          let reaches : w.taken-reaches.result ≡ list_at reached origin =
          taken_is origin reached c.loop-origin.reached.items w.index_mut.result.now w.taken-reaches.result inv.reached inside w.index_mut.ensures.value w.taken-reaches.ensures in
          let handles : w.taken-handled_by.result ≡ list_at handled origin =
          taken_is origin handled c.loop-origin.handled.items w.index_mut-then-comes_from.result.now w.taken-handled_by.result inv.handled inside_too w.index_mut-then-comes_from.ensures.value w.taken-handled_by.ensures in
          record {
            found = rw (w.found-is, w.in_ok-push.ensures.items) (gathered_more reached handled test origin c.loop-origin.found.items w.taken-reaches.result w.taken-handled_by.result inv.found passes reaches handles);
            reached = rw w.reached-is (taken_one origin reached c.loop-origin.reached.items w.taken-reaches.new.places inv.reached);
            handled = rw w.handled-is (taken_one origin handled c.loop-origin.handled.items w.taken-handled_by.new.places inv.handled);
          }
      | else-comes_from w ↦
          let fails : comes_from c.args.origins.now origin origin ≡ false = sym c.comes_from.ensures ∙ w.if-comes_from.false in
          record {
            found = rw w.found-is (gathered_same reached handled test origin c.loop-origin.found.items inv.found fails);
            reached = rw w.reached-is (left_on origin reached c.loop-origin.reached.items inv.reached);
            handled = rw w.handled-is (left_on origin handled c.loop-origin.handled.items inv.handled);
          }
    ]
