use Rattle.std.proofs.Common.{◌≡◌, ◌∙◌, ◌||◌, ◌&&◌, ℕ, Option, Some, sym, ap}
use Rattle.std.specs.Prelude.{is_some, ◌==◌}
use Rattle.std.proofs.Math.Bool.{or-false}
use Rattle.rank_order.specs.Marks.{is_marked}
use Rattle.propagate.proofs.Outcomes.{on_ok}
use Rattle.time_sweep.specs.Known.{rank_in}
use Rattle.time_sweep.proofs.changed.mark.Goals as goal

pub returns-in-Some-clause-marked : goal.returns-in-Some-clause-marked
returns-in-Some-clause-marked c =
    let place = c.args.place in
    let found : rank_in c.args.ranks.now place ≡ Some c.in-Some.rank = sym c.in-Some.ensures in
    on_ok c.insert.result _ _
    (λ marked order are other.
    marked order other (are place c.in-Some.rank found)
    ∙ ap (λ (known : Option ℕ). is_marked order c.args.marks.now other || (is_some known && other == place)) (sym found))
    c.insert.ensures.marked

pub returns-in-Some-clause-marks : goal.returns-in-Some-clause-marks
returns-in-Some-clause-marks c =
    let found : rank_in c.args.ranks.now c.args.place ≡ Some c.in-Some.rank = sym c.in-Some.ensures in
    on_ok c.insert.result _ _ (λ marks order are. marks order (are c.args.place c.in-Some.rank found)) c.insert.ensures.marks

pub returns-in-None-clause-marked : goal.returns-in-None-clause-marked
returns-in-None-clause-marked c order are other =
    let none = sym c.in-None.ensures in
    sym (or-false (is_marked order c.args.marks.now other))
    ∙ ap (λ (known : Option ℕ). is_marked order c.args.marks.now other || (is_some known && other == c.args.place)) (sym none)
