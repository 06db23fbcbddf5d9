use Rattle.std.proofs.Common.{◌≡◌, ◌<◌, ℕ, true, false, List, None, Some, length, sym, ap, ◌∙◌, subst, arith, get_or}
use Rattle.stage_graph.specs.Walk.{rank}
use Rattle.std.specs.Prelude.{is_some, map}
use Rattle.stage_ops.specs.declared.state.State.{State}
use Rattle.stage_ops.specs.States.{seen_at, state_at}
use Rattle.propagate.specs.Completions.{differ}
use Rattle.propagate.specs.Telling.{is_another}
use Rattle.rank_order.specs.Marks.{is_marked, AreMarks}
use Rattle.propagate.proofs.Preparing.{mapped_at}
use Rattle.propagate.proofs.Reading.{told_more, told_same}
use Rattle.propagate.proofs.Told.{within_any}
use Rattle.propagate.proofs.readers.mark_level.Goals as goal
use Rattle.propagate.proofs.readers.mark_level.Goals.{in-Some+in_ok-mark_readers, in_default}

pub loop-at-preserved : goal.loop-at-preserved
loop-at-preserved g c =
    let stages = c.args.graph.now.places in
    let states = c.args.states.now in
    let level = c.args.level.now in
    let i = c.loop-at.at in
    let inv = c.loop-at.invariant in
    let place = get_or level i 0 in
    let told = c.find.new.self.told.items in
    let within : i < length level = c.loop-at-test.true in
    let inside : i < length told = omega (arith, within, c.in_ok-find.ensures.long) in
    let found : get_or told i None ≡ c.index.result.now = within_any told i None c.index.result.now inside ∙ sym c.index.ensures in
    let here : is_some (get_or told i None) ≡ is_another states place (get_or c.args.results.now i None) = (c.in_ok-find.ensures.each i within).some in
    let finds : (state : ℕ → State) → c.args.results.now ≡ map (λ place. Some (state place)) level → is_some (get_or told i None) ≡ differ (seen_at (state_at states) place) (seen_at state place) = λ state same.
    here ∙ ap (is_another states place) (mapped_at state level c.args.results.now i None same within) in
    elim c.match-index.branch [
      | in-Some+in_ok-mark_readers w ↦
          (let some : is_some (get_or told i None) ≡ true = ap is_some (found ∙ w.in-Some.is) in
          record {
            marked = λ state same place.
                ap (λ (marks : List (ℕ × ℕ)). is_marked (rank stages) marks place) w.marks-is
                ∙ w.in_ok-mark_readers.ensures.marked place
                ∙ told_more stages (state_at states) state level i place (omega arith) (is_marked (rank stages) c.args.marks.now place) (is_marked (rank stages) c.loop-at.marks place)
                (inv.marked state same place) (sym (finds state same) ∙ some);
            marks = subst (λ (marks : List (ℕ × ℕ)). AreMarks (rank stages) marks) (sym w.marks-is) (w.in_ok-mark_readers.ensures.marks inv.marks);
          })
      | in_default w ↦
          (let none : is_some (get_or told i None) ≡ false = ap is_some (found ∙ w.in_default.is) in
          record {
            marked = λ state same place.
                ap (λ (marks : List (ℕ × ℕ)). is_marked (rank stages) marks place) w.marks-is
                ∙ told_same stages (state_at states) state level i place (omega arith) (is_marked (rank stages) c.args.marks.now place) (is_marked (rank stages) c.loop-at.marks place)
                (inv.marked state same place) (sym (finds state same) ∙ none);
            marks = subst (λ (marks : List (ℕ × ℕ)). AreMarks (rank stages) marks) (sym w.marks-is) inv.marks;
          })
    ]
