use Rattle.std.proofs.Common.{◌≡◌, ℕ, take}
use Rattle.std.specs.Prelude.{◌&&◌, is_some}
use Rattle.rank_order.specs.Marks.{AreMarks, is_marked}
use Rattle.time_sweep.specs.Known.{rank_in, AreRanksBy}
use Rattle.time_sweep.specs.WithStage.{is_changed}
use Rattle.time_sweep.proofs.changed.first_marks.Given as goal

-- the stages so far
abbrev pub invariant-loop-stage : goal.invariant-loop-stage
invariant-loop-stage l = record {
  marked : (order : ℕ → ℕ) → AreRanksBy order l.ranks → (place : ℕ) → is_marked order l.marks place ≡ (is_some (rank_in l.ranks place) && is_changed (take l.stage-index l.changed) place);
  marks : (order : ℕ → ℕ) → AreRanksBy order l.ranks → AreMarks order l.marks;
}
