use Rattle.std.proofs.Common.{◌≡◌, ◌-◌, ◌^◌, min, take}
use Rattle.std.specs.Prelude.{sum_by}
use Rattle.change_words.specs.Changes.{edit_count}
use Rattle.change_words.proofs.making.edit_total.Given as goal

-- the edits so far
abbrev pub invariant-loop-change : goal.invariant-loop-change
invariant-loop-change l = l.total ≡ min (sum_by edit_count (take l.change-index l.changes)) (2 ^ 64 - 1)
