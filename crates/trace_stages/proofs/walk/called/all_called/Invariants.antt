use Rattle.std.proofs.Common.{◌≡◌, ℕ, ◌<◌, length, map, take, vec_len}
use Rattle.std.specs.Prelude.{filter}
use Rattle.trace_relations.specs.Relations.{plain}
use Rattle.trace_stages.specs.Called.{called_at, called_by, gave_up}
use Rattle.trace_stages.proofs.walk.called.all_called.Given as goal

-- the calls so far
abbrev pub invariant-loop-place : goal.invariant-loop-place
invariant-loop-place l =
    (vec_len l.all ≡ length l.relations.intervals.items)
    × ((span : ℕ) → span < length l.relations.intervals.items → called_at l.all.items span ≡ map (called_by (plain l.relations)) (filter (gave_up (plain l.relations) span) (take l.place-index l.place-items)))
