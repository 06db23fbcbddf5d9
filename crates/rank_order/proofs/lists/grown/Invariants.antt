use Rattle.std.proofs.Common.{◌≡◌, ℕ, length, get_or}
use Rattle.rank_order.proofs.lists.grown.Given as goal

abbrev pub invariant-loop-place : goal.invariant-loop-place
invariant-loop-place g l = record {
  long : length (g.K.Keeps.items l.longer) ≡ l._place;
  each : (place : ℕ) → get_or (g.K.Keeps.items l.longer) place l.item ≡ get_or (g.K.Keeps.items l.list) place l.item;
}
