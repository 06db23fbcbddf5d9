use Rattle.std.proofs.Common.{◌≡◌, ◌<◌, ℕ, false, get_or, length, take}
use Rattle.rank_order.specs.Lists.{is_among}
use Rattle.place_flags.proofs.flags.flags_of.Given as goal

-- those so far are flagged
abbrev pub invariant-loop-place : goal.invariant-loop-place
invariant-loop-place l = record {
  whole : length l.flags.items ≡ l.count;
  known : (place : ℕ) → place < l.count → get_or l.flags.items place false ≡ is_among place (take l.place-index l.places);
}
