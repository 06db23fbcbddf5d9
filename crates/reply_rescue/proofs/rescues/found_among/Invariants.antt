use Rattle.std.proofs.Common.{◌≡◌, ◌*◌, ◌≤◌, take}
use Rattle.std.specs.Prelude.{All, IsOk}
use Rattle.std.specs.List.{flat_map, sum_by}
use Rattle.reply_rescue.specs.Found.{count_in, saved_in}
use Rattle.reply_rescue.proofs.rescues.found_among.Given as goal

abbrev pub invariant-loop-one : goal.invariant-loop-one
invariant-loop-one l = record {
  count : l.count ≡ sum_by count_in (take l.one-index l.tried);
  few : l.count ≤ 64 * l.one-index;
  saved : l.saved.items ≡ flat_map saved_in (take l.one-index l.tried);
  all : All (λ one. IsOk one) (take l.one-index l.tried);
}
