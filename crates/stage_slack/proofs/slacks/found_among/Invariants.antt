use Rattle.std.proofs.Common.{◌≡◌, take}
use Rattle.std.specs.Prelude.{All, IsOk, filter_map}
use Rattle.stage_slack.specs.Found.{slack_in}
use Rattle.stage_slack.proofs.slacks.found_among.Given as goal

abbrev pub invariant-loop-one : goal.invariant-loop-one
invariant-loop-one l = record {
  found : l.found.items ≡ filter_map (slack_in l.within) (take l.one-index l.one-items);
  all : All (λ one. IsOk one) (take l.one-index l.one-items);
}
