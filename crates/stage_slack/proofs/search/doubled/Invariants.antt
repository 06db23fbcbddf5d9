use Rattle.std.proofs.Common.{◌≡◌, ◌+◌, ◌-◌, ◌^◌, ◌≤◌, length}
use Rattle.stage_slack.specs.Slacks.{stays}
use Rattle.stage_slack.proofs.Searching.{IsDoubled}
use Rattle.stage_slack.proofs.search.doubled.Given as goal

abbrev pub invariant-doubling : goal.invariant-doubling
invariant-doubling g l = record {
  doubled : IsDoubled l.most (stays l.version.graph l.start.target l.stage) l.past;
  few : l.past ≤ 2 ^ 41;
  room : length l.changes.at.items ≡ length l.start.before.items;
}

abbrev pub decreases-doubling : goal.decreases-doubling
decreases-doubling g l = l.most + l.most - l.past
