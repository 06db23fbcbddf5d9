use Rattle.std.proofs.Common.{◌≡◌, ◌+◌, ◌^◌, ◌≤◌, length}
use Rattle.stage_slack.specs.Search.{below, searched}
use Rattle.stage_slack.specs.Slacks.{stays}
use Rattle.stage_slack.proofs.Searching.{IsHalved}
use Rattle.stage_slack.proofs.search.searched.Given as goal

abbrev pub invariant-halving : goal.invariant-halving
invariant-halving g l =
    let test = stays l.version.graph l.start.target l.stage in
    record {
      halved : IsHalved (below l.most test) (searched l.most test) l.ticks l.step;
      few : l.ticks + l.step ≤ 2 ^ 41;
      room : length l.changes.at.items ≡ length l.start.before.items;
    }

abbrev pub decreases-halving : goal.decreases-halving
decreases-halving g l = l.step
