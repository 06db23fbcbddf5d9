use Rattle.std.proofs.Common.{◌≡◌, subst, arith}
use Rattle.fleet_summary.specs.GroupCounters.{in_traces}
use Rattle.fleet_summary.specs.Groups.{IsGroups}
use Rattle.fleet_summary.specs.Histogram.{capped}
use Rattle.fleet_summary.proofs.GroupsAdded.{IsFactsPart-none}
use Rattle.fleet_summary.proofs.groups.Groups.add_facts.Goals as goal

pub loop-group-init : goal.loop-group-init
loop-group-init c =
    let own : IsGroups c.args.self.now = subst IsGroups c.self.view_is c.self.invariant in
    record { part = IsFactsPart-none c.args.time c.args.facts.now c.args.self.now own; groups = own }

pub add-requires : goal.add-requires
add-requires c = let one : c.in_ok-counts.counts.traces ≡ capped 1 = c.in_ok-counts.ensures in_traces in omega arith
