use Rattle.std.proofs.Common.{ℕ, ◌≡◌, ◌+◌, cond, List, Some, subst}
use Rattle.std.specs.BTreeMap.{is_at}
use Rattle.std.specs.Map.{lookup}
use Rattle.std.specs.Ordering.{is_eq}
use Rattle.fleet_summary.specs.declared.group.GroupCounts.{GroupCounts}
use Rattle.fleet_summary.specs.Histogram.{capped}
use Rattle.fleet_summary.specs.GroupCounters.{group_amount}
use Rattle.fleet_summary.specs.Groups.{amount_of}
use Rattle.fleet_summary.specs.Names.{name_cmp}
use Rattle.fleet_summary.proofs.GroupsAdded.{IsGroups-put, amount_of-added}
use Rattle.fleet_summary.proofs.groups.Groups.add.Goals as goal

pub invariant_of-self-2 : goal.invariant_of-self-2
invariant_of-self-2 c =
    IsGroups-put c.taken-own.new.groups.entries c.insert.new.self.entries c.in_ok-name.name c.absorb.new.self c.taken-own.ensures.groups
    c.in_ok-insert.ensures.entries c.in_ok-insert.ensures.ordered (c.in_ok-absorb.ensures.group c.requires)

pub returns-clause-groups : goal.returns-clause-groups
returns-clause-groups c =
    IsGroups-put c.taken-own.new.groups.entries c.insert.new.self.entries c.in_ok-name.name c.absorb.new.self c.taken-own.ensures.groups
    c.in_ok-insert.ensures.entries c.in_ok-insert.ensures.ordered (c.in_ok-absorb.ensures.group c.requires)

pub returns-clause-added : goal.returns-clause-added
returns-clause-added c other counter =
    subst (λ (es : List (List ℕ × GroupCounts)). amount_of c.insert.new.self.entries other counter ≡ capped (amount_of es other counter + cond (is_eq (name_cmp other c.args.name.now)) (group_amount c.args.counts.now counter) 0)) c.self.view_is
    (amount_of-added c.self.inside.counts.entries c.taken-own.new.groups.entries c.insert.new.self.entries c.args.name.now c.taken-own.result c.absorb.new.self c.args.counts.now counter c.self.invariant
    c.taken-own.ensures.others.0
    (subst (λ (own : List ℕ). (q : List ℕ) → lookup (is_at (name_cmp q)) c.insert.new.self.entries ≡ cond (is_at (name_cmp own) q) (Some c.absorb.new.self) (lookup (is_at (name_cmp q)) c.taken-own.new.groups.entries))
    c.in_ok-name.ensures c.in_ok-insert.ensures.updates.0)
    (c.taken-own.ensures.taken counter) (c.in_ok-absorb.ensures.added counter) other)
