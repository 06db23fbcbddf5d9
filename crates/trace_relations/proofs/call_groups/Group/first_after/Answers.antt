use Rattle.std.proofs.Common.{◌≡◌, ℕ, Bool, sym, subst, rules}
use Rattle.std.specs.Prelude.{not}
use Rattle.std.specs.List.Sorted.{IsNonDecreasingBy}
use Rattle.std.proofs.lemmas.Bool.{not-false, not-true}
use Rattle.std.proofs.lemmas.List.Sorted.{IsPartitionPoint-from_clause}
use Rattle.trace_relations.specs.Ancestry.{start_at}
use Rattle.trace_relations.specs.GroupTakes.{IsFirstAfter, starts_after}
use Rattle.trace_relations.proofs.Taking.{starts_partitioned}
use Rattle.trace_relations.proofs.call_groups.Group.first_after.Goals as goal

pub returns : goal.returns
returns c = λ rise.
    let test : ℕ → Bool = λ call. not (starts_after c.args.intervals.now c.args.end call) in
    let same : c.deref.result.now ≡ c.args.self.now.calls.items = search rules in
    let parted = starts_partitioned c.args.intervals.now c.args.end c.deref.result.now (subst (IsNonDecreasingBy (start_at c.args.intervals.now)) (sym same) rise) in
    let point = IsPartitionPoint-from_clause test c.deref.result.now c.partition_point.result c.partition_point.ensures.partitioned parted (λ a r q called. search rules) in
    subst (λ calls. IsFirstAfter c.args.intervals.now c.args.end calls c.partition_point.result) same (λ k d from until. not-true _ (point.0 k d from until), λ k d from until. not-false _ (point.1 k d from until))
