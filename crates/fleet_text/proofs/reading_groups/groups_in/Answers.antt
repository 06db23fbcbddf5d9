use Rattle.std.proofs.Common.{ℕ, ◌≡◌, List, [], Err, refl, sym, subst, ap, ◌∙◌}
use Rattle.std.specs.List.{All}
use Rattle.std.specs.Map.{keys_of}
use Rattle.std.specs.declared.cmp.Ordering.TheVariants.{Less}
use Rattle.std.proofs.lemmas.Bool.{false≢true}
use Rattle.std.proofs.lemmas.List.Elements.{recursion_from_All}
use Rattle.std.proofs.lemmas.Result.{err_from_is_err_and}
use Rattle.fleet_summary.specs.declared.group.GroupCounts.{GroupCounts}
use Rattle.fleet_summary.specs.Groups.{IsGroups}
use Rattle.fleet_summary.specs.Names.{name_cmp}
use Rattle.fleet_summary.proofs.GroupsAdded.{IsGroups-none}
use Rattle.serde_json.specs.View.{view}
use Rattle.fleet_text.specs.declared.read_fault.ReadFault.{ReadFault}
use Rattle.fleet_text.specs.Back.{IsReadAs}
use Rattle.fleet_text.specs.Says.{SaysGroup}
use Rattle.fleet_text.proofs.Nexts.{group_last, group_next}
use Rattle.fleet_text.proofs.ReadLists.{AreSaid, AreSaid-all, AreSaid-more}
use Rattle.fleet_text.proofs.ReadTables.{groups-pushed}
use Rattle.fleet_text.proofs.Said.{groups_one}
use Rattle.fleet_text.proofs.reading_groups.groups_in.Goals as goal

-- all keys come before one
abbrev IsLast : List (List ℕ × GroupCounts) → List ℕ → Type 0
IsLast groups name = All (λ other. name_cmp other name ≡ Less) (keys_of groups)

pub loop-group-init : goal.loop-group-init
loop-group-init c = record {
  sound = subst IsGroups (sym c.new-groups.ensures) IsGroups-none;
  said = subst (AreSaid SaysGroup []) (sym c.new-groups.ensures) tt;
}

pub loop-group-preserved : goal.loop-group-preserved
loop-group-preserved c =
    let now = c.loop-group.groups in
    let name = c.in_ok-name.name in
    let counts = c.in_ok-name.counts in
    let last : IsLast now name = subst (λ (es : List (List ℕ × GroupCounts)). IsLast es name) c.by_name.ensures.counts (c.if-not-is_last.ensures.0 refl) in
    record {
      sound = c.add.ensures.groups;
      said =
          AreSaid-more SaysGroup c.in_ok-values.values.now now c.add.new.self c.loop-group.group-index c.group-item.result (name, counts) c.loop-group-test.true c.group-item.is c.loop-group.invariant.said c.in_ok-name.ensures.said
          (groups-pushed now c.add.new.self name counts c.loop-group.invariant.sound c.add.ensures.groups (recursion_from_All (λ other. name_cmp other name ≡ Less) (keys_of now) last) c.in_ok-name.ensures.sound c.in_ok-add.ensures.added);
    }

pub returns-in_err-name-clause-back : goal.returns-in_err-name-clause-back
returns-in_err-name-clause-back c all sound says =
    let next = group_next (view c.args.value.now) c.in_ok-values.values.now all c.loop-group.groups c.loop-group.group-index c.group-item.result c.in_ok-values.ensures sound says c.loop-group-test.true c.group-item.is c.loop-group.invariant.said in
    let p = err_from_is_err_and c.from_residual-in_err-name.result c.from_residual-in_err-name.ensures.1 in
    subst (λ r. IsReadAs {X = List (List ℕ × GroupCounts)} r all) (sym (p.1 ∙ ap (λ (fault : ReadFault). Err fault) p.2)) (c.in_err-name.ensures.back next.own next.entry.group next.said)

pub returns-then-not-is_last-clause-back : goal.returns-then-not-is_last-clause-back
returns-then-not-is_last-clause-back c all sound says =
    let now = c.loop-group.groups in
    let name = c.in_ok-name.name in
    let next = group_next (view c.args.value.now) c.in_ok-values.values.now all now c.loop-group.group-index c.group-item.result c.in_ok-values.ensures sound says c.loop-group-test.true c.group-item.is c.loop-group.invariant.said in
    let last : IsLast now name = group_last c.group-item.result now (name, c.in_ok-name.counts) next c.in_ok-name.ensures.said in
    absurd (false≢true (c.if-not-is_last.ensures.1 (subst (λ (es : List (List ℕ × GroupCounts)). IsLast es name) (sym c.by_name.ensures.counts) last)))

pub returns-clause-said : goal.returns-clause-said
returns-clause-said c = AreSaid-all SaysGroup (view c.args.value.now) c.in_ok-values.values.now c.loop-group.groups c.loop-group.group-index c.loop-group-test.false c.in_ok-values.ensures c.loop-group.invariant.said

pub returns-clause-back : goal.returns-clause-back
returns-clause-back c all sound says = groups_one (view c.args.value.now) c.loop-group.groups all (returns-clause-said c) says
