use Rattle.std.proofs.Common.{◌≡◌, ℕ, Global, Option, Vec, ◌+◌, ◌++◌, [], ◌∷◌, get_or, subst, sym, take, arith, rules}
use Rattle.std.specs.Prelude.{All}
use Rattle.std.proofs.lemmas.List.{take_all, take_more}
use Rattle.std.proofs.lemmas.List.Elements.{All-more}
use Rattle.trace_relations.specs.declared.call_groups.Group.{Group}
use Rattle.trace_relations.specs.GroupKeys.{IsShort, group_key}
use Rattle.trace_relations.specs.Groupings.{IsGrouping}
use Rattle.trace_relations.specs.KeptAttempts.{calls_with}
use Rattle.trace_relations.proofs.Grouped.{groups_are}
use Rattle.trace_relations.proofs.call_groups.groups_of.Goals as goal

pub loop-place-init : goal.loop-place-init
loop-place-init c = record {
  grouping = c.in_ok-grouping.ensures.grouping (group_key (calls_with c.args.calls) c.in_ok-failing.failing.items);
  short = λ k d lt. absurd (omega arith);
  count = search rules;
}

pub loop-place-preserved : goal.loop-place-preserved
loop-place-preserved c =
    let i = c.loop-place.place-index in
    let order = c.args.order.now in
    let more : take (i + 1) order ≡ take i order ++ get_or order i 0 ∷ [] = take_more order i 0 (omega arith) in
    let failing_same : c.deref.result.now ≡ c.in_ok-failing.failing.items = search rules in
    record {
      grouping = subst (λ those. IsGrouping (group_key (calls_with c.args.calls) c.in_ok-failing.failing.items) those c.add.new.self.known c.add.new.self.groups.items c.add.new.self.of_spans.items) (sym more)
          (c.in_ok-add.ensures.grouping (group_key (calls_with c.args.calls) c.in_ok-failing.failing.items) (take i order) (search rules) c.loop-place.invariant.grouping);
      short = All-more (IsShort (calls_with c.args.calls) c.in_ok-failing.failing.items) order i 0 (omega arith) c.loop-place.invariant.short (subst (λ those. IsShort (calls_with c.args.calls) those (get_or order i 0)) failing_same c.in_ok-key.ensures.short);
      count = search rules;
    }

pub returns : goal.returns
returns c =
    let i = c.loop-place.place-index in
    let order = c.args.order.now in
    let all : take i order ≡ order = take_all i order (omega arith) in
    groups_are (calls_with c.args.calls) order c.in_ok-failing.failing.items c.loop-place.grouping.known _
    (record {
      failing_are = c.in_ok-failing.ensures;
      grouping = subst (λ (those : Vec Group Global). IsGrouping (group_key (calls_with c.args.calls) c.in_ok-failing.failing.items) order c.loop-place.grouping.known those.items c.into_groups.result.of_spans.items) (sym c.into_groups.ensures.groups)
          (subst (λ (those : Vec (Option ℕ) Global). IsGrouping (group_key (calls_with c.args.calls) c.in_ok-failing.failing.items) order c.loop-place.grouping.known c.loop-place.grouping.groups.items those.items) (sym c.into_groups.ensures.of_spans)
          (subst (λ those. IsGrouping (group_key (calls_with c.args.calls) c.in_ok-failing.failing.items) those c.loop-place.grouping.known c.loop-place.grouping.groups.items c.loop-place.grouping.of_spans.items) all c.loop-place.invariant.grouping));
      long = search rules;
      short = subst (All (IsShort (calls_with c.args.calls) c.in_ok-failing.failing.items)) all c.loop-place.invariant.short;
    })
