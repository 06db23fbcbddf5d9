use Rattle.std.proofs.Common.{◌≡◌, ◌<◌, ◌∙◌, ◌∷◌, ◌++◌, [], List, Option, Some, length, ap, sym, arith}
use Rattle.std.specs.Prelude.{slice_get}
use Rattle.std.proofs.lemmas.Option.{slice_get-get_or}
use Rattle.fleet_summary.specs.declared.facts.GroupFacts.{GroupFacts}
use Rattle.span_groups.specs.declared.grouping.Counted.{Counted}
use Rattle.span_groups.specs.declared.grouping.Group.{Group}
use Rattle.fleet_facts.specs.GroupFacts.{group_facts}
use Rattle.fleet_facts.proofs.Gathering.{all_first, none_first, one_more}
use Rattle.fleet_facts.proofs.group_facts.all_group_facts.Goals as goal

pub loop-number-init : goal.loop-number-init
loop-number-init g c =
    let reply = c.args.reply.now in
    record {
      facts = none_first c.args.version.now.graph c.args.grouping.now reply.start.target reply.time c.in_ok-facts.facts.items c.in_ok-facts.ensures.items;
      room = c.in_ok-room.ensures;
    }

pub loop-number-preserved : goal.loop-number-preserved
loop-number-preserved g c =
    let graph = c.args.version.now.graph in
    let grouping = c.args.grouping.now in
    let reply = c.args.reply.now in
    let groups = c.as_slice-groups.result.now in
    let number = c.loop-number.number in
    let group = c.index-groups-number.result in
    let within : number < length groups = c.loop-number-test.true in
    let here : slice_get grouping.groups.items number ≡ Some group =
    ap (λ (those : List Group). slice_get those number) (sym c.as_slice-groups.ensures.value)
    ∙ slice_get-get_or groups number group within
    ∙ ap (λ (one : Group). Some one) (sym c.index-groups-number.is) in
    record {
      facts = one_more graph grouping reply.start.target reply.time number c.loop-number.facts.items c.push.new.self.items group c.loop-number.invariant.facts here
          (c.in_ok-push.ensures.items
          ∙ ap (λ (made : GroupFacts). c.loop-number.facts.items ++ made ∷ []) c.in_ok-found.ensures.facts
          ∙ ap (λ (stages : List (Option Counted)). c.loop-number.facts.items ++ group_facts graph stages reply.start.target reply.time number group ∷ []) c.as_slice-stages.ensures.value);
      room = c.in_ok-found.ensures.room;
    }

pub returns : goal.returns
returns g c =
    let reply = c.args.reply.now in
    let grouping = c.args.grouping.now in
    let all : c.loop-number.number ≡ length grouping.groups.items =
    omega (arith, c.loop-number-test.false, c.loop-number.auto.number-end, ap length c.as_slice-groups.ensures.value) in
    all_first c.args.version.now.graph grouping reply.start.target reply.time c.loop-number.number c.loop-number.facts.items c.loop-number.invariant.facts all
