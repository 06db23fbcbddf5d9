use Rattle.std.proofs.Common.{◌+◌, ◌/◌, ◌^◌, ◌≤◌, ℕ, arith, subst, sym}
use Rattle.stage_slack.specs.Search.{below, doublings, searched}
use Rattle.stage_slack.specs.Slacks.{stays}
use Rattle.stage_slack.proofs.Searching.{first_halved, halved_all, halved_more, raised_few, IsHalved}
use Rattle.stage_slack.proofs.search.searched.Goals as goal

pub halving-init : goal.halving-init
halving-init g c =
    let test = stays c.args.version.now.graph c.args.start.now.target c.args.stage.now in
    let past = c.in_ok-past.past in
    let most = c.in_ok-past.ensures.most in
    record {
      halved = subst (IsHalved (below c.args.most test) (searched c.args.most test) (past / 2)) (sym c.max-step.ensures) (first_halved (below c.args.most test) (doublings (below c.args.most test) c.args.most 0) past c.in_ok-past.ensures.power);
      few = omega (arith, most, c.max-step.ensures);
      room = c.in_ok-past.ensures.room;
    }

pub raised-requires-clause-ticks : goal.raised-requires-clause-ticks
raised-requires-clause-ticks g c κs inside = let few = c.halving.invariant.few in omega (arith, few)

pub halving-preserved : goal.halving-preserved
halving-preserved g c =
    let test = stays c.args.version.now.graph c.args.start.now.target c.args.stage.now in
    let inv = c.halving.invariant in
    record {
      halved = subst (λ (ticks : ℕ). IsHalved (below c.args.most test) (searched c.args.most test) ticks (c.halving.step / 2)) (sym c.in_ok-ticks.ensures.raised)
          (halved_more (below c.args.most test) (searched c.args.most test) c.halving.ticks c.halving.step inv.halved c.halving-test.true);
      few = subst (λ (ticks : ℕ). ticks + c.halving.step / 2 ≤ 2 ^ 41) (sym c.in_ok-ticks.ensures.raised)
          (raised_few (below c.args.most test (c.halving.ticks + c.halving.step / 2)) c.halving.ticks c.halving.step (2 ^ 41) inv.few);
      room = c.in_ok-ticks.ensures.room;
    }

pub returns-clause-searched : goal.returns-clause-searched
returns-clause-searched g c =
    let test = stays c.args.version.now.graph c.args.start.now.target c.args.stage.now in
    halved_all (below c.args.most test) (searched c.args.most test) c.halving.ticks c.halving.step c.halving.invariant.halved c.halving-test.false
