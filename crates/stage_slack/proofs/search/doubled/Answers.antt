use Rattle.std.proofs.Common.{◌≡◌, ◌<◌, ◌∙◌, true, false, arith, sym}
use Rattle.stage_slack.specs.Search.{below}
use Rattle.stage_slack.specs.Slacks.{stays}
use Rattle.stage_slack.proofs.Searching.{doubled_all, doubled_more, first_doubled, is_less, past_positive}
use Rattle.stage_slack.proofs.search.doubled.Goals as goal

pub doubling-init : goal.doubling-init
doubling-init g c = record {
  doubled = first_doubled c.args.most (stays c.args.version.now.graph c.args.start.now.target c.args.stage.now);
  few = omega arith;
  room = c.requires.room;
}

pub doubling-preserved : goal.doubling-preserved
doubling-preserved g c =
    let test = stays c.args.version.now.graph c.args.start.now.target c.args.stage.now in
    let holds : below c.args.most test c.doubling.past ≡ true = sym c.in_ok-stays_below.ensures.same ∙ c.if-branch.true in
    let less : c.doubling.past < c.args.most = is_less c.args.most test c.doubling.past holds in
    let most = c.requires.most in
    record {
      doubled = doubled_more c.args.most test c.doubling.past c.doubling.invariant.doubled holds;
      few = omega (arith, less, most);
      room = c.in_ok-stays_below.ensures.room;
    }

pub doubling-smaller : goal.doubling-smaller
doubling-smaller g c =
    let test = stays c.args.version.now.graph c.args.start.now.target c.args.stage.now in
    let holds : below c.args.most test c.doubling.past ≡ true = sym c.in_ok-stays_below.ensures.same ∙ c.if-branch.true in
    let less : c.doubling.past < c.args.most = is_less c.args.most test c.doubling.past holds in
    let some = past_positive c.args.most test c.doubling.past c.doubling.invariant.doubled in
    omega (arith, less, some)

pub returns-clause-power : goal.returns-clause-power
returns-clause-power g c =
    let test = stays c.args.version.now.graph c.args.start.now.target c.args.stage.now in
    let fails : below c.args.most test c.doubling.past ≡ false = sym c.in_ok-stays_below.ensures.same ∙ c.if-branch.false in
    doubled_all c.args.most test c.doubling.past c.doubling.invariant.doubled fails
