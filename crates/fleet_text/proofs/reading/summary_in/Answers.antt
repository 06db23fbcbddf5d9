use Rattle.serde_json.specs.View.{view}
use Rattle.fleet_text.proofs.ReadTables.{IsSound-parts}
use Rattle.fleet_text.proofs.Said.{summary_one}
use Rattle.fleet_text.proofs.reading.summary_in.Goals as goal

pub returns-clause-sound : goal.returns-clause-sound
returns-clause-sound c =
    IsSound-parts _ c.in_ok-replies_in.ensures.count c.in_ok-replies_in.ensures.failed c.in_ok-replies_in.ensures.times c.in_ok-groups_in.ensures.sound c.in_ok-failures_in.ensures.sound

pub returns-clause-said : goal.returns-clause-said
returns-clause-said c = record {
  replies = record { own = _; found = c.in_ok-member_of.ensures; said = c.in_ok-replies_in.ensures.said };
  groups = record { own = _; found = c.in_ok-member_of-2.ensures; said = c.in_ok-groups_in.ensures.said };
  failures = record { own = _; found = c.in_ok-member_of-3.ensures; said = c.in_ok-failures_in.ensures.said };
}

pub returns-clause-back : goal.returns-clause-back
returns-clause-back c summary sound says = summary_one (view c.args.value.now) _ summary (returns-clause-said c) says
