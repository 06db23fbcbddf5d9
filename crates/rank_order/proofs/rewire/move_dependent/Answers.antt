use Rattle.std.proofs.Common.{◌≡◌, ◌<◌, ◌++◌, ◌∙◌, [], length, get_or, set, ap}
use Rattle.std.proofs.lemmas.List.{length-set}
use Rattle.stage_graph.specs.Plain.{feeds_at}
use Rattle.rank_order.specs.Lists.{is_among}
use Rattle.rank_order.specs.DependentLists.{with_dependent}
use Rattle.rank_order.proofs.Members.{among_append_right}
use Rattle.rank_order.proofs.DependentMoves.{moving_none, moving_more, moving_all}
use Rattle.rank_order.proofs.rewire.move_dependent.Goals as goal

pub loop-feed-init : goal.loop-feed-init
loop-feed-init g c = record {
  long = c.requires.long;
  its_dependents = λ uses are. moving_none uses c.args.place (feeds_at c.args.changed.now.places c.args.place) (length c.args.changed.now.places) (g.K.Keeps.items c.args.lists.now) are;
}

pub loop-feed-preserved : goal.loop-feed-preserved
loop-feed-preserved g c =
    let feeds = c.deref-feed-items.result.now in
    let feed = get_or feeds c.loop-feed.feed-index 0 in
    let lists = g.K.Keeps.items c.loop-feed.lists in
    let now = feeds_at c.args.changed.now.places c.args.place in
    let all = rw (← c.deref-feed-items.ensures.value) at c.in_ok-feeds.ensures.within in
    let within : feed < length c.args.changed.now.places = all c.loop-feed.feed-index 0 c.loop-feed-test.true in
    let is : g.K.Keeps.items c.set_dependent.new.lists ≡ set lists feed (with_dependent c.args.place (is_among feed now) (get_or lists feed [])) =
    c.in_ok-set_dependent.ensures ∙ ap (λ b. set lists feed (with_dependent c.args.place b (get_or lists feed []))) c.has_feed-is_dependent.ensures in
    record {
      long = ap length is ∙ length-set lists feed (with_dependent c.args.place (is_among feed now) (get_or lists feed [])) ∙ c.loop-feed.invariant.long;
      its_dependents = λ uses are. rw is (moving_more uses c.args.place now feeds c.loop-feed.feed-index (length c.args.changed.now.places) lists c.loop-feed-test.true within (c.loop-feed.invariant.its_dependents uses are));
    }

pub returns-clause-its_dependents : goal.returns-clause-its_dependents
returns-clause-its_dependents g c uses old are =
    let feeds = c.deref-feed-items.result.now in
    let was = feeds_at c.args.old.now.places c.args.place in
    let now = feeds_at c.args.changed.now.places c.args.place in
    let is : feeds ≡ was ++ now = c.deref-feed-items.ensures.value ∙ c.in_ok-feeds.ensures.feeds in
    moving_all uses c.args.place now feeds c.loop-feed.feed-index (length c.args.changed.now.places) (g.K.Keeps.items c.loop-feed.lists) c.loop-feed-test.false
    (λ place used. ap (is_among place) is ∙ old place used) (λ place used. ap (is_among place) is ∙ among_append_right place was now used) (c.loop-feed.invariant.its_dependents uses are)
