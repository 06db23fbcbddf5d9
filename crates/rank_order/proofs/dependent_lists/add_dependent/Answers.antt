use Rattle.std.proofs.Common.{◌<◌, ◌∙◌, length, get_or, subst}
use Rattle.std.proofs.lemmas.List.{length-set, take_all}
use Rattle.rank_order.specs.DependentLists.{AreDependentLists, with_feeds, listed}
use Rattle.rank_order.proofs.DependentSteps.{feed_added}
use Rattle.rank_order.proofs.dependent_lists.add_dependent.Goals as goal

pub loop-feed-preserved : goal.loop-feed-preserved
loop-feed-preserved c =
    let feed = get_or c.args.feeds.now c.loop-feed.feed-index 0 in
    let within : get_or c.args.feeds.now c.loop-feed.feed-index 0 < length c.loop-feed.lists.items = rw c.loop-feed.invariant.long (c.requires c.loop-feed.feed-index 0 c.loop-feed-test.true) in
    record {
      long = length-set c.loop-feed.lists.items feed c.add_once.new.its_dependents ∙ c.loop-feed.invariant.long;
      its_dependents = λ uses count low are. feed_added uses c.args.dependent low c.args.feeds.now c.loop-feed.feed-index count c.loop-feed.lists.items c.index_mut.result.now c.add_once.new.its_dependents
          c.loop-feed-test.true within c.index_mut.ensures.value (c.loop-feed.invariant.its_dependents uses count low are) c.in_ok-add_once.ensures;
    }

pub returns-clause-its_dependents : goal.returns-clause-its_dependents
returns-clause-its_dependents c uses count low are =
    let all = take_all c.loop-feed.feed-index c.args.feeds.now c.loop-feed-test.false in
    subst (λ feeds. AreDependentLists (with_feeds uses c.args.dependent feeds) count (listed c.loop-feed.lists.items)) all (c.loop-feed.invariant.its_dependents uses count low are)
