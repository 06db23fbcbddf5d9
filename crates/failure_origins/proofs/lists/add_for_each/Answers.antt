use Rattle.std.proofs.Common.{◌∙◌, ℕ, List, take, subst, sym}
use Rattle.std.proofs.lemmas.List.{take_all, take_more}
use Rattle.failure_origins.specs.Lists.{handles_after, AreListsWith}
use Rattle.failure_origins.specs.Origins.{AreWithin}
use Rattle.failure_origins.proofs.lists.add_for_each.Goals as goal

pub add_for_feed-requires : goal.add_for_feed-requires
add_for_feed-requires c = subst (AreWithin c.args.origins.now) (sym c.loop-feed.invariant.long) c.requires

pub loop-feed-preserved : goal.loop-feed-preserved
loop-feed-preserved c =
    let feeds = c.args.feeds.now in
    let i = c.loop-feed.feed-index in
    let more = take_more feeds i 0 c.loop-feed-test.true in
    record {
      long = c.in_ok-add_for_feed.ensures.long ∙ c.loop-feed.invariant.long;
      lists = λ passes count begun.
          subst (λ (read : List ℕ). AreListsWith passes c.args.place (handles_after c.args.origins.now read c.args.place) count c.add_for_feed.new.handled.items) (sym more)
          (c.in_ok-add_for_feed.ensures.lists passes count (take i feeds) (c.loop-feed.invariant.lists passes count begun));
    }

pub returns-clause-lists : goal.returns-clause-lists
returns-clause-lists c passes count begun =
    let all = take_all c.loop-feed.feed-index c.args.feeds.now c.loop-feed-test.false in
    subst (λ (read : List ℕ). AreListsWith passes c.args.place (handles_after c.args.origins.now read c.args.place) count c.loop-feed.handled.items) all (c.loop-feed.invariant.lists passes count begun)
