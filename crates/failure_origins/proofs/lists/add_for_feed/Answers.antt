use Rattle.std.proofs.Common.{◌≡◌, ◌∙◌, ◌<◌, ℕ, Option, Some, false, length, subst, sym}
use Rattle.std.specs.Prelude.{IfSome}
use Rattle.std.proofs.lemmas.Result.{on_ok_weaker}
use Rattle.failure_origins.specs.Origins.{comes_from, origin_at}
use Rattle.failure_origins.proofs.Listing.{feed_added}
use Rattle.failure_origins.proofs.lists.add_for_feed.Goals as goal

pub returns-clause-lists : goal.returns-clause-lists
returns-clause-lists c =
    let lists = c.args.handled.now.items in
    let known : origin_at c.args.origins.now c.args.feed ≡ Some c.in-Some.origin = sym c.origin_at.ensures ∙ c.in-Some.is in
    let other : comes_from c.args.origins.now c.in-Some.origin c.args.place ≡ false = sym c.comes_from.ensures ∙ c.if-comes_from.false in
    let within : c.in-Some.origin < length lists = subst (λ (known : Option ℕ). IfSome known (λ origin. origin < length lists)) known (c.requires c.args.feed) in
    on_ok_weaker c.add_once.result (feed_added c.args.origins.now c.args.place c.args.feed c.in-Some.origin lists c.index_mut.result.now c.add_once.new.places known other within c.index_mut.ensures.value) c.add_once.ensures
