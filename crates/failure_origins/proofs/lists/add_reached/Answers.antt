use Rattle.std.proofs.Common.{◌≡◌, ◌∙◌, ◌<◌, ℕ, Option, Some, None, ap, length, subst, sym}
use Rattle.std.specs.Prelude.{IfSome}
use Rattle.std.proofs.lemmas.Result.{on_ok_weaker}
use Rattle.failure_origins.specs.Origins.{origin_at}
use Rattle.failure_origins.proofs.Listing.{reached_added, reached_itself, reached_kept, reached_none}
use Rattle.failure_origins.proofs.lists.add_reached.Goals as goal

pub returns-in_default-clause-lists : goal.returns-in_default-clause-lists
returns-in_default-clause-lists c =
    let none : origin_at c.args.origins.now c.args.place ≡ None = sym c.in_default.ensures in
    reached_kept c.args.origins.now c.args.place c.args.reached.now.items (reached_none c.args.origins.now c.args.place none)

pub returns-then-origin-place-clause-lists : goal.returns-then-origin-place-clause-lists
returns-then-origin-place-clause-lists c =
    let own : origin_at c.args.origins.now c.args.place ≡ Some c.args.place = sym c.origin_at.ensures ∙ c.in-Some.is ∙ ap (λ (place : ℕ). Some place) c.if-origin-place.true in
    reached_kept c.args.origins.now c.args.place c.args.reached.now.items (reached_itself c.args.origins.now c.args.place own)

pub returns-clause-lists : goal.returns-clause-lists
returns-clause-lists c =
    let lists = c.args.reached.now.items in
    let known : origin_at c.args.origins.now c.args.place ≡ Some c.in-Some.origin = sym c.origin_at.ensures ∙ c.in-Some.is in
    let within : c.in-Some.origin < length lists = subst (λ (known : Option ℕ). IfSome known (λ origin. origin < length lists)) known (c.requires c.args.place) in
    on_ok_weaker c.push.result (reached_added c.args.origins.now c.args.place c.in-Some.origin lists c.index_mut.result.now c.push.new.self known c.if-origin-place.false within c.index_mut.ensures.value) c.push.ensures.added
