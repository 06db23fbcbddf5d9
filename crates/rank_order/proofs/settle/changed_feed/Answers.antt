use Rattle.std.proofs.Common.{◌≡◌, ◌++◌, ℕ, inl, inr, slice_index}
use Rattle.std.specs.Prelude.{All, Contains}
use Rattle.std.proofs.lemmas.List.Elements.{Contains-append_left, Contains-append_right, Contains-append_cases, All-contains}
use Rattle.rank_order.proofs.settle.changed_feed.Goals as goal

pub returns-in-Some-first_changed-clause-feed : goal.returns-in-Some-first_changed-clause-feed
returns-in-Some-first_changed-clause-feed g c =
    let stage = c.in-Some.stage.now in
    let feed = c.in-Some-first_changed.feed in
    let has : Contains stage.sources feed = rw c.as_slice.ensures at c.in-Some-first_changed.ensures.found.0 in
    rw (← c.in-Some.ensures.stage) (Contains-append_left stage.sources stage.inner feed has)

pub returns-clause-feed : goal.returns-clause-feed
returns-clause-feed g c =
    let stage = c.in-Some.stage.now in
    let feed = c.in-Some-first_changed-2.feed in
    let has : Contains stage.inner feed = rw c.as_slice-2.ensures at c.in-Some-first_changed-2.ensures.found.0 in
    rw (← c.in-Some.ensures.stage) (Contains-append_right stage.sources stage.inner feed has)

pub unreachable-requires-in_default-first_changed-2 : goal.unreachable-requires-in_default-first_changed-2
unreachable-requires-in_default-first_changed-2 g c =
    let stage = c.in-Some.stage.now in
    let same : ℕ → Type 0 = λ place. slice_index (g.K.Keeps.items c.args.ranks.now) place ≡ slice_index (g.K.Keeps.items c.args.before.now) place in
    let sources : All same stage.sources = rw c.as_slice.ensures at c.in_default-first_changed.ensures.none in
    let inner : All same stage.inner = rw c.as_slice-2.ensures at c.in_default-first_changed-2.ensures.none in
    let (feed, has, changed) = c.requires in
    let here : Contains (stage.sources ++ stage.inner) feed = rw (← c.in-Some.ensures.stage) at has in
    changed (elim (Contains-append_cases stage.sources stage.inner feed here) [
      | inl source ↦ All-contains same stage.sources feed sources source
      | inr last ↦ All-contains same stage.inner feed inner last
    ])
