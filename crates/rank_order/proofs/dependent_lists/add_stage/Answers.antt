use Rattle.std.proofs.Common.{◌≡◌, ◌++◌, ◌+◌, length, sym, ap}
use Rattle.stage_graph.specs.Plain.{feeds_of_place, feeds_at}
use Rattle.rank_order.specs.DependentLists.{with_feeds, uses_before, listed}
use Rattle.rank_order.proofs.DependentSteps.{same_lists, before_low, before_more, with_feeds_low, sources_within, inner_within}
use Rattle.rank_order.proofs.dependent_lists.add_stage.Goals as goal

pub add_dependent-requires : goal.add_dependent-requires
add_dependent-requires g c =
    rw (c.as_slice.ensures, c.requires) (sources_within c.args.graph.now.places c.in-Some.stage.now.sources c.in-Some.stage.now.inner c.in-Some.ensures.sound.live_feeds)

pub add_dependent-requires-in-Some : goal.add_dependent-requires-in-Some
add_dependent-requires-in-Some g c =
    rw (c.as_slice-in-Some.ensures, c.in_ok-add_dependent.ensures.long, c.requires) (inner_within c.args.graph.now.places c.in-Some.stage.now.sources c.in-Some.stage.now.inner c.in-Some.ensures.sound.live_feeds)

pub returns-in_ok-add_dependent-2-clause-its_dependents : goal.returns-in_ok-add_dependent-2-clause-its_dependents
returns-in_ok-add_dependent-2-clause-its_dependents g c are =
    let places = c.args.graph.now.places in
    let dependent = c.args.dependent in
    let sources = c.in-Some.stage.now.sources in
    let inner = c.in-Some.stage.now.inner in
    let feeds : feeds_at places dependent ≡ sources ++ inner = sym (ap feeds_of_place c.in-Some.ensures.stage) in
    let first = rw c.as_slice.ensures at c.in_ok-add_dependent.ensures.its_dependents (uses_before places dependent) (length places) (before_low places dependent) are in
    let second = rw c.as_slice-in-Some.ensures at
    c.in_ok-add_dependent-2.ensures.its_dependents (with_feeds (uses_before places dependent) dependent sources) (length places) (with_feeds_low (uses_before places dependent) dependent (before_low places dependent) sources) first in
    same_lists (with_feeds (with_feeds (uses_before places dependent) dependent sources) dependent inner) (uses_before places (dependent + 1)) (length places) (listed c.add_dependent-in-Some.new.lists.items) (before_more places dependent sources inner feeds) second
