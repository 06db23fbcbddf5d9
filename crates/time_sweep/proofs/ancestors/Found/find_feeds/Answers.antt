use Rattle.std.proofs.Common.{◌≡◌, ◌∙◌, ℕ, List, Some, sym, ap, subst}
use Rattle.std.specs.Prelude.{All, Contains}
use Rattle.stage_graph.specs.Plain.{PlainGraph, feeds_of, feeds_of_place, stage_at, IsLive}
use Rattle.time_sweep.specs.Known.{IsKnown}
use Rattle.time_sweep.specs.Waits.{IsOnly}
use Rattle.time_sweep.proofs.Finding.{feeds_known, inner_live, sources_live}
use Rattle.time_sweep.proofs.Waiting.{both_only}
use Rattle.time_sweep.proofs.ancestors.Found.find_feeds.Goals as goal

pub find_each-requires-clause-live : goal.find_each-requires-clause-live
find_each-requires-clause-live g c κs inside =
    let places = c.args.version.now.graph.places in
    let stage = c.in-Some.stage.now in
    let live = subst (λ (graph : PlainGraph). All (IsLive graph.places) (feeds_of stage)) c.graph.ensures.graph c.in-Some.ensures.sound.live_feeds in
    subst (All (IsLive places)) (sym c.as_slice.ensures) (sources_live places stage.sources stage.inner live)

pub find_each-requires-2-clause-live : goal.find_each-requires-2-clause-live
find_each-requires-2-clause-live g c κs inside =
    let places = c.args.version.now.graph.places in
    let stage = c.in-Some.stage.now in
    let live = subst (λ (graph : PlainGraph). All (IsLive graph.places) (feeds_of stage)) c.graph.ensures.graph c.in-Some.ensures.sound.live_feeds in
    subst (All (IsLive places)) (sym c.as_slice-2.ensures) (inner_live places stage.sources stage.inner live)

pub returns-clause-known : goal.returns-clause-known
returns-clause-known g c feed among =
    let stage = c.in-Some.stage.now in
    let here : stage_at c.args.version.now.graph.places c.args.place ≡ Some stage =
    ap (λ (graph : PlainGraph). stage_at graph.places c.args.place) (sym c.graph.ensures.graph) ∙ sym c.in-Some.ensures.stage in
    feeds_known c.in_ok-find_each-2.ensures.further stage.sources stage.inner
    (subst (All (IsKnown c.find_each.new.self.ranks.items)) c.as_slice.ensures c.in_ok-find_each.ensures.known)
    (subst (All (IsKnown c.find_each-2.new.self.ranks.items)) c.as_slice-2.ensures c.in_ok-find_each-2.ensures.known)
    feed (subst (λ (feeds : List ℕ). Contains feeds feed) (ap feeds_of_place here) among)

pub returns-clause-only : goal.returns-clause-only
returns-clause-only g c =
    let found = c.args.self.now in
    let stage = c.in-Some.stage.now in
    let here : stage_at c.args.version.now.graph.places c.args.place ≡ Some stage =
    ap (λ (graph : PlainGraph). stage_at graph.places c.args.place) (sym c.graph.ensures.graph) ∙ sym c.in-Some.ensures.stage in
    subst (IsOnly found.ranks.items found.waiting.items c.find_each-2.new.self.ranks.items c.find_each-2.new.self.waiting.items) (sym (ap feeds_of_place here))
    (both_only stage.sources stage.inner
    (subst (IsOnly found.ranks.items found.waiting.items c.find_each.new.self.ranks.items c.find_each.new.self.waiting.items) c.as_slice.ensures c.in_ok-find_each.ensures.only)
    (subst (IsOnly c.find_each.new.self.ranks.items c.find_each.new.self.waiting.items c.find_each-2.new.self.ranks.items c.find_each-2.new.self.waiting.items) c.as_slice-2.ensures c.in_ok-find_each-2.ensures.only))
