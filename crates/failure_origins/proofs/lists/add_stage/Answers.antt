use Rattle.std.proofs.Common.{◌≡◌, ◌∙◌, [], ℕ, Bool, List, OnOk, None, Some, subst, sym}
use Rattle.std.specs.Prelude.{slice_get}
use Rattle.std.proofs.lemmas.Result.{on_ok_weaker}
use Rattle.failure_origins.specs.Lists.{handles_after, AreListsWith}
use Rattle.failure_origins.proofs.Listing.{feeds_added, read_past, read_picked, read_sources}
use Rattle.failure_origins.proofs.lists.add_stage.Goals as goal

pub returns-in-Sources-clause-lists : goal.returns-in-Sources-clause-lists
returns-in-Sources-clause-lists c =
    let origins = c.args.origins.now in
    let place = c.args.place in
    subst (λ (read : List ℕ). OnOk c.add_for_each.result ((passes : ℕ → ℕ → Bool) (count : ℕ) → AreListsWith passes place (handles_after origins [] place) count c.args.handled.now.items
    → AreListsWith passes place (handles_after origins read place) count c.add_for_each.new.handled.items))
    (sym (read_sources c.args.stage.now c.args.reads c.as_slice.result.now c.as_slice.ensures c.in-Sources.is)) c.add_for_each.ensures.lists

pub returns-in-Some-clause-lists : goal.returns-in-Some-clause-lists
returns-in-Some-clause-lists c =
    let stage = c.args.stage.now in
    let sources = c.as_slice-in-Picked.result.now in
    let there : slice_get stage.inner c.in-Picked.index ≡ Some c.in-Some.feed =
    subst (λ (inner : List ℕ). slice_get inner c.in-Picked.index ≡ Some c.in-Some.feed) c.as_slice-in-Picked-2.ensures (sym c.picked.ensures ∙ c.in-Some.is) in
    on_ok_weaker c.add_for_feed.result
    (feeds_added c.args.origins.now c.args.place sources c.in-Some.feed c.args.handled.now.items c.add_for_each-in-Picked.new.handled.items c.add_for_feed.new.handled.items _
    (read_picked stage c.args.reads sources c.as_slice-in-Picked.ensures c.in-Picked.index c.in-Some.feed c.in-Picked.is there) c.in_ok-add_for_each-in-Picked.ensures.lists) c.add_for_feed.ensures.lists

pub returns-in-None-clause-lists : goal.returns-in-None-clause-lists
returns-in-None-clause-lists c =
    let origins = c.args.origins.now in
    let place = c.args.place in
    let stage = c.args.stage.now in
    let none : slice_get stage.inner c.in-Picked.index ≡ None =
    subst (λ (inner : List ℕ). slice_get inner c.in-Picked.index ≡ None) c.as_slice-in-Picked-2.ensures (sym c.picked.ensures ∙ c.in-None.is) in
    subst (λ (read : List ℕ). (passes : ℕ → ℕ → Bool) (count : ℕ) → AreListsWith passes place (handles_after origins [] place) count c.args.handled.now.items
    → AreListsWith passes place (handles_after origins read place) count c.add_for_each-in-Picked.new.handled.items)
    (sym (read_past stage c.args.reads c.as_slice-in-Picked.result.now c.as_slice-in-Picked.ensures c.in-Picked.index c.in-Picked.is none)) c.in_ok-add_for_each-in-Picked.ensures.lists
