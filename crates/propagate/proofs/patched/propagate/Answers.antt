use Rattle.std.proofs.Common.{◌≡◌, ◌≤◌, ◌+◌, ℕ, List, length, Ok, sym, ap, ◌∙◌, subst}
use Rattle.stage_graph.specs.Changes.{changed}
use Rattle.stage_graph.specs.Kept.{IsChangeBy, edited_places}
use Rattle.stage_graph.specs.Plain.{PlainGraph}
use Rattle.stage_graph.specs.Sound.{IsSound}
use Rattle.rank_order.specs.Lists.{is_among}
use Rattle.propagate.specs.Patched.{touched_by}
use Rattle.propagate.specs.Reach.{StaysUntouched, touched}
use Rattle.stage_ops.specs.Evaluation.{at}
use Rattle.act_expr.specs.declared.outcome.Mode.{Mode}
use Rattle.propagate.proofs.Naming.{change_between, all_edited_within, touched_by_places, count_of_ranked}
use Rattle.propagate.proofs.patched.propagate.Goals as goal

pub propagate_change-requires-clause-change : goal.propagate_change-requires-clause-change
propagate_change-requires-clause-change g c κs borrowed =
    let before = c.deref-before.result.now in
    let after = c.deref-after.result.now in
    let places = c.as_slice-places.result.now in
    let same : after ≡ c.in-Ok.changed = c.deref-after.ensures ∙ c.in_ok-graph.ensures in
    let kept : IsChangeBy c.args.edits.now before after = subst (λ (graph : PlainGraph). IsChangeBy c.args.edits.now before graph) (sym same) c.in-Ok.ensures.kept in
    let listed : places ≡ edited_places c.args.edits.now before.places after.places = c.as_slice-places.ensures ∙ c.in_ok-edited.ensures in
    let sound : IsSound after = subst IsSound (sym same) c.len-2.ensures.sound in
    change_between c.args.edits.now before after places c.len.ensures.sound sound kept listed

pub propagate_change-requires-clause-within : goal.propagate_change-requires-clause-within
propagate_change-requires-clause-within g c κs borrowed =
    let before = c.deref-before.result.now in
    let after = c.deref-after.result.now in
    let places = c.as_slice-places.result.now in
    let same : after ≡ c.in-Ok.changed = c.deref-after.ensures ∙ c.in_ok-graph.ensures in
    let kept : IsChangeBy c.args.edits.now before after = subst (λ (graph : PlainGraph). IsChangeBy c.args.edits.now before graph) (sym same) c.in-Ok.ensures.kept in
    let listed : places ≡ edited_places c.args.edits.now before.places after.places = c.as_slice-places.ensures ∙ c.in_ok-edited.ensures in
    all_edited_within before.places after.places kept.longer c.args.edits.now places listed

pub returns-in-Ok-propagate_change-clause-touched : goal.returns-in-Ok-propagate_change-clause-touched
returns-in-Ok-propagate_change-clause-touched g c =
    let before = c.deref-before.result.now in
    let after = c.deref-after.result.now in
    let places = c.as_slice-places.result.now in
    let same : after ≡ c.in-Ok.changed = c.deref-after.ensures ∙ c.in_ok-graph.ensures in
    let kept : IsChangeBy c.args.edits.now before after = subst (λ (graph : PlainGraph). IsChangeBy c.args.edits.now before graph) (sym same) c.in-Ok.ensures.kept in
    let listed : places ≡ edited_places c.args.edits.now before.places after.places = c.as_slice-places.ensures ∙ c.in_ok-edited.ensures in
    let sound : IsSound after = subst IsSound (sym same) c.len-2.ensures.sound in
    let step = g.O.StageOps.step c.args.ops.now in
    let by_edits = ap (λ (xs : List ℕ). touched (step after.mode) before.places after.places (λ place. is_among place xs)) listed ∙ touched_by_places c.args.edits.now before after sound kept (step after.mode) in
    let found = c.in-Ok-propagate_change.reached.touched.items in
    subst (λ (from : PlainGraph). found ≡ touched_by (step c.in_ok-graph.graph.mode) c.args.edits.now from.places c.in_ok-graph.graph.places) c.deref-before.ensures
    (subst (λ (to : PlainGraph). found ≡ touched_by (step to.mode) c.args.edits.now before.places to.places) c.deref-after.ensures
    (c.in-Ok-propagate_change.ensures.touched ∙ by_edits))

pub returns-in-Err-Memory-clause-refused : goal.returns-in-Err-Memory-clause-refused
returns-in-Err-Memory-clause-refused g c =
    let before = c.deref-before.result.now in
    let after = c.deref-after.result.now in
    let places = c.as_slice-places.result.now in
    let same : after ≡ c.in-Ok.changed = c.deref-after.ensures ∙ c.in_ok-graph.ensures in
    let kept : IsChangeBy c.args.edits.now before after = subst (λ (graph : PlainGraph). IsChangeBy c.args.edits.now before graph) (sym same) c.in-Ok.ensures.kept in
    let listed : places ≡ edited_places c.args.edits.now before.places after.places = c.as_slice-places.ensures ∙ c.in_ok-edited.ensures in
    let sound : IsSound after = subst IsSound (sym same) c.len-2.ensures.sound in
    let step = g.O.StageOps.step c.args.ops.now in
    let by_edits = ap (λ (xs : List ℕ). touched (step after.mode) before.places after.places (λ place. is_among place xs)) listed ∙ touched_by_places c.args.edits.now before after sound kept (step after.mode) in
    let old = c.args.old.graph.now in
    let graph = c.in_ok-graph.graph in
    let meter = c.args.meter.now in
    let count = c.propagate_change.new.meter in
    let answer : changed c.args.edits.now old ≡ Ok graph =
    subst (λ (from : PlainGraph). changed c.args.edits.now from ≡ Ok graph) c.deref-before.ensures (c.in-Ok.ensures.changed ∙ ap Ok (sym c.in_ok-graph.ensures)) in
    let few =
    subst (λ (from : PlainGraph). count ≤ meter + length (touched_by (step graph.mode) c.args.edits.now from.places graph.places)) c.deref-before.ensures
    (subst (λ (to : PlainGraph). count ≤ meter + length (touched_by (step to.mode) c.args.edits.now before.places to.places)) c.deref-after.ensures
    (subst (λ (xs : List ℕ). count ≤ meter + length xs) by_edits c.in-Err-Memory.ensures.refused.1)) in
    count_of_ranked (λ to. touched_by (step to.mode) c.args.edits.now old.places to.places) (changed c.args.edits.now old) graph meter count answer c.in-Ok-changed_order.ensures.ranked
    (c.in-Err-Memory.ensures.refused.0, few)

pub returns-in-Ok-propagate_change-clause-untouched : goal.returns-in-Ok-propagate_change-clause-untouched
returns-in-Ok-propagate_change-clause-untouched g c =
    let before = c.deref-before.result.now in
    let after = c.deref-after.result.now in
    let same : after ≡ c.in-Ok.changed = c.deref-after.ensures ∙ c.in_ok-graph.ensures in
    let mode : after.mode ≡ before.mode = ap (λ (graph : PlainGraph). graph.mode) same ∙ c.in-Ok.ensures.kept.same_mode in
    let step = g.O.StageOps.step c.args.ops.now in
    let found = c.in-Ok-propagate_change.reached.touched.items in
    subst (λ (from : PlainGraph). StaysUntouched (at (step from.mode)) (at (step c.in_ok-graph.graph.mode)) from.places c.in_ok-graph.graph.places found) c.deref-before.ensures
    (subst (λ (to : PlainGraph). StaysUntouched (at (step before.mode)) (at (step to.mode)) before.places to.places found) c.deref-after.ensures
    (subst (λ (mode : Mode). StaysUntouched (at (step mode)) (at (step after.mode)) before.places after.places found) mode c.in-Ok-propagate_change.ensures.untouched))
