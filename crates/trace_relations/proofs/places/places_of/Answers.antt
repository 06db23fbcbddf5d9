use Rattle.std.proofs.Common.{◌∙◌, sym, ap, arith}
use Rattle.std.specs.Prelude.{is_some}
use Rattle.std.specs.HashMap.{get_by_text}
use Rattle.trace_relations.proofs.Meanings.{with_known, with_new}
use Rattle.trace_relations.proofs.places.places_of.Goals as goal
use Rattle.trace_relations.proofs.places.places_of.Goals.{then-not-has_place+in_ok-insert, else-not-has_place}

pub loop-place-preserved : goal.loop-place-preserved
loop-place-preserved c = elim c.if-not-has_place.branch [
  | then-not-has_place+in_ok-insert w ↦
      rw w.places-is (with_new c.args.spans.now c.loop-place.place c.index-spans-place.result c.into_string-id.result c.loop-place.places w.insert.new.self (omega arith) c.index-spans-place.is
      (c.into_string-id.ensures ∙ c.in_ok-key_of.ensures)
      (ap (λ k. is_some (get_by_text c.loop-place.places k)) (sym c.as_str.ensures.value) ∙ sym w.if-not-has_place.ensures)
      w.in_ok-insert.ensures.updates c.loop-place.invariant)
  | else-not-has_place w ↦
      with_known c.args.spans.now c.loop-place.place c.index-spans-place.result c.as_str.result.now c.loop-place.places c.if-not-has_place.places (omega arith) c.index-spans-place.is
      (c.as_str.ensures.value ∙ (c.into_string-id.ensures ∙ c.in_ok-key_of.ensures))
      (sym w.if-not-has_place.ensures) w.places-is c.loop-place.invariant
]
