use Rattle.std.proofs.Common.{◌++◌, ◌∷◌, [], ℕ, List, sym, ap, ◌∙◌}
use Rattle.time_sweep.proofs.Hurrying.{range_more}
use Rattle.report_rows.proofs.places.all_places.Goals as goal

pub loop-place-preserved : goal.loop-place-preserved
loop-place-preserved g c = record {
  listed =
      c.in_ok-push.ensures.items ∙ ap (λ (places : List ℕ). places ++ c.loop-place.place ∷ []) c.loop-place.invariant.listed
      ∙ sym (range_more c.loop-place.place);
  ends = c.loop-place.invariant.ends;
}
