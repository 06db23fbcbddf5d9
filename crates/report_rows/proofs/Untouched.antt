-- A stage that the edits don't touch completes as in the parent, so of the touched places and of all places there are the same rows of moved stages.
use Rattle.std.proofs.Common.{ℕ, ◌≡◌, Bool, true, false, List, [], ◌∷◌, Option, Some, None, refl, sym, ap, ◌∙◌, inl, inr, arith}
use Rattle.std.specs.Prelude.{IfSome, filter, filter_map, is_some, nat_lt}
use Rattle.std.specs.List.{cons_option}
use Rattle.std.specs.Option.{option_and_then, option_map}
use Rattle.std.proofs.lemmas.Bool.{cases_Bool, cond-false, cond-true, le-ltb}
use Rattle.stage_graph.specs.declared.stage.Stage.{Stage}
use Rattle.stage_graph.specs.Plain.{all_places, stage_at}
use Rattle.stage_ops.specs.declared.state.Done.{Done}
use Rattle.stage_ops.specs.declared.state.State.{State}
use Rattle.rank_order.specs.Lists.{is_among}
use Rattle.version_store.specs.Plain.{Origin, PlainVersion}
use Rattle.version_store.specs.Queries.{before, held, held_by, moment_in, state_of, touched_by_place, touched_in, touched_of, KeepsOthers}
use Rattle.report_rows.specs.declared.listing.Listing.TheVariants.{Shifts}
use Rattle.report_rows.specs.declared.row.Row.{Row}
use Rattle.report_rows.specs.Listings.{row_at, row_of, rows_at}
use Rattle.report_rows.specs.Rows.{shift_row}
use Rattle.report_rows.specs.Shifts.{shift_between, shift_since}

-- ---- a stage that is not touched has not moved

not_below : (tick : ℕ) → nat_lt tick tick ≡ false
not_below tick = le-ltb tick tick (omega arith)

same_moment : (tick : ℕ) → shift_between tick tick ≡ None
same_moment tick = by_test (nat_lt tick tick) (not_below tick) refl where
  by_test : (b : Bool) → b ≡ false → nat_lt tick tick ≡ b → shift_between tick tick ≡ None
  by_test true none is = cc
  by_test false none is = cc

same_state : (done : Option Done) → shift_since (held done) (option_map (λ (done : Done). done.moment) done) ≡ None
same_state None = refl
same_state (Some done) = same_moment done.moment

module _ (version : PlainVersion) (keeps : IfSome version.origin (λ origin. KeepsOthers origin version.graph)) where
  by_origin : (origin : Option Origin) → IfSome origin (λ origin. KeepsOthers origin version.graph) → (place : ℕ) (stage : Stage)
      → is_among place (touched_in origin version.graph) ≡ false → stage_at version.graph.places place ≡ Some stage → shift_since (before origin place) (moment_in (state_of version.graph place)) ≡ None
  by_origin None others place stage elsewhere stands = refl
  by_origin (Some origin) others place stage elsewhere stands =
      let (same_stage, same) = others place (ap is_some stands) elsewhere in
      ap (λ (there : Option Stage). shift_since (held_by origin.graph place there) (moment_in (state_of version.graph place))) (sym same_stage ∙ stands)
      ∙ ap (λ (state : State). shift_since (held state.done) (moment_in (state_of version.graph place))) (sym same)
      ∙ same_state (state_of version.graph place).done

  no_row : (place : ℕ) → is_among place (touched_of version) ≡ false → row_at Shifts version version place ≡ None
  no_row place elsewhere = by_stage (stage_at version.graph.places place) refl where
    by_stage : (here : Option Stage) → stage_at version.graph.places place ≡ here → option_and_then (row_of Shifts version version place) here ≡ None
    by_stage None empty = refl
    by_stage (Some stage) stands = ap (shift_row stage) (by_origin version.origin keeps place stage elsewhere stands)

-- ---- places with no row can be filtered out

rows_of : (f : ℕ → Option Row) (test : ℕ → Bool) → ((place : ℕ) → test place ≡ false → f place ≡ None) → (places : List ℕ) → filter_map f (filter test places) ≡ filter_map f places
rows_of f test none [] = refl
rows_of f test none (place ∷ places) = elim (cases_Bool (test place)) [
  | inl passes ↦ ap (filter_map f) (cond-true (test place) (place ∷ filter test places) (filter test places) passes) ∙ ap (λ rest. cons_option (f place) rest) (rows_of f test none places)
  | inr fails ↦
      ap (filter_map f) (cond-false (test place) (place ∷ filter test places) (filter test places) fails) ∙ rows_of f test none places
      ∙ ap (λ here. cons_option here (filter_map f places)) (sym (none place fails))
]

-- the touched places give what all places give
pub rows_of_touched : (version : PlainVersion) → IfSome version.origin (λ origin. KeepsOthers origin version.graph)
    → rows_at Shifts version version (touched_by_place version) ≡ rows_at Shifts version version (all_places version.graph.places)
rows_of_touched version keeps =
    rows_of (row_at Shifts version version) (λ place. is_among place (touched_of version)) (no_row version keeps) (all_places version.graph.places)
