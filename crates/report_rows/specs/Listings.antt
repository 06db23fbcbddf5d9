-- The rows of the reports that list stages; `against` is the version that two of them compare with.
use Rattle.std.specs.Prelude.{ℕ, List, Option, Some, filter_map}
use Rattle.std.specs.Option.{option_and_then}
use Rattle.stage_graph.specs.declared.stage.Stage.{Stage}
use Rattle.stage_graph.specs.Plain.{stage_at}
use Rattle.version_store.specs.Plain.{PlainVersion}
use Rattle.report_rows.specs.declared.listing.Listing.{Listing}
use Rattle.report_rows.specs.declared.listing.Listing.TheVariants.{States, Times, Steps, Changes, Shifts, ChangesAgainst, ShiftsAgainst}
use Rattle.report_rows.specs.declared.row.Row.{Row}
use Rattle.report_rows.specs.Rows.{change_against_row, change_row, shift_row, state_row, step_row, times_row}
use Rattle.report_rows.specs.Shifts.{shift_against, shift_at}

-- the row of a stage, if it has one
abbrev pub row_of : Listing → PlainVersion → PlainVersion → ℕ → Stage → Option Row
row_of States version against place stage = Some (state_row version.graph place stage)
row_of Times version against place stage = Some (times_row version.graph place stage)
row_of Steps version against place stage = Some (step_row version.graph place stage)
row_of Changes version against place stage = Some (change_row version place stage)
row_of Shifts version against place stage = shift_row stage (shift_at version place)
row_of ChangesAgainst version against place stage = change_against_row version against place stage
row_of ShiftsAgainst version against place stage = shift_row stage (shift_against version against place stage)

-- the same at a place; none at an empty one
abbrev pub row_at : Listing → PlainVersion → PlainVersion → ℕ → Option Row
row_at listing version against place = option_and_then (row_of listing version against place) (stage_at version.graph.places place)

-- the rows of the stages at these places, in order
abbrev pub rows_at : Listing → PlainVersion → PlainVersion → List ℕ → List Row
rows_at listing version against places = filter_map (row_at listing version against) places
