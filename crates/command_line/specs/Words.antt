-- What the words of the command line ask for. Where an option is left out it has no word.
use Rattle.std.specs.Prelude.{ℕ, ◌-◌, ◌^◌, Bool, List, Option, None, Some, bytes_eq, codes, nat_lt, unwrap_or, if◌then◌else◌}
use Rattle.std.specs.Option.{option_map}
use Rattle.fleet_summary.specs.declared.group_by.GroupBy.{GroupBy}
use Rattle.fleet_summary.specs.declared.group_by.GroupBy.TheVariants as grouping
use Rattle.command_line.specs.declared.input.Input.{Input}
use Rattle.command_line.specs.declared.input.Input.TheVariants.{Standard, File}
use Rattle.command_line.specs.declared.manner.Format.{Format}
use Rattle.command_line.specs.declared.manner.Format.TheVariants.{Text, Json}
use Rattle.command_line.specs.declared.picture.PictureFormat.{PictureFormat}
use Rattle.command_line.specs.declared.picture.PictureFormat.TheVariants.{Svg, TraceEvents}
use Rattle.command_line.specs.declared.picture.Rows.{Rows}
use Rattle.command_line.specs.declared.picture.Rows.TheVariants as rows
use Rattle.command_line.specs.declared.picture.Ticks.{Ticks}
use Rattle.command_line.specs.declared.sweep.Ending.{Ending}
use Rattle.command_line.specs.declared.sweep.Ending.TheVariants.{Any, Value}
use Rattle.command_line.specs.declared.traces.Unit.{Unit}
use Rattle.command_line.specs.declared.traces.Unit.TheVariants.{Microsecond, Nanosecond, Millisecond}
use Rattle.command_line.specs.declared.traces.Reading.{Reading}
use Rattle.command_line.specs.declared.traces.Reading.TheVariants.{Inferred, AsTold}
use Rattle.command_line.specs.declared.trial.Asked.{Asked}
use Rattle.command_line.specs.declared.trial.Asked.TheVariants.{Reports, Recording, Picture}

-- the path of a file; standard input has none
abbrev pub path_of : Input → Option (List ℕ)
path_of Standard = None
path_of (File path) = Some path.now

-- the path that a word names: `-` is standard input
abbrev pub wanted_path : Option (List ℕ) → Option (List ℕ)
wanted_path None = None
wanted_path (Some word) = if bytes_eq word (codes "-") then None else Some word

abbrev pub format_of : Option (List ℕ) → Format
format_of None = Text
format_of (Some word) = if bytes_eq word (codes "json") then Json else Text

abbrev pub picture_format_of : Option (List ℕ) → PictureFormat
picture_format_of None = Svg
picture_format_of (Some word) = if bytes_eq word (codes "trace") then TraceEvents else Svg

abbrev pub rows_of : Option (List ℕ) → Rows
rows_of None = rows.All
rows_of (Some word) = if bytes_eq word (codes "path") then rows.Path else rows.All

-- the last one comes before the first
abbrev pub has_no_tick : Ticks → Bool
has_no_tick ticks = nat_lt (unwrap_or ticks.to (2 ^ 64 - 1)) (unwrap_or ticks.from 0)

abbrev pub unit_of : Option (List ℕ) → Unit
unit_of None = Microsecond
unit_of (Some word) =
    if bytes_eq word (codes "ns") then Nanosecond
    else if bytes_eq word (codes "ms") then Millisecond
    else Microsecond

abbrev pub ending_of : Option (List ℕ) → Ending
ending_of None = Any
ending_of (Some word) = if bytes_eq word (codes "value") then Value else Any

abbrev pub reading_of : Option (List ℕ) → Reading
reading_of None = Inferred
reading_of (Some word) = if bytes_eq word (codes "as-told") then AsTold else Inferred

abbrev pub grouped_by : Option (List ℕ) → GroupBy
grouped_by None = grouping.Span
grouped_by (Some word) = if bytes_eq word (codes "service") then grouping.Service else grouping.Span

-- the stage that is reported on, where reports are asked for; none where no stage is named
abbrev pub told_of : Asked → Option (Option (List ℕ))
told_of (Reports stage) = Some (option_map (λ name. name.now) stage)
told_of Recording = None
told_of (Picture stage) = None

-- the stage whose path is drawn, where a picture is asked for; none where no stage is named
abbrev pub drawn_of : Asked → Option (Option (List ℕ))
drawn_of (Picture stage) = Some (option_map (λ name. name.now) stage)
drawn_of Recording = None
drawn_of (Reports stage) = None
