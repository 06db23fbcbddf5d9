-- The words by which a picture is asked for.
use Rattle.std.specs.Prelude.{ℕ, List, Option, None, Some, bytes_eq, codes, if◌then◌else◌}
use Rattle.version_rows.specs.declared.candidate.Scope.{Scope}
use Rattle.version_rows.specs.declared.candidate.Scope.TheVariants.{All, Path}
use Rattle.recording_pictures.specs.declared.asked.Form.{Form}
use Rattle.recording_pictures.specs.declared.asked.Form.TheVariants.{Svg, TraceEvents}

abbrev pub form_named : List ℕ → Option Form
form_named word =
    if bytes_eq word (codes "svg") then Some Svg
    else if bytes_eq word (codes "trace") then Some TraceEvents
    else None

abbrev pub scope_named : List ℕ → Option Scope
scope_named word =
    if bytes_eq word (codes "all") then Some All
    else if bytes_eq word (codes "path") then Some Path
    else None
