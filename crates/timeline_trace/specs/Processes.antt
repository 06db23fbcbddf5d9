-- The process of a row.
use Rattle.std.specs.Prelude.{ℕ, ◌+◌, Bool, List, [], ◌∷◌, ◌++◌, bytes_eq, codes, if◌then◌else◌, string_bytes}
use Rattle.timeline_svg.specs.Services.{service_of}
use Rattle.timeline_svg.specs.declared.row.Row.{Row}
use Rattle.timeline_trace.specs.declared.labels.Labels.{Labels}
use Rattle.timeline_trace.specs.declared.labels.Track.{Track}

abbrev pub is_of : List ℕ → Row → Bool
is_of service row = bytes_eq (service_of (string_bytes row.name)) service

-- the number of the first row of a service
abbrev pub process_in : List Row → List ℕ → ℕ
process_in [] service = 1
process_in (row ∷ rows) service = if is_of service row then 1 else process_in rows service + 1

-- a process for each service, and one for all where no services are told
abbrev pub process_of : Labels → List Row → List ℕ → ℕ
process_of labels rows name = if labels.has_services then process_in rows (service_of name) else 1

-- where the row of a number and a name stands
abbrev pub track_of : Labels → List Row → ℕ → List ℕ → Track
track_of labels rows number name = record { process = process_of labels rows name; row = number }

-- the title, and before it the service
abbrev pub process_title : Labels → List ℕ → List ℕ → List ℕ
process_title labels title name = if labels.has_services then service_of name ++ codes ": " ++ title else title
