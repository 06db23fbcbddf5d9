-- What the rows are for.
use Rattle.std.specs.Prelude.{ℕ, ◌≡◌, ◌*◌, ◌==◌, Bool, true, false, List, [], ◌∷◌, ◌++◌, Option, None, Some, IsPermutation, bytes_eq, map, position, unwrap_or, if◌then◌else◌}
use Rattle.std.specs.List.Sorted.{IsNonDecreasingBy, IsStableByKey}
use Rattle.std.specs.Ordering.{nat_cmp}
use Rattle.stage_graph.specs.Plain.{PlainGraph, name_of, stage_at}
use Rattle.timeline_svg.specs.Services.{service_of}
use Rattle.version_rows.specs.declared.candidate.Candidate.{Candidate}
use Rattle.version_rows.specs.declared.line.Line.{Line}
use Rattle.version_rows.specs.declared.line.Line.TheVariants.{Stage, Service}
use Rattle.version_rows.specs.declared.room.Room.{Room}
use Rattle.version_rows.specs.declared.room.Room.TheVariants.{Picture, Services, Events}

-- ---- by service

-- the service of the stage at a place
abbrev pub service_at : PlainGraph → ℕ → List ℕ
service_at graph place = service_of (name_of (stage_at graph.places place))

abbrev pub is_of : PlainGraph → List ℕ → Candidate → Bool
is_of graph service candidate = bytes_eq (service_at graph candidate.place) service

-- which of the candidates is the first of the service of the stage at a place
abbrev pub number_at : PlainGraph → List Candidate → ℕ → ℕ
number_at graph chosen place = unwrap_or (position (is_of graph (service_at graph place)) chosen) 0

abbrev pub numbered_of : PlainGraph → List Candidate → Candidate → Candidate
numbered_of graph chosen candidate = record candidate { service = number_at graph chosen candidate.place }

-- the candidates with the numbers of their services
abbrev pub numbered : PlainGraph → List Candidate → List Candidate
numbered graph chosen = map (numbered_of graph chosen) chosen

abbrev pub service_in : Candidate → ℕ
service_in candidate = candidate.service

-- those of a service together, in their order, and the services in that of their first ones
pub record IsGrouped (graph : PlainGraph) (chosen grouped : List Candidate) : Type 0 where
  pub same : IsPermutation (numbered graph chosen) grouped
  pub by_service : IsNonDecreasingBy service_in grouped
  pub in_order : IsStableByKey service_in nat_cmp (numbered graph chosen) grouped

-- a service is not the one before
abbrev pub begins : Option ℕ → ℕ → Bool
begins None service = true
begins (Some before) service = if before == service then false else true

-- a candidate's row, and before it that of its service, where that begins
abbrev pub lines_at : Option ℕ → Candidate → List Line
lines_at before candidate = if begins before candidate.service then Service candidate ∷ Stage candidate ∷ [] else Stage candidate ∷ []

abbrev pub lines_after : Option ℕ → List Candidate → List Line
lines_after before [] = []
lines_after before (candidate ∷ candidates) = lines_at before candidate ++ lines_after (Some candidate.service) candidates

-- ---- in each room

-- below the name of its service each candidate has a row
abbrev pub IsByService : PlainGraph → List Candidate → List Line → Type 0
IsByService graph chosen lines = (grouped : List Candidate) × IsGrouped graph chosen grouped × (lines ≡ lines_after None grouped)

-- each candidate has a row, in their order or by service
abbrev pub IsLaidOut : Room → PlainGraph → List Candidate → List Line → Type 0
IsLaidOut Picture graph chosen lines = lines ≡ map Stage chosen
IsLaidOut Services graph chosen lines = IsByService graph chosen lines
IsLaidOut Events graph chosen lines = lines ≡ map Stage chosen

-- as many as the candidates, and by service each may have a heading
abbrev pub most_lines : Room → ℕ → ℕ
most_lines Picture candidates = candidates
most_lines Services candidates = 2 * candidates
most_lines Events candidates = candidates
