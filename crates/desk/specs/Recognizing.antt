-- Whether a version is one of a desk's versions.
use Rattle.std.specs.Prelude.{◌≡◌, ◌≤◌, ◌≢◌, length, IsSomeAnd, slice_get, Result, Ok, Err}
use Rattle.version_store.specs.Plain.{PlainVersion}
use Rattle.desk.specs.declared.fault.EditFault.{EditFault}
use Rattle.desk.specs.declared.fault.EditFault.TheVariants as fault
use Rattle.desk.specs.Clients.{ClientView, IsSeen}

-- the desk's version has the number and the graph; or none of that number has been seen, or that one has another graph, or memory ran out
abbrev pub Recognizes : PlainVersion → Result PlainVersion EditFault → ClientView → Type 0
Recognizes version (Ok known) d = (known.number ≡ version.number) × (known.graph ≡ version.graph) × IsSeen d known
Recognizes version (Err fault.NoVersion) d = length d.seen ≤ version.number
Recognizes version (Err (fault.Foreign number)) d = (number ≡ version.number) × IsSomeAnd (slice_get d.seen version.number) (λ known. known.graph ≢ version.graph)
Recognizes version (Err (fault.Table refusal)) d = ⊥
Recognizes version (Err (fault.Edits refusal)) d = ⊥
Recognizes version (Err fault.Memory) d = Unit {0}
