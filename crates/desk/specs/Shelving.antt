-- What lies on the shelf, by the witness that shows it.
use Rattle.std.specs.Prelude.{◌≡◌, ◌+◌, List, length, Some, slice_get}
use Rattle.boxcar.specs.Table.{Shelves, Where, Shows}
use Rattle.version_store.specs.Plain.{PlainVersion}

-- the witness shows that this version lies on the shelf, at its number
abbrev pub IsShelved : Shelves → Where PlainVersion → PlainVersion → Type 0
IsShelved shelf witness version = Shows shelf witness × (witness.index ≡ version.number) × (witness.value ≡ version)

-- the witness shows that the last of these versions lies on the shelf, at its place in the list
abbrev pub IsLastShelved : Shelves → Where PlainVersion → List PlainVersion → Type 0
IsLastShelved shelf witness versions = Shows shelf witness × (witness.index + 1 ≡ length versions) × (slice_get versions witness.index ≡ Some witness.value)
