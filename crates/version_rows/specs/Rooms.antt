-- How many rows there is room for.
use Rattle.std.specs.Prelude.{ℕ}
use Rattle.version_rows.specs.declared.room.Room.{Room}
use Rattle.version_rows.specs.declared.room.Room.TheVariants.{Picture, Services, Events}

-- 200 rows with their axes are less than 4,000 units high, as are 100 of which each has a heading
abbrev pub most_rows : Room → ℕ
most_rows Picture = 200
most_rows Services = 100
most_rows Events = 2000
