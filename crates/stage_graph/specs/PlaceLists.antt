-- Where a list of places keeps them. No public clause cites this module.
use Rattle.std.specs.Prelude.{ℕ, List}
use Rattle.stage_graph.specs.declared.places.Items.{Items}
use Rattle.stage_graph.specs.declared.places.Items.TheVariants.{Few, Many}

-- the places, in order
abbrev pub items_in : Items → List ℕ
items_in (Few places) = places
items_in (Many places) = places.items
