-- How large a JSON value is, as far as an expression is read in it.
use Rattle.std.proofs.Common.{ℕ, suc, ◌+◌}
use Rattle.serde_json.specs.Data.{Data, array, Items, no_items, item}

abbrev mutual
  pub size : Data → ℕ
  size (array ds) = suc (items_size ds)
  size others = 0

  pub items_size : Items → ℕ
  items_size no_items = 0
  items_size (item d ds) = suc (size d + items_size ds)
