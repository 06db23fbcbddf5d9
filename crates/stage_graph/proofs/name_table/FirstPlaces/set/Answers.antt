use Rattle.std.proofs.Common.{◌≡◌, Some, cond, string_bytes, is_some, sym, ap, ◌∙◌}
use Rattle.std.specs.Str.{bytes_eq}
use Rattle.std.proofs.lemmas.Map.Text.{hash_map_text_same, hash_map_updates_text}
use Rattle.indexmap.specs.IndexMap.{get_by_text}
use Rattle.stage_graph.proofs.name_table.FirstPlaces.set.Goals as goal

pub returns-clause-sets : goal.returns-clause-sets
returns-clause-sets c = λ other.
    let key : string_bytes c.in_ok-from_str.field-0 ≡ c.args.name.now = c.in_ok-from_str.ensures.ok in
    let sets = hash_map_updates_text (string_bytes c.in_ok-from_str.field-0) c.args.self.now.places c.insert.new.self _ c.in_ok-old.ensures.updates other in
    let new : get_by_text c.insert.new.self other ≡ cond (bytes_eq c.args.name.now other) (Some c.args.place) (get_by_text c.args.self.now.places other) = rw (← key) sets in
    new

pub returns-clause-new : goal.returns-clause-new
returns-clause-new c =
    let key : string_bytes c.in_ok-from_str.field-0 ≡ c.args.name.now = c.in_ok-from_str.ensures.ok in
    let same = (hash_map_text_same c.in_ok-from_str.field-0 c.args.name.now c.args.self.now.places.entries (sym key)).0 in
    ap is_some (sym same ∙ sym c.in_ok-old.ensures.old) ∙ c.is_none.ensures
