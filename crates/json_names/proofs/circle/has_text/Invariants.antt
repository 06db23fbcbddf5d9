use Rattle.std.proofs.Common.{◌≡◌}
use Rattle.std.specs.List.{list_any}
use Rattle.serde_json.specs.Events.{items_len}
use Rattle.json_names.specs.Circles.{is_text, items_of, list_of}
use Rattle.json_names.proofs.circle.has_text.Given as goal

-- one of the elements is the text, if one of those that are left is
abbrev pub invariant-items : goal.invariant-items
invariant-items l = list_any (is_text l.fn.text) (items_of l.fn.member l.fn.object) ≡ list_any (is_text l.fn.text) (list_of l.items)

abbrev pub decreases-items : goal.decreases-items
decreases-items l = items_len l.items
