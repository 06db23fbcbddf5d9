use Rattle.std.proofs.Common.{◌≡◌, ◌+◌, ◌*◌, ◌++◌, ◌≤◌, Ok}
use Rattle.serde_json.specs.Data.{depth, items_depth}
use Rattle.serde_json.specs.Events.{items_len}
use Rattle.trace_spans.specs.Members.{then_on}
use Rattle.trace_spans.specs.Spans.{spans_of_items}
use Rattle.trace_spans.proofs.formats.+texts.Given as goal

abbrev pub decreases-add_text : goal.decreases-add_text
decreases-add_text l = 3 * depth l.text.now

abbrev pub decreases-add_list : goal.decreases-add_list
decreases-add_list l = 3 * items_depth l.items + 2

abbrev pub decreases-add_items : goal.decreases-add_items
decreases-add_items l = 3 * items_depth l.items + 1

-- what was read so far, and what the items that are left are
abbrev pub invariant-add_items-items : goal.invariant-add_items-items
invariant-add_items-items l =
    (then_on (spans_of_items l.fn.items) (λ all. Ok (l.fn.spans ++ all)) ≡ then_on (spans_of_items l.items) (λ rest. Ok (l.spans ++ rest)))
    × (items_depth l.items ≤ items_depth l.fn.items)

abbrev pub decreases-add_items-items : goal.decreases-add_items-items
decreases-add_items-items l = items_len l.items
