use Rattle.std.proofs.Common.{◌≡◌}
use Rattle.serde_json.specs.Events.{items_len}
use Rattle.trace_spans.specs.Tags.{tags_of}
use Rattle.trace_spans.proofs.tags.Tags.add_items.Given as goal

-- the tags so far, and those that are left go in after them
abbrev pub invariant-loop-tag : goal.invariant-loop-tag
invariant-loop-tag l = tags_of l.form l.list l.fn.self l.fn.items ≡ tags_of l.form l.list l.self l.items

abbrev pub decreases-loop-tag : goal.decreases-loop-tag
decreases-loop-tag l = items_len l.items
