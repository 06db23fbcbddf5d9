use Rattle.std.proofs.Common.{◌≡◌}
use Rattle.serde_json.specs.Events.{items_len}
use Rattle.trace_spans.specs.Exceptions.{first_tag}
use Rattle.trace_spans.proofs.exception.found_tag_with_key.Given as goal

-- none of the tags so far has the key
abbrev pub invariant-loop-tag : goal.invariant-loop-tag
invariant-loop-tag l = first_tag l.list l.key l.initial.tags ≡ first_tag l.list l.key l.tags

abbrev pub decreases-loop-tag : goal.decreases-loop-tag
decreases-loop-tag l = items_len l.tags
