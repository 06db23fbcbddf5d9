use Rattle.std.proofs.Common.{◌≡◌, length, drop}
use Rattle.std.specs.List.{slice_split}
use Rattle.change_words.specs.Changes.{is_space, with_parts}
use Rattle.change_words.proofs.change.Change.with_parts.Given as goal

-- what all parts assign is what those that are left assign
abbrev pub invariant-loop-part : goal.invariant-loop-part
invariant-loop-part l =
    with_parts (slice_split is_space l.parts) l.fn.self ≡ with_parts (drop (length l.yielded) (slice_split is_space l.parts)) l.change
