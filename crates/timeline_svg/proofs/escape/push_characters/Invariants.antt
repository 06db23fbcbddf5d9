use Rattle.std.proofs.Common.{◌≡◌, ◌++◌, drop}
use Rattle.std.specs.Prelude.{string_bytes}
use Rattle.std.specs.List.{flat_map}
use Rattle.timeline_svg.specs.Escape.{escaped_character}
use Rattle.timeline_svg.proofs.escape.push_characters.Given as goal

-- what is written and what is left make the whole
abbrev pub invariant-loop-character : goal.invariant-loop-character
invariant-loop-character l =
    string_bytes l.line ++ flat_map escaped_character (drop l.character-index l.characters) ≡ string_bytes l.fn.line ++ flat_map escaped_character l.characters
