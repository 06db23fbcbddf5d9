use Rattle.std.proofs.Common.{◌≡◌, ◌++◌, take}
use Rattle.std.specs.Prelude.{string_bytes}
use Rattle.std.specs.List.{flat_map}
use Rattle.report_rows.specs.Names.{bytes_of}
use Rattle.report_text.specs.Texts.{spaced}
use Rattle.report_text.proofs.names.push_names.Given as goal

-- the names so far
abbrev pub invariant-loop-name : goal.invariant-loop-name
invariant-loop-name l = string_bytes l.line ≡ string_bytes l.fn.line ++ flat_map spaced (bytes_of (take l.name-index l.names))
