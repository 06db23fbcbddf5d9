use Rattle.std.proofs.Common.{◌≡◌, take}
use Rattle.std.specs.List.{list_all}
use Rattle.trace_spans.specs.Identifiers.{is_hexadecimal}
use Rattle.trace_spans.proofs.identifier.are_hexadecimal.Given as goal

-- whether those so far are
abbrev pub invariant-loop-byte : goal.invariant-loop-byte
invariant-loop-byte l = l.are ≡ list_all is_hexadecimal (take l.byte-index l.bytes)
