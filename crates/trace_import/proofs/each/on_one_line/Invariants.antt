use Rattle.std.proofs.Common.{◌≡◌, filter, nat_eq, not, take}
use Rattle.trace_import.proofs.each.on_one_line.Given as goal

-- the bytes so far, but for line ends
abbrev pub invariant-loop-byte : goal.invariant-loop-byte
invariant-loop-byte l = l.line.items ≡ filter (λ byte. not (nat_eq byte 10)) (take l.byte-index l.text)
