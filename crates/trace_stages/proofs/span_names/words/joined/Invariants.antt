use Rattle.std.proofs.Common.{◌≡◌, drop}
use Rattle.std.specs.Prelude.{string_bytes}
use Rattle.std.specs.Str.{IsAscii}
use Rattle.trace_stages.specs.Words.{joined}
use Rattle.trace_stages.proofs.WordJoining.{joined_from}
use Rattle.trace_stages.proofs.span_names.words.joined.Given as goal

pub record Joining (Joins Ascii : Type 0) : Type 0 where
  pub joins : Joins
  pub ascii : Ascii

-- the words so far, and those that are left
abbrev pub invariant-loop-byte : goal.invariant-loop-byte
invariant-loop-byte l = Joining
    (joined l.text ≡ joined_from (string_bytes l.words) l.is_apart (drop l.byte-index l.text))
    (IsAscii (string_bytes l.words))
