use Rattle.std.proofs.Common.{◌≡◌, ◌++◌, take}
use Rattle.std.specs.Prelude.{string_bytes}
use Rattle.std.specs.List.{flat_map}
use Rattle.trace_relations.specs.Calls.{aim_texts}
use Rattle.trace_relations.specs.Keys.{AreShort, key_of}
use Rattle.trace_relations.proofs.calls.push_target.Given as goal

-- what was called so far
abbrev pub invariant-loop-aim : goal.invariant-loop-aim
invariant-loop-aim l = record {
  texts : string_bytes l.key ≡ string_bytes l.fn.key ++ key_of (flat_map aim_texts (take l.aim-index l.target));
  short : AreShort (flat_map aim_texts (take l.aim-index l.target));
}
