use Rattle.std.proofs.Common.{◌≡◌, ◌++◌, take}
use Rattle.std.specs.Prelude.{string_bytes}
use Rattle.trace_relations.specs.Keys.{AreShort, key_of}
use Rattle.trace_relations.proofs.key.push_texts.Given as goal

-- the texts so far
abbrev pub invariant-loop-text : goal.invariant-loop-text
invariant-loop-text l = record {
  texts : string_bytes l.key ≡ string_bytes l.fn.key ++ key_of (take l.text-index l.texts);
  short : AreShort (take l.text-index l.texts);
}
