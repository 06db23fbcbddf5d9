use Rattle.std.proofs.Common.{All, subst}
use Rattle.std.specs.Str.{IsUtf8}
use Rattle.trace_import.proofs.texts.has_texts.Goals as goal

pub returns : goal.returns
returns c = record { id = subst IsUtf8 c.as_str.ensures c.as_str.utf8; clock = subst (All IsUtf8) c.parts.ensures c.are_texts.ensures }
