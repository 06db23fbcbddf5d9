use Rattle.std.proofs.Common.{take}
use Rattle.std.specs.Prelude.{map}
use Rattle.report_rows.specs.Names.{bytes_of}
use Rattle.report_json.specs.Json.{text}
use Rattle.report_json.specs.Tokens.{TellsItems}
use Rattle.report_json.proofs.names.push_names.Given as goal
use Rattle.std.proofs.Common.{◌∷◌, [], ◌++◌}
use Rattle.json.specs.Token.{begin_array}

-- those so far
abbrev pub invariant-loop-name : goal.invariant-loop-name
invariant-loop-name l = TellsItems (map text (bytes_of (take l.name-index l.names))) (l.fn.line ++ begin_array ∷ []) l.line
