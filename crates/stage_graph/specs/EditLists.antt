-- Lists of edits.
use Rattle.std.specs.Prelude.{◌||◌, nat_eq, nat_lt, List, length, Result, Ok, Err, if◌then◌else◌}
use Rattle.stage_graph.specs.declared.edit.Edit.{Edit}
use Rattle.stage_graph.specs.declared.fault.ListSize.{ListSize}

-- the list, where it has 1 to 64 edits
abbrev pub edit_list : List Edit → Result (List Edit) ListSize
edit_list edits = if nat_eq (length edits) 0 || nat_lt 64 (length edits) then Err (record {}) else Ok edits
