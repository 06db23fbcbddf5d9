use Rattle.std.proofs.Common.{◌≡◌, map, take}
use Rattle.trace_stages.specs.Naming.{name_of}
use Rattle.trace_stages.specs.Scene.{plain_scene}
use Rattle.trace_stages.proofs.naming.names_of.Given as goal

-- those so far
abbrev pub invariant-loop-id : goal.invariant-loop-id
invariant-loop-id l = l.names.items ≡ map (name_of (plain_scene l.scene)) (take l.id-index l.ids)
