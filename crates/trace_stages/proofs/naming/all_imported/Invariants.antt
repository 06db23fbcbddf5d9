use Rattle.std.proofs.Common.{◌≡◌, map, take}
use Rattle.trace_stages.specs.Naming.{imported, plain_stages}
use Rattle.trace_stages.specs.Scene.{plain_scene}
use Rattle.trace_stages.proofs.naming.all_imported.Given as goal

-- those so far
abbrev pub invariant-loop-id : goal.invariant-loop-id
invariant-loop-id l = plain_stages l.stages.items ≡ map (imported (plain_scene l.scene)) (take l.id-index l.ids)
