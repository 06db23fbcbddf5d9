use Rattle.std.proofs.Common.{◌≡◌, take}
use Rattle.stage_graph.specs.Kept.{edited_places}
use Rattle.stage_graph.proofs.edit.Edits.edited_places.Given as goal

-- the places of the edits so far
abbrev pub invariant-loop-edit : goal.invariant-loop-edit
invariant-loop-edit g l = l.places ≡ edited_places (take l.edit-index l.self) l.old.places l.new.places
