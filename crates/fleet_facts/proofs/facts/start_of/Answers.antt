use Rattle.std.proofs.Common.{◌≡◌, ◌∙◌, Some, None, Err, ap, sym}
use Rattle.stage_graph.specs.declared.stage.Stage.{Stage}
use Rattle.fleet_facts.proofs.facts.start_of.Goals as goal

nothing : {stage : Stage} → Some stage ≡ None → ⊥
nothing e = cc

-- the stage of a view stands
pub unreachable-requires : goal.unreachable-requires
unreachable-requires g c = nothing (sym c.args.view.now.stands ∙ c.of.ensures.no_stage.0 (c.in-Err-NoStage.is ∙ ap Err c.in-Err-NoStage.field-0-is))
