use Rattle.std.proofs.Common.{◌∙◌, ◌++◌, ◌∷◌, [], List, Option, Some, take, take_all, ap, sym}
use Rattle.std.proofs.lemmas.List.{map_more}
use Rattle.span_groups.specs.declared.making.StageOf.{StageOf}
use Rattle.trace_stages.specs.declared.stage.ImportedStage.{ImportedStage}
use Rattle.trace_groups.specs.Stages.{stage_of, stages_of}
use Rattle.trace_groups.proofs.grouping.stages_of.Goals as goal

pub loop-stage-preserved : goal.loop-stage-preserved
loop-stage-preserved c =
    let stages = c.args.stages.now in
    let k = c.loop-stage.stage-index in
    let stage = c.stage-item.result in
    c.in_ok-push.ensures.items
    ∙ ap (λ (of : List (Option StageOf)). of ++ Some c.stage_of.result ∷ []) c.loop-stage.invariant
    ∙ ap (λ (one : StageOf). stages_of (take k stages) ++ Some one ∷ []) (c.stage_of.ensures ∙ ap (λ (stage : ImportedStage). stage_of stage.name) c.stage-item.is)
    ∙ sym (map_more (λ (stage : ImportedStage). Some (stage_of stage.name)) stages k stage c.loop-stage-test.true)

pub returns : goal.returns
returns c = c.loop-stage.invariant ∙ ap stages_of (take_all c.loop-stage.stage-index c.args.stages.now c.loop-stage-test.false)
