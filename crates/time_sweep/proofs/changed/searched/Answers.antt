use Rattle.std.proofs.Common.{◌∙◌, Option, Some, sym, ap, rules}
use Rattle.std.proofs.lemmas.List.Sorted.{answers_always}
use Rattle.stage_graph.specs.declared.stage.Stage.{Stage}
use Rattle.time_sweep.proofs.ChangedStages.{found_by_search, missed_by_search}
use Rattle.time_sweep.proofs.changed.searched.Goals as goal

-- the closure gives a stage's place
pub returns-in-Ok : goal.returns-in-Ok
returns-in-Ok c =
    let found = c.in-Ok.ensures.position (λ (stage : Stage). stage.place) (answers_always _ _ _ (λ f a r q called. search rules)) in
    let stage = c.index-changed-at.result in
    ap (λ (one : Stage). Some one) c.index-changed-at.is ∙ sym (found_by_search c.args.changed.now c.requires c.args.place c.in-Ok.at c.in-Ok.ensures.bound found stage)

pub returns-in-Err : goal.returns-in-Err
returns-in-Err c =
    let missed = c.in-Err.ensures.position (λ (stage : Stage). stage.place) (answers_always _ _ _ (λ f a r q called. search rules)) in
    sym (missed_by_search c.args.changed.now c.requires c.args.place c.in-Err.field-0 missed)
