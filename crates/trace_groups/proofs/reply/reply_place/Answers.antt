use Rattle.std.proofs.Common.{◌≡◌, ◌∙◌, Some, ap, subst, sym, arith, true, false, take_all}
use Rattle.std.specs.Prelude.{All}
use Rattle.std.specs.Option.{option_map}
use Rattle.std.proofs.lemmas.List.Elements.{All-more}
use Rattle.std.proofs.lemmas.Option.{slice_get-get_or}
use Rattle.trace_stages.specs.declared.stage.ImportedStage.{ImportedStage}
use Rattle.trace_stages.specs.declared.stage.StageName.{StageName}
use Rattle.trace_groups.specs.Stages.{is_end_of}
use Rattle.trace_groups.proofs.Finding.{whole_is}
use Rattle.trace_groups.proofs.reply.reply_place.Goals as goal

pub loop-place-preserved : goal.loop-place-preserved
loop-place-preserved c =
    let stage = c.index-stages-place.result in
    let fails : is_end_of c.args.span stage.name ≡ false = cc in
    All-more (λ (stage : ImportedStage). is_end_of c.args.span stage.name ≡ false) c.args.stages.now c.loop-place.place stage (omega arith) c.loop-place.invariant
    (ap (λ (one : ImportedStage). is_end_of c.args.span one.name) (sym c.index-stages-place.is) ∙ fails)

pub returns-then-is_end_of-clause-found : goal.returns-then-is_end_of-clause-found
returns-then-is_end_of-clause-found c =
    let stage = c.index-stages-place.result in
    let passes : is_end_of c.args.span stage.name ≡ true = cc in
    ap (option_map (λ (stage : ImportedStage). stage.name)) (slice_get-get_or c.args.stages.now c.loop-place.place stage (omega arith))
    ∙ ap (λ (one : ImportedStage). Some one.name) (sym c.index-stages-place.is)
    ∙ ap (λ (name : StageName). Some name) (whole_is c.args.span stage.name passes)

pub returns-clause-none : goal.returns-clause-none
returns-clause-none c =
    subst (All (λ (stage : ImportedStage). is_end_of c.args.span stage.name ≡ false)) (take_all c.loop-place.place c.args.stages.now (omega arith)) c.loop-place.invariant
