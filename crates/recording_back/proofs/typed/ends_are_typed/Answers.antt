use Rattle.std.proofs.Common.{sym, take, subst, take_all}
use Rattle.std.proofs.lemmas.List.Elements.{All-more, All-same}
use Rattle.stage_graph.specs.declared.end.End.{End}
use Rattle.recording.specs.WrittenStages.{IsAct}
use Rattle.recording_back.proofs.typed.ends_are_typed.Goals as goal

pub loop-end-preserved : goal.loop-end-preserved
loop-end-preserved c =
    All-more (λ (end : End). IsAct end.act) c.args.ends.now c.loop-end.end-index c.end-item.result c.loop-end-test.true c.loop-end.invariant
    (subst (λ (end : End). IsAct end.act) c.end-item.is c.act_is_typed.ensures)

pub returns : goal.returns
returns c =
    All-same (λ (end : End). IsAct end.act) c.args.ends.now (take c.loop-end.end-index c.args.ends.now)
    (sym (take_all c.loop-end.end-index c.args.ends.now c.loop-end-test.false)) c.loop-end.invariant
