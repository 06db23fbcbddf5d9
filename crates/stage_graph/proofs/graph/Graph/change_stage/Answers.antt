use Rattle.std.proofs.Common.{◌∙◌, Ok, Err, ap, sym, subst}
use Rattle.stage_graph.specs.Names.{found}
use Rattle.stage_graph.specs.Edits.{IsAnswer, standing}
use Rattle.stage_graph.proofs.Changing.{standing_refused, changed_is, is_change, change_stands}
use Rattle.stage_graph.proofs.graph.Graph.change_stage.Goals as goal

pub returns-in-Err : goal.returns-in-Err
returns-in-Err g c =
    subst (IsAnswer (Err c.in-Err.fault)) (changed_is c.args.self.now c.args.name.now c.args.edit.now (found c.names.result.now) c.names.ensures.table c.in-Some.stage.now c.in-Some.ensures.stage)
    (standing_refused c.args.self.now c.in-Err.fault _ c.in-Err.ensures)

pub replace-requires-clause-stands : goal.replace-requires-clause-stands
replace-requires-clause-stands g c κs within =
    change_stands c.args.self.now c.args.name.now c.args.edit.now (found c.names.result.now) c.names.ensures.table c.in-Some.stage.now c.in-Some.ensures.stage
    c.in-Ok.stage c.in-Ok.ensures c.in-Some.ensures.sound c.in-Some.ensures.stands

pub replace-requires-clause-sound : goal.replace-requires-clause-sound
replace-requires-clause-sound g c κs within =
    (is_change c.args.self.now c.args.name.now c.args.edit.now (found c.names.result.now) c.names.ensures.table c.in-Some.stage.now c.in-Some.ensures.stage
    c.in-Ok.stage c.in-Ok.ensures c.in-Some.ensures.sound c.in-Some.ensures.stands).sound

pub returns : goal.returns
returns g c =
    sym (changed_is c.args.self.now c.args.name.now c.args.edit.now (found c.names.result.now) c.names.ensures.table c.in-Some.stage.now c.in-Some.ensures.stage)
    ∙ ap (standing c.args.self.now) c.in-Ok.ensures ∙ ap Ok (sym c.in_ok-replace.ensures)
