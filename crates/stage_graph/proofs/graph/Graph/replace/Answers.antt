use Rattle.std.proofs.Common.{◌≡◌, ◌∙◌, sym, ap, true}
use Rattle.stage_graph.specs.Plain.{has_name, stage_at}
use Rattle.stage_graph.specs.Sound.{IsSoundStage}
use Rattle.stage_graph.specs.Names.{found}
use Rattle.stage_graph.proofs.Placing.{sound_after_replace, names_after_replace}
use Rattle.stage_graph.proofs.graph.Graph.replace.Goals as goal

pub invariant_of-result : goal.invariant_of-result
invariant_of-result g c =
    let places = g.R.Stages.Keeps.items c.self.inside.stages in
    let stage = c.args.stage in
    let same = ap (λ graph. graph.places) c.self.view_is in
    let stands : has_name stage.name (stage_at places stage.place) ≡ true = rw same c.requires.stands in
    let sound : IsSoundStage places stage.place stage = rw same c.requires.sound in
    rw (c.in_ok-stages.ensures, c.in_ok-held.ensures) (
      sound_after_replace c.self.inside.mode places stage stands sound c.self.invariant.0,
      λ name. ap (λ table. found table name) c.in_ok-names.ensures ∙ c.self.invariant.1 name ∙ sym (names_after_replace c.self.inside.mode places stage stands name),
    )
