use Rattle.std.proofs.Common.{◌∙◌, List, Option, sym, ap, subst}
use Rattle.stage_graph.specs.declared.stage.Stage.{Stage}
use Rattle.stage_graph.specs.Plain.{place_named}
use Rattle.stage_graph.specs.Names.{found, place_of}
use Rattle.stage_graph.specs.Sound.{IsSound}
use Rattle.stage_graph.proofs.Loads.{sound_after_load, named_made}
use Rattle.stage_graph.proofs.graph.Graph.of_specs.Goals as goal

pub invariant_of-result : goal.invariant_of-result
invariant_of-result g c =
    let specs = c.args.specs.now in
    let stages = c.in-Ok.ensures.stages in (
      subst (λ (places : List (Option Stage)). IsSound (record { mode = c.args.mode; places = places })) (sym stages) (sound_after_load c.args.mode specs c.in-Ok.ensures.passes),
      λ name. ap (λ table. found table name) c.in_ok-names.ensures ∙ c.in-Ok.ensures.names name ∙ sym (named_made (place_of specs) 0 specs name)
          ∙ ap (λ (places : List (Option Stage)). place_named places name) (sym stages),
    )
