use Rattle.std.proofs.Common.{◌∙◌, ◌+◌, ◌∷◌, drop, sym, ap, subst}
use Rattle.std.proofs.lemmas.List.{drop_more}
use Rattle.stage_graph.specs.Names.{found}
use Rattle.stage_graph.specs.Loading.{IsRefused, first_refused}
use Rattle.stage_graph.proofs.name_table.NameTable.stages_of.Goals as goal

pub returns-in-Err-clause-fault : goal.returns-in-Err-clause-fault
returns-in-Err-clause-fault g c =
    let find = found c.args.self.now in
    let place = c.loop-place.place in
    let specs = c.args.specs.now in
    let spec = c.index-specs-place.result in
    let later = drop (place + 1) specs in
    let first = c.loop-place.invariant.refused ∙ ap (first_refused find place) (drop_more specs place spec c.loop-place-test.true ∙ ap (λ one. one ∷ later) (sym c.index-specs-place.is)) in
    subst (λ first. IsRefused first c.in-Err.fault) (sym first) (c.in-Err.ensures.fault (first_refused find (place + 1) later))
