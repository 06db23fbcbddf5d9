use Rattle.std.proofs.Common.{◌∙◌, ap}
use Rattle.stage_graph.specs.Names.{found}
use Rattle.stage_graph.proofs.Placing.{low_places}
use Rattle.stage_graph.proofs.graph.Graph.names.Goals as goal

pub returns-clause-low : goal.returns-clause-low
returns-clause-low g c = λ name.
    low_places (g.R.Stages.Keeps.items c.self.inside.stages) c.self.invariant.0.few name (found c.deref.result.now name)
    (ap (λ table. found table name) c.deref.ensures ∙ c.self.invariant.1 name)
