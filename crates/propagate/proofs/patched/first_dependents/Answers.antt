use Rattle.std.proofs.Common.{sym, ap}
use Rattle.stage_graph.specs.Plain.{PlainGraph}
use Rattle.propagate.proofs.FirstDependents.{live_where_named}
use Rattle.propagate.proofs.patched.first_dependents.Goals as goal

pub dependents_of-requires-after_bounds : goal.dependents_of-requires-after_bounds
dependents_of-requires-after_bounds g c κs within =
    rw (ap (λ (graph : PlainGraph). graph.places) c.requires)
    (live_where_named c.args.graph.now.places _ c.in-Some.place (sym c.in-Some.ensures))
