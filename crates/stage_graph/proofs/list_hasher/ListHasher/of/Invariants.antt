use Rattle.std.proofs.Common.{◌≡◌, drop, fold}
use Rattle.stage_graph.specs.declared.stage.Spec.{Spec}
use Rattle.stage_graph.specs.Hashers.{after_name, after_names}
use Rattle.stage_graph.proofs.list_hasher.ListHasher.of.Given as goal

-- the names so far, and then those that are left
abbrev pub invariant-loop-spec : goal.invariant-loop-spec
invariant-loop-spec l = after_names l.specs ≡ fold (λ hasher (spec : Spec). after_name hasher spec.name) l.start (drop l.spec-index l.specs)
