use Rattle.std.proofs.Common.{◌≡◌}
use Rattle.std.specs.List.{range_with_len, filter}
use Rattle.stage_graph.specs.Plain.{uses, stage_at}
use Rattle.scratch_eval.proofs.queries.all_dependents.Given as goal

abbrev pub invariant-loop-dependent : goal.invariant-loop-dependent
invariant-loop-dependent g l = l.found.items ≡ filter (λ dependent. uses l.place (stage_at l.graph.places dependent)) (range_with_len 0 l.dependent)
