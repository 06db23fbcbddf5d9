use Rattle.std.proofs.Common.{ℕ, List, Option, ◌∙◌, sym, subst, arith}
use Rattle.act_expr.specs.declared.outcome.Mode.TheVariants.{Computed}
use Rattle.stage_graph.specs.Names.{found}
use Rattle.stage_graph.specs.Loading.{AreFirst, IsRefused}
use Rattle.stage_graph.proofs.Lists.{same_function}
use Rattle.stage_graph.proofs.Loads.{by_list, stages_by_list, few_specs, low_specs}
use Rattle.stage_graph.proofs.load.parts_of.Goals as goal

pub unreachable-requires : goal.unreachable-requires
unreachable-requires g c =
    omega (arith, few_specs Computed c.args.specs.now (sym (by_list (found c.in_ok-names.names.table) c.args.specs.now c.in_ok-names.ensures.table) ∙ sym c.in-None.ensures), c.if-specs-gt-MOST_PLACES.true)

pub returns-then-specs-gt-MOST_PLACES-clause-fault : goal.returns-then-specs-gt-MOST_PLACES-clause-fault
returns-then-specs-gt-MOST_PLACES-clause-fault g c = sym (by_list (found c.in_ok-names.names.table) c.args.specs.now c.in_ok-names.ensures.table) ∙ sym c.in-Some.ensures

pub stages_of-requires-clause-low : goal.stages_of-requires-clause-low
stages_of-requires-clause-low g c κs within = λ name.
    low_specs c.args.specs.now (omega (arith, c.if-specs-gt-MOST_PLACES.false)) name (found c.in_ok-names.names.table name) (c.in_ok-names.ensures.table name)

pub stages_of-requires-clause-first : goal.stages_of-requires-clause-first
stages_of-requires-clause-first g c κs within = λ distinct.
    subst (λ (find : List ℕ → Option ℕ). AreFirst find 0 c.args.specs.now) (sym (same_function c.in_ok-names.ensures.table)) (c.in_ok-names.ensures.distinct distinct)

pub returns-in-Err-clause-fault : goal.returns-in-Err-clause-fault
returns-in-Err-clause-fault g c = subst (λ first. IsRefused first c.in-Err.fault) (by_list (found c.in_ok-names.names.table) c.args.specs.now c.in_ok-names.ensures.table) c.in-Err.ensures.fault

pub returns-in-Ok-clause-passes : goal.returns-in-Ok-clause-passes
returns-in-Ok-clause-passes g c = sym (by_list (found c.in_ok-names.names.table) c.args.specs.now c.in_ok-names.ensures.table) ∙ c.in-Ok.ensures.passes

pub returns-in-Ok-clause-stages : goal.returns-in-Ok-clause-stages
returns-in-Ok-clause-stages g c = c.in-Ok.ensures.stages ∙ stages_by_list (found c.in_ok-names.names.table) c.args.specs.now c.in_ok-names.ensures.table
