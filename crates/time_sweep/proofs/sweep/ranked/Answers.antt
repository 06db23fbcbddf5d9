use Rattle.std.proofs.Common.{◌≡◌, ◌++◌, ◌∙◌, List, ap, subst}
use Rattle.time_sweep.specs.declared.trial.Trial.{Trial}
use Rattle.time_sweep.specs.Sweep.{failures, values, IsSoonestFirst}
use Rattle.time_sweep.proofs.Soonest.{both_ranked}
use Rattle.time_sweep.proofs.sweep.ranked.Goals as goal

pub returns : goal.returns
returns c =
    let all = c.args.found.items in
    let good = c.in_ok-ranked.ranked.items in
    let bad = c.in_ok-failures.failures.items in
    let copied : c.in_ok-all.all.items ≡ all = c.in_ok-all.ensures.items ∙ c.as_slice.ensures.value in
    let first : IsSoonestFirst (values all) good =
    subst (λ (some : List Trial). IsSoonestFirst some good) c.values_of.ensures
    (record { permutation = c.in_ok-ranked.ensures.permutation; ordered = c.in_ok-ranked.ensures.ordered; by_place = c.in_ok-ranked.ensures.by_place }) in
    let second : IsSoonestFirst (failures all) bad =
    subst (λ (some : List Trial). IsSoonestFirst some bad) (c.failures_of.ensures ∙ ap failures copied)
    (record { permutation = c.in_ok-failures.ensures.permutation; ordered = c.in_ok-failures.ensures.ordered; by_place = c.in_ok-failures.ensures.by_place }) in
    both_ranked all good bad _ first second (c.in_ok-extend_from_slice.ensures.items ∙ ap (λ (more : List Trial). good ++ more) c.as_slice-2.ensures.value)
