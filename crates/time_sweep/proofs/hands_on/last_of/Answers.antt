use Rattle.std.proofs.Common.{sym, subst, ⊎_elim}
use Rattle.std.specs.Prelude.{Contains}
use Rattle.std.proofs.lemmas.List.Elements.{Contains-get_or}
use Rattle.stage_ops.specs.SourceLaws.{contains_named}
use Rattle.time_sweep.proofs.hands_on.last_of.Goals as goal

pub loop-place-init : goal.loop-place-init
loop-place-init c = contains_named c.args.sources.now 0 c.in_ok-first.first.now (sym c.in_ok-first.ensures.value)

pub loop-place-preserved : goal.loop-place-preserved
loop-place-preserved c =
    let places = c.args.sources.now in
    let k = c.loop-place.place-index in
    ⊎_elim
    (λ same. subst (Contains places) (sym same) c.loop-place.invariant)
    (λ same. subst (Contains places) (sym same) (Contains-get_or places k 0 c.loop-place-test.true))
    c.later_of-last.ensures
