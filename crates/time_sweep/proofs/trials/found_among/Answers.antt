use Rattle.std.proofs.Common.{◌++◌, ◌∙◌, List, is_ok, take, take_all, sym, ap, subst}
use Rattle.std.specs.Prelude.{All, IsOk}
use Rattle.std.specs.List.{flat_map}
use Rattle.std.proofs.lemmas.List.Elements.{All-more, All-nil}
use Rattle.time_sweep.specs.declared.trial.Trial.{Trial}
use Rattle.time_sweep.specs.Tried.{trials_in}
use Rattle.time_sweep.proofs.Trying.{joined_more}
use Rattle.time_sweep.proofs.trials.found_among.Goals as goal

pub loop-one-init : goal.loop-one-init
loop-one-init c = record { found = c.new-found.ensures.items; all = All-nil (λ one. IsOk one) }

pub loop-one-preserved : goal.loop-one-preserved
loop-one-preserved c =
    let tried = c.args.tried.now in
    let k = c.loop-one.one-index in
    let inv = c.loop-one.invariant in
    record {
      found =
          c.in_ok-extend_from_slice-in-Ok.ensures.items
          ∙ ap (λ (found : List Trial). found ++ c.as_slice.result.now) inv.found
          ∙ ap (λ (more : List Trial). flat_map trials_in (take k tried) ++ more) (c.as_slice.ensures.value ∙ sym (ap trials_in c.in-Ok.is))
          ∙ sym (joined_more tried k c.one-item.result c.loop-one-test.true c.one-item.is);
      all = All-more (λ one. IsOk one) tried k c.one-item.result c.loop-one-test.true inv.all (ap is_ok (sym c.one-item.is ∙ c.in-Ok.is));
    }

pub returns-clause-found : goal.returns-clause-found
returns-clause-found c = c.loop-one.invariant.found ∙ ap (flat_map trials_in) (take_all c.loop-one.one-index c.args.tried.now c.loop-one-test.false)

pub returns-clause-all : goal.returns-clause-all
returns-clause-all c = subst (All (λ one. IsOk one)) (take_all c.loop-one.one-index c.args.tried.now c.loop-one-test.false) c.loop-one.invariant.all
