use Rattle.std.proofs.Common.{◌+◌, ◌≤◌, ◌++◌, ◌∙◌, List, ℕ, is_ok, take, take_all, sym, ap, subst, arith}
use Rattle.std.specs.Prelude.{All, IsOk}
use Rattle.std.specs.List.{flat_map, sum_by}
use Rattle.std.proofs.lemmas.List.Elements.{All-get_or, All-more, All-nil}
use Rattle.reply_rescue.specs.declared.rescue.Rescue.{Rescue}
use Rattle.reply_rescue.specs.Found.{count_in, saved_in}
use Rattle.reply_rescue.proofs.Gathering.{counted_more, saved_more}
use Rattle.reply_rescue.proofs.rescues.found_among.Goals as goal

pub loop-one-init : goal.loop-one-init
loop-one-init c = record { count = cc; few = omega arith; saved = c.new-saved.ensures.items; all = All-nil (λ one. IsOk one) }

pub loop-one-preserved : goal.loop-one-preserved
loop-one-preserved c =
    let tried = c.args.tried.now in
    let k = c.loop-one.one-index in
    let inv = c.loop-one.invariant in
    let one = c.one-item.result in
    let few : count_in one ≤ 64 = subst (λ one. count_in one ≤ 64) (sym c.one-item.is) (All-get_or (λ one. count_in one ≤ 64) tried k one c.loop-one-test.true c.requires.counts) in
    record {
      count =
          ap (λ (count : ℕ). count + c.in-Ok.found.tried) inv.count
          ∙ ap (λ (more : ℕ). sum_by count_in (take k tried) + more) (sym (ap count_in c.in-Ok.is))
          ∙ sym (counted_more tried k one c.loop-one-test.true c.one-item.is);
      few = omega (arith, few, inv.few, ap count_in c.in-Ok.is);
      saved =
          c.in_ok-extend_from_slice-in-Ok.ensures.items
          ∙ ap (λ (saved : List Rescue). saved ++ c.as_slice.result.now) inv.saved
          ∙ ap (λ (more : List Rescue). flat_map saved_in (take k tried) ++ more) (c.as_slice.ensures.value ∙ sym (ap saved_in c.in-Ok.is))
          ∙ sym (saved_more tried k one c.loop-one-test.true c.one-item.is);
      all = All-more (λ one. IsOk one) tried k one c.loop-one-test.true inv.all (ap is_ok (sym c.one-item.is ∙ c.in-Ok.is));
    }

pub returns-clause-tried : goal.returns-clause-tried
returns-clause-tried c = c.loop-one.invariant.count ∙ ap (sum_by count_in) (take_all c.loop-one.one-index c.args.tried.now c.loop-one-test.false)

pub returns-clause-saved : goal.returns-clause-saved
returns-clause-saved c = c.loop-one.invariant.saved ∙ ap (flat_map saved_in) (take_all c.loop-one.one-index c.args.tried.now c.loop-one-test.false)

pub returns-clause-all : goal.returns-clause-all
returns-clause-all c = subst (All (λ one. IsOk one)) (take_all c.loop-one.one-index c.args.tried.now c.loop-one-test.false) c.loop-one.invariant.all
