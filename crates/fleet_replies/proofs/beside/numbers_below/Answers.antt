use Rattle.std.proofs.Common.{◌≡◌, ◌++◌, ◌∷◌, [], ℕ, List, arith, sym, ap, ◌∙◌}
use Rattle.std.specs.List.{range_with_len}
use Rattle.time_sweep.proofs.Hurrying.{range_more}
use Rattle.fleet_replies.proofs.beside.numbers_below.Goals as goal

pub loop-number-init : goal.loop-number-init
loop-number-init c = c.in_ok-numbers.ensures.items

pub loop-number-preserved : goal.loop-number-preserved
loop-number-preserved c =
    c.in_ok-push.ensures.items ∙ ap (λ (places : List ℕ). places ++ c.loop-number.number ∷ []) c.loop-number.invariant ∙ sym (range_more c.loop-number.number)

pub returns : goal.returns
returns c =
    let all : c.loop-number.number ≡ c.args.count = omega (arith, c.loop-number-test.false, c.loop-number.auto.number-end) in
    c.loop-number.invariant ∙ ap (range_with_len 0) all
