use Rattle.std.proofs.Common.{◌<◌, length, ap, arith, rules, tests}
use Rattle.std.specs.Char.{is_ascii_digit}
use Rattle.std.proofs.lemmas.Iterator.{YieldsList-from_slice}
use Rattle.std.proofs.lemmas.Iterator.Search.{all_from_yields_List}
use Rattle.step_words.proofs.Digits.{some_digits}
use Rattle.step_words.proofs.number.are_digits.Goals as goal

pub returns-then-bytes-gt0 : goal.returns-then-bytes-gt0
returns-then-bytes-gt0 c =
    let low : 0 < length c.args.text.now = omega (arith, ap length c.as_bytes-bytes.ensures.value) in
    some_digits c.args.text.now c.all.result low
    (all_from_yields_List is_ascii_digit _ _ c.all.result c.all.ensures.ran (YieldsList-from_slice c.args.text.now cc) (λ x b q k. search (rules, tests)))
