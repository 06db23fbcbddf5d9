use Rattle.std.proofs.Common.{sym, ◌∙◌, refl, arith}
use Rattle.json_trees.proofs.Plain.{one_digit_more, below_few, read_short}
use Rattle.json_trees.proofs.numbers.short_integer.Goals as goal

pub digits-init : goal.digits-init
digits-init c = (tt, refl)

pub overflow_mul-integer : goal.overflow_mul-integer
overflow_mul-integer c =
    let i = c.digits.invariant in
    let few = below_few c.as_bytes-digits.result.now c.digits.digit-index c.digits.integer c.digits-test.true c.if-digits-gt-FEW_DIGITS.false i.0 i.1 in
    omega (arith, few)

pub overflow_add-integer : goal.overflow_add-integer
overflow_add-integer c =
    let i = c.digits.invariant in
    let few = below_few c.as_bytes-digits.result.now c.digits.digit-index c.digits.integer c.digits-test.true c.if-digits-gt-FEW_DIGITS.false i.0 i.1 in
    omega (arith, few, c.if-digit-gt57.false)

pub digits-preserved : goal.digits-preserved
digits-preserved c =
    let i = c.digits.invariant in
    one_digit_more c.as_bytes-digits.result.now c.digits.digit-index c.digits.integer c.digits-test.true c.if-digit-lt48.false c.if-digit-gt57.false i.0 i.1

pub returns : goal.returns
returns c =
    let i = c.digits.invariant in
    read_short c.args.text.now c.as_bytes-digits.result.now c.digits.digit-index c.digits.integer c.as_bytes-digits.ensures.value (sym c.is_empty.ensures ∙ c.if-is_empty.false) c.if-digits-gt-FEW_DIGITS.false c.digits-test.false i.0 i.1
