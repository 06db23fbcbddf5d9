use Rattle.std.proofs.Common.{◌≡◌, ◌==◌, ◌-◌, length, drop, take, slice_index, true, false, sym, ap, ◌∙◌, arith, take_all, length-drop}
use Rattle.fast_float.specs.Text.{minus, scan}
use Rattle.serde_json.specs.Read.{number_of, number_from}
use Rattle.json_trees.proofs.numbers.number_of.Goals as goal

pub returns-then-is_negated : goal.returns-then-is_negated
unfolding number_of
returns-then-is_negated c =
    let text = c.args.text.now in
    let sign : (slice_index text 0 == minus) ≡ true = sym (rw (c.as_bytes-text.ensures.value) at c.is_negated.ensures.sign) ∙ c.if-is_negated.true in
    let rest : take (length text - 1) (drop 1 text) ≡ drop 1 text = take_all (length text - 1) (drop 1 text) (omega (arith, length-drop 1 text)) in
    rw sign ((rw (c.as_bytes-text.ensures.value) at c.from_negated.ensures) ∙ ap (λ digits. number_from true (scan digits)) rest)

pub returns-else-is_negated : goal.returns-else-is_negated
unfolding number_of
returns-else-is_negated c =
    let sign : (slice_index c.args.text.now 0 == minus) ≡ false = sym (rw (c.as_bytes-text.ensures.value) at c.is_negated.ensures.sign) ∙ c.if-is_negated.false in
    rw sign (rw (c.as_bytes-text.ensures.value) at c.from_digits.ensures)
