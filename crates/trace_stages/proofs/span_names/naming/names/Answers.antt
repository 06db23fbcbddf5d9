use Rattle.std.proofs.Common.{◌≡◌, ◌+◌, length, refl, sym, subst}
use Rattle.std.proofs.lemmas.Option.{slice_get_read}
use Rattle.trace_stages.specs.Names.{count_before}
use Rattle.trace_stages.specs.Numbers.{AreCounts, AreNumbers}
use Rattle.trace_stages.proofs.Counting.{named}
use Rattle.trace_stages.proofs.span_names.naming.names.Goals as goal

pub loop-place-preserved : goal.loop-place-preserved
loop-place-preserved c =
    let bases = c.as_slice-base-items.result.now in
    let order = c.args.order.now in
    let known = subst (λ those. AreCounts c.in_ok-numbers.numbers.counts those order × AreNumbers c.in_ok-numbers.numbers.numbers.items those order) (sym c.as_slice-base-items.ensures) c.in_ok-numbers.ensures in
    let counts : c.number_at-number.result ≡ count_before bases c.base-item.result c.loop-place.place c.args.order.now + 1 =
    c.number_at-number.ensures bases order known.0 known.1 (slice_get_read bases (length bases) c.loop-place.place c.base-item.result refl c.loop-place-test.true c.base-item.is) in
    named bases c.loop-place.names c.push.new.self c.args.order.now c.loop-place.place c.number_at-number.result c.base-item.result c.in_ok-with_number.field-0
    c.loop-place-test.true c.base-item.is counts c.in_ok-with_number.ensures c.in_ok-push.ensures.added c.loop-place.invariant
