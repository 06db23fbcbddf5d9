use Rattle.std.proofs.Common.{◌≡◌, ap, arith}
use Rattle.serde_json.specs.Events.{items_len}
use Rattle.recording.proofs.items.item_count.Goals as goal

pub returns : goal.returns
returns c = λ items e.
    let some = c.in-Some.ensures in
    let same : c.in-Some.items ≡ items = cc in
    let none : items_len c.loop-item.items ≡ 0 = ap items_len c.in_default-next.ensures.value.0 in
    omega (arith, c.loop-item.invariant.counted, c.loop-item.invariant.fits, ap items_len same, none)
