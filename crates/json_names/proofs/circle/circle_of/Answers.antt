use Rattle.std.proofs.Common.{sym, ◌∙◌}
use Rattle.json_names.proofs.Along.{all_along, circle_along, no_name, no_stage, not_awaited, one_more}
use Rattle.json_names.proofs.circle.circle_of.Goals as goal

pub returns-in_default : goal.returns-in_default
returns-in_default c =
    let stages = c.as_slice-stages.result.now in
    no_stage stages c.args.places.now c.loop-place.place-index _ c.loop-place.names.items c.loop-place.invariant c.loop-place-test.true c.in_default.ensures
    ∙ circle_along c.args.recording.now stages c.args.places.now (c.as_slice-stages.ensures.value ∙ c.in_ok-list.ensures)

pub returns-in_default-name_of : goal.returns-in_default-name_of
returns-in_default-name_of c =
    let stages = c.as_slice-stages.result.now in
    no_name stages c.args.places.now c.loop-place.place-index _ c.loop-place.names.items _ c.loop-place.invariant c.loop-place-test.true c.in-Some.ensures c.in_default-name_of.ensures
    ∙ circle_along c.args.recording.now stages c.args.places.now (c.as_slice-stages.ensures.value ∙ c.in_ok-list.ensures)

pub returns-then-not-is_awaited : goal.returns-then-not-is_awaited
returns-then-not-is_awaited c =
    let stages = c.as_slice-stages.result.now in
    not_awaited stages c.args.places.now c.loop-place.place-index _ c.loop-place.names.items _ c.in-Some-name_of.name.now c.loop-place.invariant c.loop-place-test.true c.in-Some.ensures c.in-Some-name_of.ensures (sym c.if-not-is_awaited.ensures)
    ∙ circle_along c.args.recording.now stages c.args.places.now (c.as_slice-stages.ensures.value ∙ c.in_ok-list.ensures)

pub loop-place-preserved : goal.loop-place-preserved
loop-place-preserved c =
    let stages = c.as_slice-stages.result.now in
    rw c.in_ok-push.ensures.items (one_more stages c.args.places.now c.loop-place.place-index _ c.loop-place.names.items _ c.in-Some-name_of.name c.loop-place.invariant c.loop-place-test.true c.in-Some.ensures c.in-Some-name_of.ensures (sym c.if-not-is_awaited.ensures))

pub returns : goal.returns
returns c =
    let stages = c.as_slice-stages.result.now in
    all_along stages c.args.places.now c.loop-place.place-index _ c.loop-place.names.items c.loop-place.invariant c.loop-place-test.false
    ∙ circle_along c.args.recording.now stages c.args.places.now (c.as_slice-stages.ensures.value ∙ c.in_ok-list.ensures)
