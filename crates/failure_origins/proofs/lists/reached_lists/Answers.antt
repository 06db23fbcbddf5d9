use Rattle.std.proofs.Common.{◌≡◌, ℕ, length, subst, sym, arith}
use Rattle.failure_origins.specs.Lists.{is_reached_by, AreLists}
use Rattle.failure_origins.specs.Origins.{AreWithin}
use Rattle.failure_origins.proofs.lists.reached_lists.Goals as goal

pub loop-place-init : goal.loop-place-init
loop-place-init c = record { long = c.in_ok-reached.ensures.long; each = λ origin within. c.in_ok-reached.ensures.empty origin }

pub add_reached-requires : goal.add_reached-requires
add_reached-requires c = subst (AreWithin c.args.origins.now) (sym c.loop-place.invariant.long) c.requires.within

pub loop-place-preserved : goal.loop-place-preserved
loop-place-preserved c = c.in_ok-add_reached.ensures.lists (length c.args.origins.now) c.loop-place.invariant

pub returns : goal.returns
returns c =
    let origins = c.args.origins.now in
    let all : c.loop-place.place ≡ length origins = omega (arith, c.requires.few, c.loop-place-test.false, c.loop-place.auto.place-end) in
    subst (λ (end : ℕ). AreLists (is_reached_by origins) end (length origins) c.loop-place.reached.items) all c.loop-place.invariant
