use Rattle.std.proofs.Common.{◌≡◌, ℕ, length, subst, sym, arith}
use Rattle.failure_origins.specs.Lists.{handles_by, AreLists}
use Rattle.failure_origins.specs.Origins.{AreWithin}
use Rattle.failure_origins.proofs.lists.handled_lists.Goals as goal

pub loop-place-init : goal.loop-place-init
loop-place-init g c = record {
  lists = record { long = c.in_ok-handled.ensures.long; each = λ origin within. c.in_ok-handled.ensures.empty origin };
  within = subst (AreWithin c.args.origins.now) (sym c.in_ok-handled.ensures.long) c.requires.within;
}

pub loop-place-preserved : goal.loop-place-preserved
loop-place-preserved g c = record {
  lists = c.in_ok-add_handled.ensures.lists (length c.args.origins.now) c.loop-place.invariant.lists;
  within = subst (AreWithin c.args.origins.now) (sym c.in_ok-add_handled.ensures.long) c.loop-place.invariant.within;
}

pub returns : goal.returns
returns g c =
    let origins = c.args.origins.now in
    let all : c.loop-place.place ≡ length origins = omega (arith, c.requires.few, c.loop-place-test.false, c.loop-place.auto.place-end) in
    subst (λ (end : ℕ). AreLists (handles_by c.args.version.now.graph origins) end (length origins) c.loop-place.handled.items) all c.loop-place.invariant.lists
