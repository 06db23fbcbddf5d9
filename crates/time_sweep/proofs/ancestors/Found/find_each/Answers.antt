use Rattle.std.proofs.Common.{get_or, subst, take, take_all}
use Rattle.std.specs.Prelude.{All}
use Rattle.std.proofs.lemmas.List.Elements.{All-more, All-nil, Contains-get_or}
use Rattle.time_sweep.specs.Known.{IsKnown}
use Rattle.propagate.proofs.Members.{contains_among}
use Rattle.time_sweep.proofs.Finding.{all_kept, no_further, still_further}
use Rattle.time_sweep.proofs.Waiting.{nothing_more, one_more_only}
use Rattle.time_sweep.proofs.ancestors.Found.find_each.Goals as goal

pub loop-place-init : goal.loop-place-init
loop-place-init g c =
    let found = c.args.self.now in
    record {
      finding = c.requires.finding;
      further = no_further found.ranks.items found.waiting.items;
      only = nothing_more found.ranks.items found.waiting.items c.args.places.now;
      known = All-nil (IsKnown found.ranks.items);
    }

pub loop-place-preserved : goal.loop-place-preserved
loop-place-preserved g c =
    let places = c.args.places.now in
    let k = c.loop-place.place-index in
    let inv = c.loop-place.invariant in
    let done = c.in_ok-find.ensures in
    record {
      finding = done.finding;
      further = still_further inv.further done.further;
      only = one_more_only places (get_or places k 0) (contains_among (get_or places k 0) places (Contains-get_or places k 0 c.loop-place-test.true)) inv.only done.only;
      known = All-more (IsKnown c.find.new.self.ranks.items) places k 0 c.loop-place-test.true (all_kept done.further (take k places) inv.known) done.known;
    }

pub returns-clause-known : goal.returns-clause-known
returns-clause-known g c = subst (All (IsKnown c.loop-place.self.ranks.items)) (take_all c.loop-place.place-index c.args.places.now c.loop-place-test.false) c.loop-place.invariant.known
