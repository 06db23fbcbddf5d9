use Rattle.std.proofs.Common.{rules, ◌≡◌, List, ℕ, subst}
use Rattle.std.specs.List.Sorted.{IsPermutation}
use Rattle.version_store.specs.Queries.{touched_of}
use Rattle.version_store.proofs.ByPlace.{sorted_is}
use Rattle.version_store.proofs.version.Version.touched_by_place.Goals as goal

pub returns : goal.returns
returns g c =
    let cloned : c.in_ok-places.places.items ≡ touched_of c.args.self.now = search rules in
    sorted_is c.args.self.now c.sort_unstable.new.self.items
    (subst (λ (found : List ℕ). IsPermutation found c.sort_unstable.new.self.items) cloned c.sort_unstable.ensures.permutation)
    c.sort_unstable.ensures.sorted
