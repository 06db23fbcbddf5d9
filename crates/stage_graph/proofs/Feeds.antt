-- Feeds that are known.
use Rattle.std.proofs.Common.{◌≡◌, ℕ, Bool, true, false, ◌&&◌, if◌then◌else◌, List, Option, Some, None, is_some, refl}
use Rattle.stage_graph.specs.Checks.{are_known}
use Rattle.stage_graph.specs.Names.{feeds_of, known_feeds}

is_some-if : {A : Type 0} (holds : Bool) (x : A) → is_some (if holds then Some x else None) ≡ holds
is_some-if true x = refl
is_some-if false x = refl

-- their places are known exactly where each of them is
pub is_some-known_feeds : (find : List ℕ → Option ℕ) (sources inner : List (List ℕ)) → is_some (known_feeds find sources inner) ≡ (are_known find sources && are_known find inner)
is_some-known_feeds find sources inner = is_some-if (are_known find sources && are_known find inner) (feeds_of find sources inner)
