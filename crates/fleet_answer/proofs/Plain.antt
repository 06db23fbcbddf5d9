-- Plain names.
use Rattle.std.proofs.Common.{ℕ, ◌≡◌, ◌<◌, ◌≤◌, Bool, false, List, [], ◌∷◌, length, refl, arith}
use Rattle.std.specs.List.{list_all}
use Rattle.fleet_answer.specs.Names.{is_plain, is_plain_byte}

pub some_plain : (name : List ℕ) (all : Bool) → 0 < length name → all ≡ list_all is_plain_byte name → all ≡ is_plain name
some_plain [] all some is = absurd (omega arith)
some_plain (byte ∷ bytes) all some is = is

pub none_plain : (name : List ℕ) → length name ≤ 0 → false ≡ is_plain name
none_plain [] none = refl
none_plain (byte ∷ bytes) none = absurd (omega arith)
