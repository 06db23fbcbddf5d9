-- How far names are from a mistaken word, and which one is nearest.
use Rattle.std.specs.Prelude.{◌≡◌, ℕ, ◌<◌, ◌≤◌, List, length, slice_index_or, nat_eq, Option, MatchOption}
use Rattle.std.specs.List.{All, Contains}
use Rattle.std.specs.Str.{chars}
use Rattle.strsim.specs.Edits.{levenshtein_row}

-- how many characters are to be added, left out or changed
abbrev pub distance : List ℕ → List ℕ → ℕ
distance word name = levenshtein_row nat_eq (chars word) (chars name) (length (chars name))

-- one of the names, no further than `most`, and none is nearer
pub record IsNearest {X : Type 0} (far : X → ℕ) (most : ℕ) (names : List X) (near : X) : Type 0 where
  pub among : Contains names near
  pub within : far near ≤ most
  pub least : All (λ name. far near ≤ far name) names

-- a nearest name, or none where each is further than `most`
abbrev pub FindsNearest : {X : Type 0} → (X → ℕ) → ℕ → List X → Option X → Type 0
FindsNearest far most names found = MatchOption found (All (λ name. most < far name) names) (IsNearest far most names)

-- the same of the names below an index, where `least` is how far the nearest one is, and `most` where there is none
pub record IsNearestBelow {X : Type 0} (far : X → ℕ) (most : ℕ) (names : List X) (below least : ℕ) (near : X) : Type 0 where
  pub among : Contains names near
  pub within : least ≤ most
  pub far_is : least ≡ far near
  pub nearer : (k : ℕ) (d : X) → k < below → least ≤ far (slice_index_or names k d)

pub record HasNoneBelow {X : Type 0} (far : X → ℕ) (most : ℕ) (names : List X) (below least : ℕ) : Type 0 where
  pub least_is : least ≡ most
  pub further : (k : ℕ) (d : X) → k < below → most < far (slice_index_or names k d)

abbrev pub FindsNearestBelow : {X : Type 0} → (X → ℕ) → ℕ → List X → ℕ → ℕ → Option X → Type 0
FindsNearestBelow far most names below least found = MatchOption found (HasNoneBelow far most names below least) (IsNearestBelow far most names below least)
