-- The conditions under which a version may be added on top of a session's list.
use Rattle.std.specs.Prelude.{◌≡◌, ℕ, ◌<◌, length, Some, IsSome, IfSome, slice_get}
use Rattle.version_store.specs.Plain.{PlainVersion, PlainDraft, parent_of}
use Rattle.session_core.specs.Machine.{State, Numbers, numbers_at}

-- the session stands at the base, which is a version, and there may be one more
pub record IsAtBase (s : State) (session base : ℕ) : Type 0 where
  pub numbers : Numbers
  pub stands : numbers_at s session ≡ Some numbers
  pub head : numbers.head ≡ base
  pub there : base < length s.versions
  pub few : length s.versions < s.most

-- the version has the next number, and the session's head is its parent
pub record MayAdd (s : State) (session : ℕ) (version : PlainVersion) : Type 0 where
  pub numbers : Numbers
  pub stands : numbers_at s session ≡ Some numbers
  pub number : version.number ≡ length s.versions
  pub parent : parent_of version ≡ Some numbers.head

-- where the session is open, the version of the draft's base, if there is one, has the draft's base graph
abbrev pub IsOfState : State → ℕ → PlainDraft → Type 0
IsOfState s session draft = IsSome (numbers_at s session) → IfSome (slice_get s.versions draft.origin.number) (λ version. version.graph ≡ draft.origin.graph)
