-- What is kept of the machine's state, and how contracts see it.
use Rattle.std.specs.Prelude.{◌≡◌, ℕ, ◌<◌, ◌≤◌, ◌^◌, List, [], ◌∷◌, length, map, IfSome, slice_get}
use Rattle.version_store.specs.Plain.{PlainVersion}
use Rattle.session_core.specs.declared.machine.Span.{Span}
use Rattle.session_core.specs.Machine.{State, Numbers}
use Rattle.session_core.specs.Standing.{parent_at, numbers_of}

-- the state, and how many more versions there is capacity for
pub record MachineView : Type 0 where
  pub state : State
  pub room : ℕ

-- the versions, the greatest number of them, and where each open session stands
pub record Parts : Type 0 where
  pub versions : List PlainVersion
  pub most : ℕ
  pub spans : List (ℕ × Span)

abbrev pub sessions_of : List PlainVersion → List (ℕ × Span) → List (ℕ × Numbers)
sessions_of versions spans = map (λ e. (e.0, numbers_of versions e.1)) spans

-- the state that the parts stand for
abbrev pub state_of : Parts → State
state_of parts = record { versions = parts.versions; most = parts.most; sessions = sessions_of parts.versions parts.spans }

-- bottom and head of each session are below n
abbrev pub SpansBelow : ℕ → List (ℕ × Span) → Type 0
SpansBelow n [] = Unit {0}
SpansBelow n (e ∷ es) = ((e.1.bottom < n) × (e.1.head < n)) × SpansBelow n es

-- there is a version, each has its place as its number and a parent of a smaller number, and sessions stand at versions
pub record IsSound (parts : Parts) : Type 0 where
  pub some : 0 < length parts.versions
  pub few : parts.most ≤ 2 ^ 16
  pub numbered : (number : ℕ) → IfSome (slice_get parts.versions number) (λ version. version.number ≡ number)
  pub parents : (number : ℕ) → IfSome (parent_at parts.versions number) (λ parent. parent < number)
  pub spans : SpansBelow (length parts.versions) parts.spans
