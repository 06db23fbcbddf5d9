-- The conditions of a commit under the lock, and its refusals.
use Rattle.std.specs.Prelude.{◌≡◌, ◌≢◌, ◌⊎◌, ℕ, IsSomeAnd, slice_get}
use Rattle.version_store.specs.Plain.{Origin, PlainVersion}
use Rattle.session_core.specs.declared.refusal.Refusal.TheVariants.{NoSession, NoVersion, Moved, Full}
use Rattle.session_core.specs.declared.refusal.Refusal.{Refusal}
use Rattle.session_core.specs.declared.refusal.TableFault.{TableFault}
use Rattle.session_core.specs.declared.refusal.TableFault.TheVariants.{Refused, Memory}
use Rattle.desk.specs.Clients.{ClientView}

-- the client has seen the version of the origin's number, and it has the origin's graph
abbrev pub IsSeenOrigin : ClientView → Origin → Type 0
IsSeenOrigin c origin = IsSomeAnd (slice_get c.seen origin.number) (λ version. version.graph ≡ origin.graph)

-- why the table refuses a commit on the base: the session is not open, there is no such base, the session stands elsewhere, or the most versions are there
abbrev pub RefusesCommit : ℕ → Refusal → Type 0
RefusesCommit base refusal = (refusal ≡ NoSession) ⊎ (refusal ≡ NoVersion) ⊎ ((head : ℕ) × (refusal ≡ Moved head) × (head ≢ base)) ⊎ (refusal ≡ Full)

-- the table refuses it, or memory ran out
abbrev pub RefusesToCommit : ℕ → TableFault → Type 0
RefusesToCommit base (Refused refusal) = RefusesCommit base refusal
RefusesToCommit base Memory = Unit {0}
