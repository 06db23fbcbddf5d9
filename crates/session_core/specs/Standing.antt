-- How a session's list is kept: by its bottom and its head, since each version's parent is the one below it.
use Rattle.std.specs.Prelude.{ℕ, zero, suc, ◌==◌, if◌then◌else◌, List, [], ◌∷◌, Option, Some, None, slice_get}
use Rattle.version_store.specs.Plain.{PlainVersion, parent_of}
use Rattle.session_core.specs.Machine.{Numbers}
use Rattle.session_core.specs.declared.machine.Span.{Span}

abbrev pub parent_in : Option PlainVersion → Option ℕ
parent_in None = None
parent_in (Some version) = parent_of version

-- the parent of the version of this number, if it has one
abbrev pub parent_at : List PlainVersion → ℕ → Option ℕ
parent_at versions number = parent_in (slice_get versions number)

-- no number, or this one with those below it
abbrev pub with_below : Option ℕ → (ℕ → List ℕ) → List ℕ
with_below None below = []
with_below (Some number) below = number ∷ below number

-- the numbers from below the head down to the bottom, each the parent of the one before, in at most this many steps
abbrev pub climb : (ℕ → Option ℕ) → ℕ → ℕ → ℕ → List ℕ
climb parent bottom zero head = []
climb parent bottom (suc steps) head = if head == bottom then [] else with_below (parent head) (climb parent bottom steps)

-- the list that a span stands for: a parent is a smaller number, so that as many steps as the head's number are enough
abbrev pub numbers_of : List PlainVersion → Span → Numbers
numbers_of versions span = record { head = span.head; below = climb (parent_at versions) span.bottom span.head span.head }
