-- What the trials at the places give, one place after another.
use Rattle.std.specs.Prelude.{ℕ, ◌≡◌, List, [], length, Option, Result, Ok, Err, IfOk, filter_map}
use Rattle.reply_rescue.specs.declared.rescue.Rescue.{Rescue}
use Rattle.reply_rescue.specs.declared.rescue.Rescues.{Rescues}
use Rattle.reply_rescue.specs.Rescues.{Trial}

-- how many trials there are, and those of them that save the reply, in order
pub record AreRescuesOf (trials : List Trial) (saves : Trial → Option Rescue) (found : Rescues) : Type 0 where
  pub tried : found.tried ≡ length trials
  pub saved : found.saved.items ≡ filter_map saves trials

-- those of a place, where memory sufficed
abbrev pub Gives : {E : Type 0} → (ℕ → List Trial) → (Trial → Option Rescue) → ℕ → Result Rescues E → Type 0
Gives trials saves place answer = IfOk answer (AreRescuesOf (trials place) saves)

-- the number of trials, unless memory ran out
abbrev pub count_in : {E : Type 0} → Result Rescues E → ℕ
count_in (Ok found) = found.tried
count_in (Err error) = 0

-- those that save the reply, unless memory ran out
abbrev pub saved_in : {E : Type 0} → Result Rescues E → List Rescue
saved_in (Ok found) = found.saved.items
saved_in (Err error) = []
