-- What it means to understand a line or a part of it. Out of memory may take the place of any answer.
use Rattle.std.specs.Prelude.{◌≡◌, Result, Ok, Err}
use Rattle.step_words.specs.declared.mistake.Mistake.{Mistake}
use Rattle.step_words.specs.declared.mistake.Mistake.TheVariants.{Memory}

-- the result is the answer, or out of memory
abbrev pub IsSaid : {A : Type 0} → Result A Mistake → Result A Mistake → Type 0
IsSaid (Ok said) answer = answer ≡ Ok said
IsSaid (Err Memory) answer = Unit {0}
IsSaid (Err mistake) answer = answer ≡ Err mistake
