-- A step that fails ends what comes after it, with its mistake.
use Rattle.std.proofs.Common.{Result, Err, ap}
use Rattle.change_words.specs.Results.{then_on}
use Rattle.step_words.specs.declared.mistake.Mistake.{Mistake}
use Rattle.step_words.specs.declared.mistake.Mistake.TheVariants.{Memory, Missing, NoChange, NoCommand, NoNumber, NoStage, NoStep, NotMade, SeveralStages, TooMany}
use Rattle.step_words.specs.Said.{IsSaid}

pub failed_then : {A B : Type 0} (mistake : Mistake) (meant : Result A Mistake) (next : A → Result B Mistake) → IsSaid (Err mistake) meant → IsSaid (Err mistake) (then_on meant next)
failed_then Memory meant next said = tt
failed_then Missing meant next said = ap (λ m. then_on m next) said
failed_then NoChange meant next said = ap (λ m. then_on m next) said
failed_then NoCommand meant next said = ap (λ m. then_on m next) said
failed_then NoNumber meant next said = ap (λ m. then_on m next) said
failed_then NoStage meant next said = ap (λ m. then_on m next) said
failed_then (NoStep fault) meant next said = ap (λ m. then_on m next) said
failed_then (NotMade fault) meant next said = ap (λ m. then_on m next) said
failed_then SeveralStages meant next said = ap (λ m. then_on m next) said
failed_then TooMany meant next said = ap (λ m. then_on m next) said
