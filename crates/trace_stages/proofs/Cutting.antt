-- Dashes at the ends of texts.
use Rattle.std.proofs.Common.{◌≡◌, ℕ, ◌-◌, List, [], ◌∷◌, true, false, Option, Some, get_or, length, take, refl, sym, ap, ◌∙◌, arith}
use Rattle.std.specs.Prelude.{◌==◌, ◌&&◌, nat_eq, nat_lt, slice_get}
use Rattle.std.specs.Io.BufRead.{ends_with_byte, strip_last}
use Rattle.std.specs.Option.{option_eq}
use Rattle.std.proofs.lemmas.Bool.Decides.{nat_tests}
use Rattle.std.proofs.lemmas.Option.{slice_get-get_or}
use Rattle.trace_stages.specs.Words.{cut}

is_some : (xs : List ℕ) (x : ℕ) → nat_lt 0 (length (x ∷ xs)) ≡ true
is_some xs x = grind (arith, nat_tests)

ends : (t : List ℕ) → option_eq nat_eq (slice_get t (length t - 1)) (Some 45) ≡ ends_with_byte 45 t
ends [] = refl
ends (x ∷ xs) =
    ap (λ o. option_eq nat_eq o (Some 45)) (slice_get-get_or (x ∷ xs) (length (x ∷ xs) - 1) 0 (omega arith))
    ∙ ap (λ b. b && (get_or (x ∷ xs) (length (x ∷ xs) - 1) 0 == 45)) (sym (is_some xs x))

stripped : (t : List ℕ) → ends_with_byte 45 t ≡ true → take (length t - 1) t ≡ strip_last 45 t
stripped t is = rw is refl

unstripped : (t : List ℕ) → ends_with_byte 45 t ≡ false → t ≡ strip_last 45 t
unstripped t is = rw is refl

pub cut_dash : (words t : List ℕ) (most n : ℕ) (o : Option ℕ) → t ≡ take most words → o ≡ slice_get t (length t - 1) → option_eq nat_eq o (Some 45) ≡ true → n ≡ length t - 1 → take n t ≡ cut most words
unfolding cut
cut_dash words t most n o is last dash front =
    ap (λ m. take m t) front ∙ stripped t (sym (ends t) ∙ ap (λ p. option_eq nat_eq p (Some 45)) (sym last) ∙ dash) ∙ ap (strip_last 45) is

pub cut_none : (words t : List ℕ) (most : ℕ) (o : Option ℕ) → t ≡ take most words → o ≡ slice_get t (length t - 1) → option_eq nat_eq o (Some 45) ≡ false → t ≡ cut most words
unfolding cut
cut_none words t most o is last no_dash =
    unstripped t (sym (ends t) ∙ ap (λ p. option_eq nat_eq p (Some 45)) (sym last) ∙ no_dash) ∙ ap (strip_last 45) is
