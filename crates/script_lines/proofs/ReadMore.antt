-- A piece of a script that is read.
use Rattle.std.proofs.Common.{◌≡◌, ℕ, ◌-◌, ◌<◌, ◌≤◌, Bool, true, false, nat_lt, List, length, take, sym, ap, ◌∙◌, subst, arith, Option}
use Rattle.std.specs.Io.KnownBytes.{Consumes, IsAtEnd}
use Rattle.std.specs.List.{slice_range}
use Rattle.std.proofs.lemmas.Bool.Decides.{nat_tests}
use Rattle.script_lines.specs.LineReader.{IsPiece}
use Rattle.std.proofs.lemmas.List.{length-take-le}

front : (items : List ℕ) (count : ℕ) → slice_range items 0 count ≡ take count items
front items count = ap (λ n. take n items) (let all : count - 0 ≡ count = omega arith in all)

pub reads_piece : (b : Bool) (count most : ℕ) → nat_lt 0 count ≡ b → (items buffer : List ℕ) (had left : Option (List ℕ)) → items ≡ buffer
    → count ≤ length buffer → count ≤ most → Consumes had left (take count buffer) → (count ≡ 0 → IsAtEnd left)
    → IsPiece b (slice_range items 0 count) most (most - count) had left
reads_piece true count most some items buffer had left same within short consumed end =
    let positive : 0 < count = grind (arith, nat_tests, some) in
    let here : slice_range items 0 count ≡ take count buffer = front items count ∙ ap (take count) same in
    let size : length (slice_range items 0 count) ≡ count = ap length here ∙ length-take-le count buffer within in (
      subst (Consumes had left) (sym here) consumed,
      omega (arith, size, short),
      omega (arith, size, positive),
    )
reads_piece false count most none items buffer had left same within short consumed end =
    let zero : count ≡ 0 = grind (arith, nat_tests, none) in (
      subst (Consumes had left) (ap (λ n. take n buffer) zero) consumed,
      end zero,
      ap (slice_range items 0) zero,
      omega (arith, zero),
    )
