-- What a text parses to, where it has no plus in front.
use Rattle.std.proofs.Common.{◌≡◌, ◌≢◌, ℕ, ◌<◌, ◌^◌, List, length, get_or, true, Result, Ok, Err, arith}
use Rattle.std.proofs.lemmas.Bool.Decides.{nat_tests}
use Rattle.std.specs.Result.{result_ok}
use Rattle.std.specs.Str.{all_ascii_digits}
use Rattle.std.specs.Str.Parse.{ParsesUnsigned, digits_value}
use Rattle.std.proofs.lemmas.Str.Parse.{parse_plain, numerals_by_value, tells_all_ascii_digits}
use Rattle.trace_spans.specs.Members.{spelled}

pub spells : {E : Type 0} (bs : List ℕ) (r : Result ℕ E) → get_or bs 0 0 ≢ 43 → ParsesUnsigned 64 10 bs r → result_ok r ≡ spelled bs
unfolding spelled
spells {E} bs (Ok x) no_plus h =
    let k : ((all_ascii_digits bs ≡ true) × (0 < length bs) × (digits_value 10 bs < 2 ^ 64)) × (x ≡ digits_value 10 bs) = parse_plain (numerals_by_value (λ ds. all_ascii_digits ds ≡ true) tells_all_ascii_digits) {E = E} 64 bs (Ok x) h no_plus in
    grind (arith, nat_tests)
spells {E} bs (Err e) no_plus h =
    let k : ((all_ascii_digits bs ≡ true) × (0 < length bs) × (digits_value 10 bs < 2 ^ 64)) → ⊥ = parse_plain (numerals_by_value (λ ds. all_ascii_digits ds ≡ true) tells_all_ascii_digits) {E = E} 64 bs (Err e) h no_plus in
    grind (arith, nat_tests)
