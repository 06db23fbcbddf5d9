-- What is written of a circle is its text.
use Rattle.std.proofs.Common.{◌≡◌, ℕ, ◌<◌, ◌≤◌, List, [], ◌++◌, true, false, Bor, length, map, take, sym, ap, ◌∙◌, append-nil, arith}
use Rattle.std.proofs.lemmas.Bool.{le-ltb}
use Rattle.std.proofs.lemmas.Bool.Decides.{nat_tests}
use Rattle.std.proofs.lemmas.List.{length-map, take-map}
use Rattle.std.specs.Fmt.{decimal}
use Rattle.std.specs.Prelude.{codes, if◌then◌else◌, nat_lt}
use Rattle.json_names.specs.Circles.{circle_text, listed}
use Rattle.json_names.specs.declared.circle.TheConstants.{MOST_TOLD}

abbrev pub texts : List (Bor (List ℕ)) → List (List ℕ)
texts = map (λ name. name.now)

abbrev pub head : List ℕ → List ℕ
head told = codes "these stages wait for each other: " ++ told

abbrev pub tail : List (Bor (List ℕ)) → List ℕ
tail names = codes ", and so on: " ++ decimal (length names) ++ codes " in all"

told_texts : (names told : List (Bor (List ℕ))) → told ≡ take MOST_TOLD names → listed (texts told) ≡ listed (take MOST_TOLD (texts names))
told_texts names told is = ap (λ all. listed (texts all)) is ∙ ap listed (sym (take-map (λ (name : Bor (List ℕ)). name.now) MOST_TOLD names))

joined : (told all rest rest' : List ℕ) → told ≡ all → rest ≡ rest' → head told ++ rest ≡ head all ++ rest'
joined told all rest rest' is same = rw (is, same)

-- all of them are told
pub few : (names told : List (Bor (List ℕ))) → told ≡ take MOST_TOLD names → length names ≤ MOST_TOLD → head (listed (texts told)) ≡ circle_text (texts names)
few names told is within =
    let none : nat_lt MOST_TOLD (length names) ≡ false = le-ltb MOST_TOLD (length names) within in
    sym (append-nil (head (listed (texts told))))
    ∙ joined (listed (texts told)) (listed (take MOST_TOLD (texts names))) [] (if nat_lt MOST_TOLD (length (texts names)) then tail names else []) (told_texts names told is) (rw (length-map names (λ (name : Bor (List ℕ)). name.now), none))
    ∙ rw (length-map names (λ (name : Bor (List ℕ)). name.now))

-- there are more
pub many : (names told : List (Bor (List ℕ))) → told ≡ take MOST_TOLD names → MOST_TOLD < length names → head (listed (texts told)) ++ tail names ≡ circle_text (texts names)
many names told is past =
    let more : nat_lt MOST_TOLD (length names) ≡ true = grind (arith, nat_tests) in
    joined (listed (texts told)) (listed (take MOST_TOLD (texts names))) (tail names) (if nat_lt MOST_TOLD (length (texts names)) then tail names else []) (told_texts names told is) (rw (length-map names (λ (name : Bor (List ℕ)). name.now), more))
    ∙ rw (length-map names (λ (name : Bor (List ℕ)). name.now))
