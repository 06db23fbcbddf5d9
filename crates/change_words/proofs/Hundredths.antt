-- A `%` at the end of a text.
use Rattle.std.proofs.Common.{◌≡◌, ◌≢◌, ℕ, ◌+◌, ◌-◌, ◌<◌, List, [], ◌∷◌, ◌++◌, length, get_or, take, true, ltb, eqb, Some, None, sym, ap, ◌∙◌, arith}
use Rattle.std.specs.Prelude.{◌&&◌}
use Rattle.std.proofs.lemmas.Bool.{and_from, and_parts, cond-false, cond-true, eq-eqb, eqb-true, false_from_ne_true, lt-ltb, ltb-true}
use Rattle.std.proofs.lemmas.List.{length_push, get_or_push, take_all, take_at, take_more}
use Rattle.change_words.specs.Numbers.{before_percent}

pub percent_off : (text front : List ℕ) → text ≡ front ++ 37 ∷ [] → before_percent text ≡ Some front
percent_off text front e =
    let n : length text ≡ length front + 1 = ap length e ∙ length_push front 37 in
    let less : length front ≡ length text - 1 = omega arith in
    let last : get_or text (length text - 1) 0 ≡ 37 = ap (λ (t : List ℕ). get_or t (length text - 1) 0) e ∙ get_or_push front 37 0 (length text - 1) less in
    let before : take (length text - 1) text ≡ front = ap (take (length text - 1)) e ∙ take_at front (37 ∷ []) (length text - 1) less in
    let some : ltb 0 (length text) ≡ true = lt-ltb 0 (length text) (omega arith) in
    let both : (ltb 0 (length text) && eqb (get_or text (length text - 1) 0) 37) ≡ true = and_from (ltb 0 (length text)) (eqb (get_or text (length text - 1) 0) 37) some (eq-eqb (get_or text (length text - 1) 0) 37 last) in
    cond-true (ltb 0 (length text) && eqb (get_or text (length text - 1) 0) 37) (Some (take (length text - 1) text)) None both ∙ ap Some before

pub no_percent : (text : List ℕ) → ((front : List ℕ) → text ≢ front ++ 37 ∷ []) → before_percent text ≡ None
no_percent text none =
    cond-false _ _ _ (false_from_ne_true (ltb 0 (length text) && eqb (get_or text (length text - 1) 0) 37) (λ both.
    let p = and_parts (ltb 0 (length text)) (eqb (get_or text (length text - 1) 0) 37) both in
    let low : 0 < length text = ltb-true 0 (length text) p.0 in
    let last : get_or text (length text - 1) 0 ≡ 37 = eqb-true _ _ p.1 in
    none (take (length text - 1) text)
    (sym (take_all (length text - 1 + 1) text (omega arith)) ∙ take_more text (length text - 1) 0 (omega arith) ∙ ap (λ b. take (length text - 1) text ++ b ∷ []) last)))
