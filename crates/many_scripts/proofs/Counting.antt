-- Each entry of a log is of one of the clients, if these have as many calls as there are entries.
use Rattle.std.proofs.Common.{◌≡◌, ℕ, ◌+◌, ◌<◌, ◌≤◌, ◌⊎◌, inl, inr, Bool, true, false, cond, ◌==◌, List, [], ◌∷◌, length, refl, arith}
use Rattle.std.specs.List.{All}
use Rattle.std.proofs.lemmas.Bool.Decides.{nat_tests}
use Rattle.std.proofs.lemmas.List.Elements.{All-cons, All-nil}
use Rattle.session_core.specs.declared.event.Entry.{Entry}
use Rattle.desk.specs.Clients.{entries_of}

-- how many entries the log has of as many clients as the list has items, from this number on
abbrev pub total : {A : Type 0} → ℕ → List A → List Entry → ℕ
total number [] log = 0
total number (x ∷ xs) log = length (entries_of number log) + total (number + 1) xs log

-- one, if the number is that of one of these clients
hit : {A : Type 0} → ℕ → List A → ℕ → ℕ
hit number [] who = 0
hit number (x ∷ xs) who = cond (who == number) 1 0 + hit (number + 1) xs who

one_more : (b : Bool) (e : Entry) (es : List Entry) → length (cond b (e ∷ es) es) ≡ cond b 1 0 + length es
one_more true e es = omega arith
one_more false e es = omega arith

total_nil : {A : Type 0} (xs : List A) (number : ℕ) → total number xs [] ≡ 0
total_nil [] number = refl
total_nil (x ∷ xs) number = let rest = total_nil xs (number + 1) in omega (arith, rest)

total_cons : {A : Type 0} (xs : List A) (number : ℕ) (e : Entry) (es : List Entry) → total number xs (e ∷ es) ≡ hit number xs e.who + total number xs es
unfolding hit
total_cons [] number e es = omega arith
total_cons (x ∷ xs) number e es =
    let here = one_more (e.who == number) e (entries_of number es) in
    let rest = total_cons xs (number + 1) e es in
    omega (arith, here, rest)

hit_below : {A : Type 0} (xs : List A) (number who : ℕ) → who < number → hit number xs who ≡ 0
unfolding hit
hit_below [] number who under = refl
hit_below (x ∷ xs) number who under = by_test (hit_below xs (number + 1) who (omega (arith, under))) (who == number) refl where
  by_test : hit (number + 1) xs who ≡ 0 → (b : Bool) → (who == number) ≡ b → cond b 1 0 + hit (number + 1) xs who ≡ 0
  by_test rest true is = absurd (grind (arith, nat_tests, is, under))
  by_test rest false is = omega (arith, rest)

hit_within : {A : Type 0} (xs : List A) (number who : ℕ) → (hit number xs who ≡ 0) ⊎ ((hit number xs who ≡ 1) × (number ≤ who) × (who < number + length xs))
unfolding hit
hit_within [] number who = inl refl
hit_within (x ∷ xs) number who = by_test (hit_within xs (number + 1) who) (who == number) refl where
  by_rest : (hit (number + 1) xs who ≡ 0) ⊎ ((hit (number + 1) xs who ≡ 1) × (number + 1 ≤ who) × (who < number + 1 + length xs))
      → (0 + hit (number + 1) xs who ≡ 0) ⊎ ((0 + hit (number + 1) xs who ≡ 1) × (number ≤ who) × (who < number + length (x ∷ xs)))
  by_rest (inl none) = inl (omega (arith, none))
  by_rest (inr (one, low, high)) = inr (omega (arith, one), omega (arith, low), omega (arith, high))

  at_number : who ≡ number → (1 + hit (number + 1) xs who ≡ 0) ⊎ ((1 + hit (number + 1) xs who ≡ 1) × (number ≤ who) × (who < number + length (x ∷ xs)))
  at_number same =
      let rest = hit_below xs (number + 1) who (omega (arith, same)) in
      inr (omega (arith, rest), omega (arith, same), omega (arith, same))

  by_test : (hit (number + 1) xs who ≡ 0) ⊎ ((hit (number + 1) xs who ≡ 1) × (number + 1 ≤ who) × (who < number + 1 + length xs))
      → (b : Bool) → (who == number) ≡ b → (cond b 1 0 + hit (number + 1) xs who ≡ 0) ⊎ ((cond b 1 0 + hit (number + 1) xs who ≡ 1) × (number ≤ who) × (who < number + length (x ∷ xs)))
  by_test rest true is = at_number (grind (arith, nat_tests, is))
  by_test rest false is = by_rest rest

total_bound : {A : Type 0} (xs : List A) (number : ℕ) (log : List Entry) → total number xs log ≤ length log
total_bound xs number [] = let none = total_nil xs number in omega (arith, none)
total_bound xs number (e ∷ es) =
    let rest = total_bound xs number es in
    let parts = total_cons xs number e es in
    by_hit rest parts (hit_within xs number e.who)
  where
    by_hit : total number xs es ≤ length es → total number xs (e ∷ es) ≡ hit number xs e.who + total number xs es
        → (hit number xs e.who ≡ 0) ⊎ ((hit number xs e.who ≡ 1) × (number ≤ e.who) × (e.who < number + length xs)) → total number xs (e ∷ es) ≤ length (e ∷ es)
    by_hit rest parts (inl none) = omega (arith, rest, parts, none)
    by_hit rest parts (inr (one, low, high)) = omega (arith, rest, parts, one)

abbrev pub IsFrom : {A : Type 0} → ℕ → List A → Entry → Type 0
IsFrom number xs e = (number ≤ e.who) × (e.who < number + length xs)

pub all_from : {A : Type 0} (xs : List A) (number : ℕ) (log : List Entry) → total number xs log ≡ length log → All (IsFrom number xs) log
all_from xs number [] all = All-nil (IsFrom number xs)
all_from xs number (e ∷ es) all =
    by_hit (all_from xs number es) (total_bound xs number es) (total_cons xs number e es) (hit_within xs number e.who)
  where
    by_hit : (total number xs es ≡ length es → All (IsFrom number xs) es) → total number xs es ≤ length es → total number xs (e ∷ es) ≡ hit number xs e.who + total number xs es
        → (hit number xs e.who ≡ 0) ⊎ ((hit number xs e.who ≡ 1) × (number ≤ e.who) × (e.who < number + length xs)) → All (IsFrom number xs) (e ∷ es)
    by_hit others rest parts (inl none) = absurd (omega (arith, rest, parts, none, all))
    by_hit others rest parts (inr (one, low, high)) =
        All-cons (IsFrom number xs) e es (low, high) (others (omega (arith, rest, parts, one, all)))
