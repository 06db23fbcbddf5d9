-- If clients have different numbers, and keep as many calls as the log has entries, each entry is of exactly one client.
use Rattle.std.proofs.Common.{◌≡◌, ◌≢◌, ℕ, zero, suc, ◌+◌, ◌<◌, ◌≤◌, ◌==◌, Bool, true, false, cond, List, [], ◌∷◌, length, get_or, refl, ap, sym, subst, arith}
use Rattle.std.proofs.lemmas.Bool.Decides.{nat_tests}
use Rattle.std.proofs.lemmas.List.Sums.{sum_by-cons}
use Rattle.std.specs.List.{sum_by, count_by}
use Rattle.std.specs.Prelude.{All}
use Rattle.session_core.specs.declared.event.Entry.{Entry}
use Rattle.desk.specs.Clients.{ClientView, entries_of}
use Rattle.desk.specs.Closing.{Agrees, HaveOwnNumbers, IsOfOne}

sum_zero : {X : Type 0} (xs : List X) → sum_by (λ x. 0) xs ≡ 0
sum_zero [] = refl
sum_zero {X} (x ∷ xs) = omega (arith, sum_by-cons (λ (y : X). 0) x xs, sum_zero xs)

sum_plus : {X : Type 0} (f g h : X → ℕ) → ((x : X) → f x ≡ g x + h x) → (xs : List X) → sum_by f xs ≡ sum_by g xs + sum_by h xs
sum_plus f g h each [] = refl
sum_plus f g h each (x ∷ xs) = omega (arith, sum_by-cons f x xs, sum_by-cons g x xs, sum_by-cons h x xs, each x, sum_plus f g h each xs)

first_of_all : {X : Type 0} (P : X → Type 0) (x : X) (xs : List X) → All P (x ∷ xs) → P x
first_of_all P x xs all = all 0 x (omega arith)

rest_of_all : {X : Type 0} (P : X → Type 0) (x : X) (xs : List X) → All P (x ∷ xs) → All P xs
rest_of_all P x xs all = λ k d low. all (suc k) d (omega (arith, low))

sum_same : {X : Type 0} (f g : X → ℕ) (xs : List X) → All (λ x. f x ≡ g x) xs → sum_by f xs ≡ sum_by g xs
sum_same f g [] each = refl
sum_same {X} f g (x ∷ xs) each =
    omega (arith, sum_by-cons f x xs, sum_by-cons g x xs, first_of_all (λ (y : X). f y ≡ g y) x xs each, sum_same f g xs (rest_of_all (λ (y : X). f y ≡ g y) x xs each))

upper : {X : Type 0} (f : X → ℕ) (xs : List X) → ((x : X) → f x ≤ 1) → sum_by f xs ≤ length xs
upper f [] small = omega arith
upper f (x ∷ xs) small = omega (arith, sum_by-cons f x xs, small x, upper f xs small)

-- as many as there are elements, each at most 1: so each is 1
each_one : {X : Type 0} (f : X → ℕ) (xs : List X) → ((x : X) → f x ≤ 1) → sum_by f xs ≡ length xs → (k : ℕ) (d : X) → k < length xs → f (get_or xs k d) ≡ 1
each_one f [] small is k d low = absurd (omega (arith, low))
each_one f (x ∷ xs) small is zero d low = omega (arith, sum_by-cons f x xs, small x, upper f xs small, is)
each_one f (x ∷ xs) small is (suc k) d low = each_one f xs small (omega (arith, sum_by-cons f x xs, small x, upper f xs small, is)) k d (omega (arith, low))

abbrev hits : List ClientView → Entry → ℕ
hits clients e = count_by (λ c. e.who == c.number) clients

entries_cons : (who : ℕ) (e : Entry) (es : List Entry) → length (entries_of who (e ∷ es)) ≡ cond (e.who == who) 1 0 + length (entries_of who es)
entries_cons who e es = by_test (e.who == who) refl
  where
    by_test : (b : Bool) → (e.who == who) ≡ b → length (entries_of who (e ∷ es)) ≡ cond (e.who == who) 1 0 + length (entries_of who es)
    by_test true is = rw is (omega arith)
    by_test false is = rw is (omega arith)

total : (clients : List ClientView) (log : List Entry) → sum_by (λ c. length (entries_of c.number log)) clients ≡ sum_by (hits clients) log
total clients [] = sum_zero clients
total clients (e ∷ es) =
    let split = sum_plus (λ (c : ClientView). length (entries_of c.number (e ∷ es))) (λ (c : ClientView). cond (e.who == c.number) 1 0) (λ (c : ClientView). length (entries_of c.number es)) (λ c. entries_cons c.number e es) clients in
    omega (arith, split, total clients es, sum_by-cons (hits clients) e es)

-- of one more client
hit : (e : Entry) (c : ClientView) (cs : List ClientView) → hits (c ∷ cs) e ≡ cond (e.who == c.number) 1 0 + hits cs e
hit e c cs = sum_by-cons (λ (d : ClientView). cond (e.who == d.number) 1 0) c cs

missed : (e : Entry) (c : ClientView) → c.number ≢ e.who → ◌≡◌ {A = ℕ} (cond (e.who == c.number) 1 0) 0
missed e c other = by_test (e.who == c.number) refl
  where
    by_test : (b : Bool) → (e.who == c.number) ≡ b → ◌≡◌ {A = ℕ} (cond b 1 0) 0
    by_test true is = absurd (other (let same : e.who ≡ c.number = grind (arith, nat_tests) in sym same))
    by_test false is = refl

none : (e : Entry) (clients : List ClientView) → All (λ c. c.number ≢ e.who) clients → hits clients e ≡ 0
none e [] others = refl
none e (c ∷ cs) others =
    omega (arith, hit e c cs, missed e c (first_of_all (λ (d : ClientView). d.number ≢ e.who) c cs others), none e cs (rest_of_all (λ (d : ClientView). d.number ≢ e.who) c cs others))

-- the first client may be the entry's, and then no other is
at_most : (e : Entry) (c : ClientView) (cs : List ClientView) → All (λ d. d.number ≢ c.number) cs → hits cs e ≤ 1 → (b : Bool) → (e.who == c.number) ≡ b → cond b 1 0 + hits cs e ≤ 1
at_most e c cs others few true is =
    let same : e.who ≡ c.number = grind (arith, nat_tests) in
    omega (arith, none e cs (subst (λ (n : ℕ). All (λ (d : ClientView). d.number ≢ n) cs) (sym same) others))
at_most e c cs others few false is = omega (arith, few)

most_one : (e : Entry) (clients : List ClientView) → HaveOwnNumbers clients → hits clients e ≤ 1
most_one e [] own = omega arith
most_one e (c ∷ cs) own = omega (arith, hit e c cs, at_most e c cs own.0 (most_one e cs own.1) (e.who == c.number) refl)

-- each entry is of exactly one client
pub each_of_one : (log : List Entry) (clients : List ClientView) → All (Agrees log) clients → HaveOwnNumbers clients → sum_by (λ c. length c.calls) clients ≡ length log → All (IsOfOne clients) log
each_of_one log clients agree own counted =
    let same : All (λ (c : ClientView). length c.calls ≡ length (entries_of c.number log)) clients = λ k d low. ap length (agree k d low) in
    let as_entries = sum_same (λ (c : ClientView). length c.calls) (λ (c : ClientView). length (entries_of c.number log)) clients same in
    each_one (hits clients) log (λ e. most_one e clients own) (omega (arith, as_entries, total clients log, counted))
