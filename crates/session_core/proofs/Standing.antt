-- The lists that spans stand for.
use Rattle.std.proofs.Common.{◌≡◌, ℕ, zero, suc, ◌<◌, ◌≤◌, ◌==◌, Bool, true, false, if◌then◌else◌, List, [], ◌∷◌, ◌++◌, length, Option, Some, None, IfSome, slice_get, refl, ap, sym, subst, ◌∙◌, arith}
use Rattle.std.proofs.lemmas.Bool.Decides.{nat_tests}
use Rattle.std.proofs.lemmas.List.Elements.{All-nil, All-cons}
use Rattle.std.specs.Prelude.{All}
use Rattle.std.specs.Ordering.{nat_cmp, match_ordering}
use Rattle.std.specs.declared.cmp.Ordering.{Ordering}
use Rattle.std.specs.declared.cmp.Ordering.TheVariants.{Less, Equal, Greater}
use Rattle.std.specs.Map.{remove_entry}
use Rattle.std.specs.BTreeMap.{insert_entry}
use Rattle.version_store.specs.Plain.{PlainVersion, parent_of}
use Rattle.session_core.specs.declared.machine.Span.{Span}
use Rattle.session_core.specs.Machine.{with_head}
use Rattle.session_core.specs.Standing.{parent_in, parent_at, with_below, climb, numbers_of}
use Rattle.session_core.specs.MachineView.{sessions_of, SpansBelow}

-- parents are smaller numbers
abbrev pub Falls : (ℕ → Option ℕ) → Type 0
Falls parent = (number : ℕ) → IfSome (parent number) (λ p. p < number)

with_below-eq : (o : Option ℕ) (f g : ℕ → List ℕ) → ((p : ℕ) → o ≡ Some p → f p ≡ g p) → with_below o f ≡ with_below o g
with_below-eq None f g same = refl
with_below-eq (Some p) f g same = ap (λ (l : List ℕ). p ∷ l) (same p refl)

if-eq : {A : Type 0} (b : Bool) (x y z : A) → y ≡ z → (if b then x else y) ≡ (if b then x else z)
if-eq true x y z same = refl
if-eq false x y z same = same

falls_at : (parent : ℕ → Option ℕ) (n p : ℕ) → Falls parent → parent n ≡ Some p → p < n
falls_at parent n p falls is = let P : Option ℕ → Type 0 = λ o. IfSome o (λ q. q < n) in subst P is (falls n)

with_below-none : (o : Option ℕ) (f : ℕ → List ℕ) → IfSome o (λ p. p < 0) → with_below o f ≡ []
with_below-none None f low = refl
with_below-none (Some p) f low = absurd (omega (arith, low))

if-same : {A : Type 0} (b : Bool) (x y : A) → y ≡ x → (if b then x else y) ≡ x
if-same true x y same = refl
if-same false x y same = same

climb-zero : (parent : ℕ → Option ℕ) (bottom steps : ℕ) → Falls parent → climb parent bottom steps 0 ≡ []
climb-zero parent bottom zero falls = refl
climb-zero parent bottom (suc steps) falls = if-same (0 == bottom) [] _ (with_below-none (parent 0) (climb parent bottom steps) (falls 0))

-- more steps than the head's number climb no further
pub climb-more : (parent : ℕ → Option ℕ) (bottom n m head : ℕ) → Falls parent → head ≤ n → head ≤ m → climb parent bottom n head ≡ climb parent bottom m head
climb-more parent bottom zero m head falls a b =
    let z : head ≡ 0 = omega (arith, a) in rw z (sym (climb-zero parent bottom m falls))
climb-more parent bottom (suc n) zero head falls a b =
    let z : head ≡ 0 = omega (arith, b) in rw z (climb-zero parent bottom (suc n) falls)
climb-more parent bottom (suc n) (suc m) head falls a b =
    if-eq (head == bottom) [] _ _ (with_below-eq (parent head) _ _ (λ p is.
    let low : p < head = falls_at parent head p falls is in
    climb-more parent bottom n m p falls (omega (arith, low, a)) (omega (arith, low, b))))

-- versions that are added above the head change no list
pub climb-same : (parent other : ℕ → Option ℕ) (bottom n head size : ℕ) → Falls parent → ((k : ℕ) → k < size → other k ≡ parent k) → head < size → climb other bottom n head ≡ climb parent bottom n head
climb-same parent other bottom zero head size falls same low = refl
climb-same parent other bottom (suc n) head size falls same low =
    rw (same head low) (if-eq (head == bottom) [] _ _ (with_below-eq (parent head) _ _ (λ p is.
    let less : p < head = falls_at parent head p falls is in
    climb-same parent other bottom n p size falls same (omega (arith, less, low)))))

slice_get-left : (xs ys : List PlainVersion) (k : ℕ) → k < length xs → slice_get (xs ++ ys) k ≡ slice_get xs k
slice_get-left [] ys k low = absurd (omega (arith, low))
slice_get-left (x ∷ xs) ys zero low = refl
slice_get-left (x ∷ xs) ys (suc k) low = slice_get-left xs ys k (omega (arith, low))

pub slice_get-end : (xs : List PlainVersion) (x : PlainVersion) → slice_get (xs ++ x ∷ []) (length xs) ≡ Some x
slice_get-end [] x = refl
slice_get-end (y ∷ xs) x = slice_get-end xs x

pub parent_at-left : (xs ys : List PlainVersion) (k : ℕ) → k < length xs → parent_at (xs ++ ys) k ≡ parent_at xs k
parent_at-left xs ys k low = ap parent_in (slice_get-left xs ys k low)

pub numbers_of-left : (xs ys : List PlainVersion) (at : Span) → Falls (parent_at xs) → at.head < length xs → numbers_of (xs ++ ys) at ≡ numbers_of xs at
numbers_of-left xs ys at falls low =
    ap (λ (below : List ℕ). record { head = at.head; below = below }) (climb-same (parent_at xs) (parent_at (xs ++ ys)) at.bottom at.head at.head (length xs) falls (parent_at-left xs ys) low)

insert-map_at : (versions : List PlainVersion) (o : Ordering) (a b c : List (ℕ × Span)) → match_ordering o (sessions_of versions a) (sessions_of versions b) (sessions_of versions c) ≡ sessions_of versions (match_ordering o a b c)
insert-map_at versions Less a b c = refl
insert-map_at versions Equal a b c = refl
insert-map_at versions Greater a b c = refl

pub insert-map : (versions : List PlainVersion) (es : List (ℕ × Span)) (session : ℕ) (at : Span)
    → insert_entry nat_cmp (sessions_of versions es) session (numbers_of versions at) ≡ sessions_of versions (insert_entry nat_cmp es session at)
insert-map versions [] session at = refl
insert-map versions (e ∷ es) session at =
    rw (insert-map versions es session at) (insert-map_at versions (nat_cmp session e.0) ((session, at) ∷ e ∷ es) ((e.0, at) ∷ es) (e ∷ insert_entry nat_cmp es session at))

remove-map_at : (versions : List PlainVersion) (b : Bool) (x y : List (ℕ × Span)) → (if b then sessions_of versions x else sessions_of versions y) ≡ sessions_of versions (if b then x else y)
remove-map_at versions true x y = refl
remove-map_at versions false x y = refl

pub remove-map : (versions : List PlainVersion) (test : ℕ → Bool) (es : List (ℕ × Span)) → remove_entry test (sessions_of versions es) ≡ sessions_of versions (remove_entry test es)
remove-map versions test [] = refl
remove-map versions test (e ∷ es) = rw (remove-map versions test es) (remove-map_at versions (test e.0) es (e ∷ remove_entry test es))

pub sessions_of-left : (xs ys : List PlainVersion) (es : List (ℕ × Span)) → Falls (parent_at xs) → SpansBelow (length xs) es → sessions_of (xs ++ ys) es ≡ sessions_of xs es
sessions_of-left xs ys [] falls low = refl
sessions_of-left xs ys (e ∷ es) falls low =
    let one : numbers_of (xs ++ ys) e.1 ≡ numbers_of xs e.1 = numbers_of-left xs ys e.1 falls low.0.1 in
    let rest : sessions_of (xs ++ ys) es ≡ sessions_of xs es = sessions_of-left xs ys es falls low.1 in
    rw (one, rest) refl

-- a span with the next number as its head stands for the list with that number
pub numbers_of-pushed : (xs : List PlainVersion) (v : PlainVersion) (bottom base : ℕ) → Falls (parent_at xs) → bottom < length xs → base < length xs → parent_of v ≡ Some base
    → numbers_of (xs ++ v ∷ []) (record { bottom = bottom; head = length xs }) ≡ with_head (length xs) (numbers_of xs (record { bottom = bottom; head = base }))
numbers_of-pushed xs v bottom base falls low here is = pushed (length xs) refl
  where
    pushed : (n : ℕ) → length xs ≡ n → numbers_of (xs ++ v ∷ []) (record { bottom = bottom; head = length xs }) ≡ with_head (length xs) (numbers_of xs (record { bottom = bottom; head = base }))
    pushed zero e = absurd (omega (arith, e, low))
    pushed (suc n) e =
        let apart : (suc n == bottom) ≡ false = grind (arith, nat_tests) in
        let top : parent_at (xs ++ v ∷ []) (suc n) ≡ Some base = ap parent_in (subst (λ k. slice_get (xs ++ v ∷ []) k ≡ Some v) e (slice_get-end xs v)) ∙ is in
        let less : climb (parent_at (xs ++ v ∷ [])) bottom n base ≡ climb (parent_at xs) bottom n base = climb-same (parent_at xs) (parent_at (xs ++ v ∷ [])) bottom n base (length xs) falls (parent_at-left xs (v ∷ [])) here in
        let more : climb (parent_at xs) bottom n base ≡ climb (parent_at xs) bottom base base = climb-more (parent_at xs) bottom n base base falls (omega (arith, e, here)) (omega arith) in
        let all : climb (parent_at (xs ++ v ∷ [])) bottom (suc n) (suc n) ≡ base ∷ climb (parent_at xs) bottom base base = rw (apart, top, less, more) refl in
        subst (λ k. record { head = k; below = climb (parent_at (xs ++ v ∷ [])) bottom k k } ≡ with_head k (numbers_of xs (record { bottom = bottom; head = base }))) (sym e)
        (ap (λ (below : List ℕ). record { head = suc n; below = below }) all)

-- below the bottom there is nothing, and below another head its parent with what is below that
pub numbers_of-bottom : (xs : List PlainVersion) (at : Span) → at.head ≡ at.bottom → (numbers_of xs at).below ≡ []
numbers_of-bottom xs at e = at_bottom at.head e
  where
    at_bottom : (head : ℕ) → head ≡ at.bottom → climb (parent_at xs) at.bottom head head ≡ []
    at_bottom zero e = refl
    at_bottom (suc n) e = let same : (suc n == at.bottom) ≡ true = grind (arith, nat_tests) in rw same refl

pub numbers_of-orphan : (xs : List PlainVersion) (at : Span) → parent_at xs at.head ≡ None → (numbers_of xs at).below ≡ []
numbers_of-orphan xs at e = orphan at.head e
  where
    orphan : (head : ℕ) → parent_at xs head ≡ None → climb (parent_at xs) at.bottom head head ≡ []
    orphan zero e = refl
    orphan (suc n) e = if-same (suc n == at.bottom) [] _ (rw e refl)

pub numbers_of-parent : (xs : List PlainVersion) (bottom head parent : ℕ) → Falls (parent_at xs) → (head == bottom) ≡ false → parent_at xs head ≡ Some parent
    → (numbers_of xs (record { bottom = bottom; head = head })).below ≡ parent ∷ (numbers_of xs (record { bottom = bottom; head = parent })).below
numbers_of-parent xs bottom zero parent falls apart is = absurd (omega (arith, falls_at (parent_at xs) 0 parent falls is))
numbers_of-parent xs bottom (suc n) parent falls apart is =
    let low : parent < suc n = falls_at (parent_at xs) (suc n) parent falls is in
    let more : climb (parent_at xs) bottom n parent ≡ climb (parent_at xs) bottom parent parent = climb-more (parent_at xs) bottom n parent parent falls (omega (arith, low)) (omega arith) in
    rw (apart, is, more) refl

-- the numbers below a head are smaller
below_low : (o : Option ℕ) (below : ℕ → List ℕ) (n : ℕ) → ((p : ℕ) → o ≡ Some p → (p < n) × All (λ k. k < n) (below p)) → All (λ k. k < n) (with_below o below)
below_low None below n low = All-nil (λ k. k < n)
below_low (Some p) below n low = let both = low p refl in All-cons (λ k. k < n) p (below p) both.0 both.1

low_if : (b : Bool) (xs : List ℕ) (n : ℕ) → All (λ k. k < n) xs → All (λ k. k < n) (if b then [] else xs)
low_if true xs n low = All-nil (λ k. k < n)
low_if false xs n low = low

pub climb_low : (parent : ℕ → Option ℕ) (bottom steps head n : ℕ) → Falls parent → head < n → All (λ k. k < n) (climb parent bottom steps head)
climb_low parent bottom zero head n falls low = All-nil (λ k. k < n)
climb_low parent bottom (suc steps) head n falls low =
    low_if (head == bottom) (with_below (parent head) (climb parent bottom steps)) n
    (below_low (parent head) (climb parent bottom steps) n (λ p is.
    let less : p < head = falls_at parent head p falls is in
    (omega (arith, less, low), climb_low parent bottom steps p n falls (omega (arith, less, low)))))
