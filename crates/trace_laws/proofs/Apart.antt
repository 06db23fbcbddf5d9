-- No two stages have one name.
use Rattle.std.proofs.Common.{◌≡◌, ℕ, ◌+◌, ◌-◌, ◌<◌, ◌≤◌, List, [], ◌∷◌, ◌++◌, Bool, true, false, cond, codes, decimal, get_or, length, Some, refl, sym, ap, ◌∙◌, arith}
use Rattle.std.specs.Prelude.{nat_eq, nat_lt, slice_get}
use Rattle.std.proofs.lemmas.Bool.Decides.{nat_tests}
use Rattle.std.proofs.lemmas.Fmt.{decimal_injective}
use Rattle.trace_stages.specs.Apart.{AreApart, IsEnding}
use Rattle.trace_stages.specs.Naming.{counted, name_of}
use Rattle.trace_stages.specs.Scene.{PlainScene, entry_at}
use Rattle.trace_stages.specs.declared.stage.StageName.{StageName}
use Rattle.trace_stages.specs.declared.stage.StageName.TheVariants as named
use Rattle.trace_stages.specs.declared.walk.stage_id.StageId.{StageId}
use Rattle.trace_stages.specs.declared.walk.stage_id.StageId.TheVariants.{Start, Whole, Entry, Join, Work, Tried, Limit, Answer}
use Rattle.trace_import.specs.StageNames.{stage_name, text_or_none}
use Rattle.trace_laws.proofs.Wellnamed.{ending_of, number_in, place_named, spelled}

-- ---- what is put after names

-- the number behind an ending
abbrev digits_of : ℕ → List ℕ
digits_of number = cond (nat_lt 1 number) (codes "-" ++ decimal number) []

count_ending : (b : Bool) (digits : List ℕ) → IsEnding (cond b (codes ".join" ++ codes "-" ++ digits) (codes ".join"))
count_ending true digits = (refl, refl)
count_ending false digits = (refl, refl)

work_ending : (b : Bool) (digits : List ℕ) → IsEnding (cond b (codes ".work" ++ codes "-" ++ digits) (codes ".work"))
work_ending true digits = (refl, refl)
work_ending false digits = (refl, refl)

is_ending : (name : StageName) → IsEnding (ending_of name)
is_ending (named.Whole place) = tt
is_ending (named.Join place number) = count_ending (nat_lt 1 number) (decimal number)
is_ending (named.Work place number) = work_ending (nat_lt 1 number) (decimal number)
is_ending (named.Start place) = (refl, refl)
is_ending (named.Tried place) = (refl, refl)
is_ending (named.Limit place) = (refl, refl)
is_ending (named.Answer place) = (refl, refl)

-- the first letter of an ending tells what kind of name it is
abbrev letter : StageName → ℕ
letter (named.Start place) = 115
letter (named.Whole place) = 0
letter (named.Join place number) = 106
letter (named.Work place number) = 119
letter (named.Tried place) = 116
letter (named.Limit place) = 108
letter (named.Answer place) = 97

abbrev stem_of : ℕ → List ℕ
stem_of code =
    cond (nat_eq code 115) (codes ".start")
    (cond (nat_eq code 106) (codes ".join")
    (cond (nat_eq code 119) (codes ".work")
    (cond (nat_eq code 116) (codes ".tried")
    (cond (nat_eq code 108) (codes ".limit")
    (cond (nat_eq code 97) (codes ".answer") [])))))

abbrev built : ℕ → ℕ → ℕ → StageName
built code place number =
    cond (nat_eq code 115) (named.Start place)
    (cond (nat_eq code 106) (named.Join place number)
    (cond (nat_eq code 119) (named.Work place number)
    (cond (nat_eq code 116) (named.Tried place)
    (cond (nat_eq code 108) (named.Limit place)
    (cond (nat_eq code 97) (named.Answer place) (named.Whole place))))))

join_letter : (b : Bool) (digits : List ℕ) → get_or (cond b (codes ".join" ++ codes "-" ++ digits) (codes ".join")) 1 0 ≡ 106
join_letter true digits = refl
join_letter false digits = refl

work_letter : (b : Bool) (digits : List ℕ) → get_or (cond b (codes ".work" ++ codes "-" ++ digits) (codes ".work")) 1 0 ≡ 119
work_letter true digits = refl
work_letter false digits = refl

letter_is : (name : StageName) → get_or (ending_of name) 1 0 ≡ letter name
letter_is (named.Start place) = refl
letter_is (named.Whole place) = refl
letter_is (named.Join place number) = join_letter (nat_lt 1 number) (decimal number)
letter_is (named.Work place number) = work_letter (nat_lt 1 number) (decimal number)
letter_is (named.Tried place) = refl
letter_is (named.Limit place) = refl
letter_is (named.Answer place) = refl

join_stem : (b : Bool) (digits : List ℕ) → cond b (codes ".join" ++ codes "-" ++ digits) (codes ".join") ≡ codes ".join" ++ cond b (codes "-" ++ digits) []
join_stem true digits = refl
join_stem false digits = refl

work_stem : (b : Bool) (digits : List ℕ) → cond b (codes ".work" ++ codes "-" ++ digits) (codes ".work") ≡ codes ".work" ++ cond b (codes "-" ++ digits) []
work_stem true digits = refl
work_stem false digits = refl

stem_is : (name : StageName) → ending_of name ≡ stem_of (letter name) ++ digits_of (number_in name)
stem_is (named.Start place) = refl
stem_is (named.Whole place) = refl
stem_is (named.Join place number) = join_stem (nat_lt 1 number) (decimal number)
stem_is (named.Work place number) = work_stem (nat_lt 1 number) (decimal number)
stem_is (named.Tried place) = refl
stem_is (named.Limit place) = refl
stem_is (named.Answer place) = refl

built_is : (name : StageName) → built (letter name) (place_named name) (number_in name) ≡ name
built_is (named.Start place) = refl
built_is (named.Whole place) = refl
built_is (named.Join place number) = refl
built_is (named.Work place number) = refl
built_is (named.Tried place) = refl
built_is (named.Limit place) = refl
built_is (named.Answer place) = refl

cancelled : (xs a b : List ℕ) → xs ++ a ≡ xs ++ b → a ≡ b
cancelled [] a b h = h
cancelled (x ∷ xs) a b h = let rest : xs ++ a ≡ xs ++ b = cc in cancelled xs a b rest

only_one : (n : ℕ) → 0 < n → nat_lt 1 n ≡ false → n ≡ 1
only_one n some e = grind (arith, nat_tests)

no_digits : (digits : List ℕ) → codes "-" ++ digits ≡ [] → ⊥
no_digits digits e = cc

same_digits : (x y : List ℕ) → codes "-" ++ x ≡ codes "-" ++ y → x ≡ y
same_digits x y e = cc

same_number : (n m : ℕ) (b a : Bool) → nat_lt 1 n ≡ b → nat_lt 1 m ≡ a → 0 < n → 0 < m → n < 100000 → m < 100000 → cond b (codes "-" ++ decimal n) [] ≡ cond a (codes "-" ++ decimal m) [] → n ≡ m
same_number n m true true at also some more low lower e = decimal_injective n m (omega arith) (omega arith) (same_digits (decimal n) (decimal m) e)
same_number n m true false at also some more low lower e = absurd (no_digits (decimal n) e)
same_number n m false true at also some more low lower e = absurd (no_digits (decimal m) (sym e))
same_number n m false false at also some more low lower e = only_one n some at ∙ sym (only_one m more also)

-- ---- names

-- a name has a number from 1 on
abbrev pub IsCounted : StageName → Type 0
IsCounted name = (0 < number_in name) × (number_in name < 100000)

same_ends : (name other : StageName) → IsCounted name → IsCounted other → place_named name ≡ place_named other → ending_of name ≡ ending_of other → name ≡ other
same_ends name other a b places ends =
    let letters : letter name ≡ letter other = sym (letter_is name) ∙ ap (λ (l : List ℕ). get_or l 1 0) ends ∙ letter_is other in
    let digits : digits_of (number_in name) ≡ digits_of (number_in other) =
    cancelled (stem_of (letter name)) (digits_of (number_in name)) (digits_of (number_in other)) (sym (stem_is name) ∙ ends ∙ stem_is other ∙ ap (λ code. stem_of code ++ digits_of (number_in other)) (sym letters)) in
    let numbers = same_number (number_in name) (number_in other) (nat_lt 1 (number_in name)) (nat_lt 1 (number_in other)) refl refl a.0 b.0 a.1 b.1 digits in
    sym (built_is name) ∙ ap (λ code. built code (place_named name) (number_in name)) letters ∙ ap (λ place. built (letter other) place (number_in name)) places ∙ ap (built (letter other) (place_named other)) numbers ∙ built_is other

pub same_name : (names : List (List ℕ)) → AreApart names → (name other : StageName) (own others : List ℕ) → slice_get names (place_named name) ≡ Some own → slice_get names (place_named other) ≡ Some others → IsCounted name → IsCounted other
    → stage_name names name ≡ stage_name names other → name ≡ other
same_name names apart name other own others at also a b e =
    let whole : own ++ ending_of name ≡ others ++ ending_of other =
    ap (λ o. text_or_none o ++ ending_of name) (sym at) ∙ sym (spelled names name) ∙ e ∙ spelled names other ∙ ap (λ o. text_or_none o ++ ending_of other) also in
    let same = apart (place_named name) (place_named other) own others (ending_of name) (ending_of other) at also (is_ending name) (is_ending other) whole in
    same_ends name other a b same.0 same.1

-- ---- ids

module _ (scene : PlainScene) where
  abbrev entries_of : ℕ → ℕ
  entries_of place = length (entry_at scene.entries place).joins

  -- the numbers of joins and of own work are small
  abbrev pub IsSmall : StageId → Type 0
  IsSmall (Entry span number) = (number < entries_of span) × (entries_of span ≤ 100)
  IsSmall (Join span number) = (number ≤ 66_000) × (entries_of span ≤ 100)
  IsSmall (Work span number) = number ≤ 65_536
  IsSmall other = Unit {0}

  pub small_counted : (id : StageId) → IsSmall id → IsCounted (name_of scene id)
  small_counted (Entry span number) h = (omega arith, omega arith)
  small_counted (Join span number) h = (omega arith, omega arith)
  small_counted (Work span number) h = (omega arith, omega arith)
  small_counted other h = (omega arith, omega arith)

  -- the stage that a name is of
  abbrev id_of : StageName → StageId
  id_of (named.Start place) = Start place
  id_of (named.Whole place) = Whole place
  id_of (named.Tried place) = Tried place
  id_of (named.Limit place) = Limit place
  id_of (named.Answer place) = Answer place
  id_of (named.Work place number) = Work place (number - 1)
  id_of (named.Join place number) = cond (nat_lt (number - 1) (entries_of place)) (Entry place (number - 1)) (Join place (number - 1 - entries_of place))

  less_one : (k : ℕ) → k < 100000 → counted (k + 1) - 1 ≡ k
  less_one k low = omega arith

  below_test : (k most : ℕ) → k < most → nat_lt k most ≡ true
  below_test k most low = grind (arith, nat_tests)

  above_test : (k most : ℕ) → most ≤ k → nat_lt k most ≡ false
  above_test k most low = grind (arith, nat_tests)

  entry_named : (span k number : ℕ) → k ≡ number → number < entries_of span → cond (nat_lt k (entries_of span)) (Entry span k) (Join span (k - entries_of span)) ≡ Entry span number
  entry_named span k number e low =
      ap (λ b. cond b (Entry span k) (Join span (k - entries_of span))) (below_test k (entries_of span) (omega arith)) ∙ ap (Entry span) e

  join_named : (span k number : ℕ) → k ≡ number + entries_of span → cond (nat_lt k (entries_of span)) (Entry span k) (Join span (k - entries_of span)) ≡ Join span number
  join_named span k number e =
      ap (λ b. cond b (Entry span k) (Join span (k - entries_of span))) (above_test k (entries_of span) (omega arith)) ∙ ap (Join span) (omega arith)

  named_id : (id : StageId) → IsSmall id → id_of (name_of scene id) ≡ id
  named_id (Entry span number) h = entry_named span (counted (number + 1) - 1) number (less_one number (omega arith)) h.0
  named_id (Join span number) h = join_named span (counted (number + entries_of span + 1) - 1) number (less_one (number + entries_of span) (omega arith))
  named_id (Work span number) h = ap (Work span) (less_one number (omega arith))
  named_id other h = refl

  -- a name is of one stage
  pub same_id : (id other : StageId) → IsSmall id → IsSmall other → name_of scene id ≡ name_of scene other → id ≡ other
  same_id id other a b e = sym (named_id id a) ∙ ap id_of e ∙ named_id other b
