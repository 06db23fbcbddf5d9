-- What the search finds, and how it comes there.
use Rattle.std.proofs.Common.{◌≡◌, ◌+◌, ◌-◌, ◌*◌, ◌/◌, ◌^◌, ◌<◌, ◌≤◌, ℕ, zero, suc, Bool, true, false, cond, max, refl, ap, sym, ◌∙◌, subst, inl, inr, arith, ⊎_elim}
use Rattle.std.specs.Prelude.{nat_lt, ◌⊎◌, Some, None}
use Rattle.std.proofs.Math.Nat.{max-eq_left, mul-div_left, pow-suc}
use Rattle.std.proofs.Math.Numerals.{add-one}
use Rattle.std.proofs.lemmas.Bool.{and_from, and_parts, cases_lt, false≢true, lt-ltb, ltb-true}
use Rattle.std.proofs.lemmas.Nat.{pow_pos}
use Rattle.propagate.proofs.Members.{false_unless}
use Rattle.stage_slack.specs.Search.{below, doublings, from_power, halvings, most_ticks, searched, IsEdge}

-- ---- powers of two

double : (power : ℕ) → 2 ^ suc power ≡ 2 ^ power + 2 ^ power
double power = let twice : 2 ^ suc power ≡ 2 ^ power * 2 = pow-suc 2 power in omega (arith, twice)

half : (power : ℕ) → 2 ^ suc power / 2 ≡ 2 ^ power
half power = ap (λ (n : ℕ). n / 2) (pow-suc 2 power) ∙ mul-div_left (2 ^ power) (omega arith)

next : (power : ℕ) → 2 ^ (power + 1) ≡ 2 ^ power * 2
next power = ap (λ (n : ℕ). 2 ^ n) (add-one power) ∙ pow-suc 2 power

module _ (test : ℕ → Bool) where
  halvings_by : (power ticks : ℕ) (b : Bool) → test (ticks + 2 ^ power) ≡ b → halvings test (suc power) ticks ≡ halvings test power (cond b (ticks + 2 ^ power) ticks)
  halvings_by power ticks b is = ap (λ (b : Bool). halvings test power (cond b (ticks + 2 ^ power) ticks)) is

  doublings_by : (times power : ℕ) (b : Bool) → test (2 ^ power) ≡ b → doublings test (suc times) power ≡ cond b (doublings test times (power + 1)) power
  doublings_by times power b is = ap (λ (b : Bool). cond b (doublings test times (power + 1)) power) is

  -- ---- what is found by halving

  abbrev AtEdge : ℕ → Type 0
  AtEdge ticks = (test ticks ≡ true) × (test (ticks + 1) ≡ false)

  halved_once : (power ticks : ℕ) → test ticks ≡ true → test (ticks + 2 ^ suc power) ≡ false → ((ticks : ℕ) → test ticks ≡ true → test (ticks + 2 ^ power) ≡ false → AtEdge (halvings test power ticks))
      → (b : Bool) → test (ticks + 2 ^ power) ≡ b → AtEdge (halvings test (suc power) ticks)
  halved_once power ticks holds fails later true is =
      let twice = double power in
      let further : ticks + 2 ^ power + 2 ^ power ≡ ticks + 2 ^ suc power = omega (arith, twice) in
      subst AtEdge (sym (halvings_by power ticks true is)) (later (ticks + 2 ^ power) is (ap test further ∙ fails))
  halved_once power ticks holds fails later false is = subst AtEdge (sym (halvings_by power ticks false is)) (later ticks holds is)

  halved_edge : (power ticks : ℕ) → test ticks ≡ true → test (ticks + 2 ^ power) ≡ false → AtEdge (halvings test power ticks)
  halved_edge zero ticks holds fails = (holds, fails)
  halved_edge (suc power) ticks holds fails = halved_once power ticks holds fails (λ ticks. halved_edge power ticks) (test (ticks + 2 ^ power)) refl

  -- ---- what is found by doubling

  fails_once : (times power : ℕ) → test (2 ^ doublings test times (power + 1)) ≡ false → (b : Bool) → test (2 ^ power) ≡ b → test (2 ^ doublings test (suc times) power) ≡ false
  fails_once times power later true is = ap (λ (n : ℕ). test (2 ^ n)) (doublings_by times power true is) ∙ later
  fails_once times power later false is = ap (λ (n : ℕ). test (2 ^ n)) (doublings_by times power false is) ∙ is

  fails_there : (most : ℕ) → ((ticks : ℕ) → most ≤ ticks → test ticks ≡ false) → (times power : ℕ) → most ≤ times + 2 ^ power → test (2 ^ doublings test times power) ≡ false
  fails_there most past zero power far = past (2 ^ power) (omega (arith, far))
  fails_there most past (suc times) power far =
      let twice = next power in
      let some = pow_pos power in
      fails_once times power (fails_there most past times (power + 1) (omega (arith, far, twice, some))) (test (2 ^ power)) refl

  abbrev HoldsBefore : ℕ → Type 0
  HoldsBefore power = (power ≡ 0) ⊎ (test (2 ^ (power - 1)) ≡ true)

  before_once : (times power : ℕ) → HoldsBefore power → (test (2 ^ power) ≡ true → HoldsBefore (doublings test times (power + 1))) → (b : Bool) → test (2 ^ power) ≡ b → HoldsBefore (doublings test (suc times) power)
  before_once times power before later true is = subst HoldsBefore (sym (doublings_by times power true is)) (later is)
  before_once times power before later false is = subst HoldsBefore (sym (doublings_by times power false is)) before

  holds_before : (times power : ℕ) → HoldsBefore power → HoldsBefore (doublings test times power)
  holds_before zero power before = before
  holds_before (suc times) power before =
      let back : power + 1 - 1 ≡ power = omega arith in
      before_once times power before (λ is. holds_before times (power + 1) (inr (ap (λ (n : ℕ). test (2 ^ n)) back ∙ is))) (test (2 ^ power)) refl

  -- ---- both

  from_last : (power : ℕ) → from_power test (suc power) ≡ halvings test power (2 ^ power)
  from_last power =
      let less : suc power - 1 ≡ power = omega arith in
      ap (λ (n : ℕ). halvings test n (2 ^ suc power / 2)) less ∙ ap (λ (ticks : ℕ). halvings test power ticks) (half power)

  power_edge : (power : ℕ) → test 0 ≡ true → test (2 ^ power) ≡ false → HoldsBefore power → AtEdge (from_power test power)
  power_edge zero own fails before = (own, fails)
  power_edge (suc power) own fails before =
      let less : suc power - 1 ≡ power = omega arith in
      let holds : test (2 ^ power) ≡ true = ⊎_elim (λ (none : suc power ≡ 0). absurd (omega (arith, none))) (λ is. ap (λ (n : ℕ). test (2 ^ n)) (sym less) ∙ is) before in
      subst AtEdge (sym (from_last power)) (halved_edge power (2 ^ power) holds (ap test (sym (double power)) ∙ fails))

-- what is found is an edge of the test, where it holds at 0
pub found_edge : (most : ℕ) (test : ℕ → Bool) → test 0 ≡ true → IsEdge most test (most_ticks most test)
found_edge most test own = of (test most) refl where
  inside : (ticks : ℕ) → ticks < most → test ticks ≡ true → below most test ticks ≡ true
  inside ticks less is = and_from (nat_lt ticks most) (test ticks) (lt-ltb ticks most less) is

  outside : (ticks : ℕ) → most ≤ ticks → below most test ticks ≡ false
  outside ticks past = false_unless (below most test ticks) (λ is. let less = ltb-true ticks most (and_parts (nat_lt ticks most) (test ticks) is).0 in omega (arith, past, less))

  of : (b : Bool) → test most ≡ b → IsEdge most test (cond b None (Some (searched most test)))
  of true is = is
  of false is =
      let some : 0 < most = ⊎_elim (λ some. some) (λ (none : most ≤ 0). let nothing : most ≡ 0 = omega (arith, none) in absurd (false≢true (sym is ∙ ap test nothing ∙ own))) (cases_lt 0 most) in
      let start : most ≤ most + 2 ^ 0 = omega arith in
      let edge = power_edge (below most test) (doublings (below most test) most 0) (inside 0 some own) (fails_there (below most test) most outside most 0 start) (holds_before (below most test) most 0 (inl refl)) in
      let ticks = searched most test in
      let parts = and_parts (nat_lt ticks most) (test ticks) edge.0 in
      let less : ticks < most = ltb-true ticks most parts.0 in (
        less,
        parts.1,
        ⊎_elim
            (λ (within : ticks + 1 < most). false_unless (test (ticks + 1)) (λ holds. false≢true (sym edge.1 ∙ inside (ticks + 1) within holds)))
            (λ (past : most ≤ ticks + 1). let end : ticks + 1 ≡ most = omega (arith, past, less) in ap test end ∙ is)
            (cases_lt (ticks + 1) most),
      )

-- ---- the loop that doubles

-- the power of two so far, and how often it can still be doubled
pub record IsDoubled (most : ℕ) (test : ℕ → Bool) (past : ℕ) : Type 0 where
  pub power : ℕ
  pub times : ℕ
  pub at_power : past ≡ 2 ^ power
  pub far : most ≤ times + past
  pub same : doublings (below most test) times power ≡ doublings (below most test) most 0

pub first_doubled : (most : ℕ) (test : ℕ → Bool) → IsDoubled most test 1
first_doubled most test = record { power = 0; times = most; at_power = refl; far = omega arith; same = refl }

doubled_by : (most : ℕ) (test : ℕ → Bool) (past times power : ℕ) → below most test past ≡ true → past ≡ 2 ^ power → most ≤ times + past
    → doublings (below most test) times power ≡ doublings (below most test) most 0 → IsDoubled most test (past * 2)
doubled_by most test past zero power holds is far same = let less = ltb-true past most (and_parts (nat_lt past most) (test past) holds).0 in absurd (omega (arith, far, less))
doubled_by most test past (suc times) power holds is far same = record {
  power = power + 1;
  times = times;
  at_power = ap (λ (n : ℕ). n * 2) is ∙ sym (next power);
  far = let some = pow_pos power in omega (arith, far, some, is);
  same = sym (doublings_by (below most test) times power true (ap (below most test) (sym is) ∙ holds)) ∙ same;
}

pub doubled_more : (most : ℕ) (test : ℕ → Bool) (past : ℕ) → IsDoubled most test past → below most test past ≡ true → IsDoubled most test (past * 2)
doubled_more most test past so_far holds = doubled_by most test past so_far.times so_far.power holds so_far.at_power so_far.far so_far.same

ended_by : (test : ℕ → Bool) (times power : ℕ) → test (2 ^ power) ≡ false → doublings test times power ≡ power
ended_by test zero power fails = refl
ended_by test (suc times) power fails = doublings_by test times power false fails

pub doubled_all : (most : ℕ) (test : ℕ → Bool) (past : ℕ) → IsDoubled most test past → below most test past ≡ false → past ≡ 2 ^ doublings (below most test) most 0
doubled_all most test past so_far fails =
    so_far.at_power
    ∙ ap (λ (n : ℕ). 2 ^ n) (sym (ended_by (below most test) so_far.times so_far.power (ap (below most test) (sym so_far.at_power) ∙ fails)) ∙ so_far.same)

pub is_less : (most : ℕ) (test : ℕ → Bool) (ticks : ℕ) → below most test ticks ≡ true → ticks < most
is_less most test ticks holds = ltb-true ticks most (and_parts (nat_lt ticks most) (test ticks) holds).0

pub past_positive : (most : ℕ) (test : ℕ → Bool) (past : ℕ) → IsDoubled most test past → 0 < past
past_positive most test past so_far = let some = pow_pos so_far.power in omega (arith, some, so_far.at_power)

-- ---- the loop that halves

-- the power of two that the step is, and what is found from here
pub record IsHalved (test : ℕ → Bool) (found ticks step : ℕ) : Type 0 where
  pub power : ℕ
  pub at_power : step ≡ 2 ^ power
  pub same : halvings test power ticks ≡ found

pub first_halved : (test : ℕ → Bool) (power past : ℕ) → past ≡ 2 ^ power → IsHalved test (from_power test power) (past / 2) (max (past / 2) 1)
first_halved test power past is = subst (λ (n : ℕ). IsHalved test (from_power test power) (n / 2) (max (n / 2) 1)) (sym is) (of power) where
  of : (power : ℕ) → IsHalved test (from_power test power) (2 ^ power / 2) (max (2 ^ power / 2) 1)
  of zero = record { power = 0; at_power = refl; same = refl }
  of (suc power) =
      let some = pow_pos power in
      let least : 1 ≤ 2 ^ power = omega (arith, some) in
      record {
        power = power;
        at_power = ap (λ (n : ℕ). max n 1) (half power) ∙ max-eq_left least;
        same = ap (λ (ticks : ℕ). halvings test power ticks) (half power) ∙ sym (from_last test power);
      }

halved_by : (test : ℕ → Bool) (found ticks step power : ℕ) → 1 < step → step ≡ 2 ^ power → halvings test power ticks ≡ found
    → IsHalved test found (cond (test (ticks + step / 2)) (ticks + step / 2) ticks) (step / 2)
halved_by test found ticks step zero more is same = absurd (omega (arith, more, is))
halved_by test found ticks step (suc power) more is same =
    let halved : step / 2 ≡ 2 ^ power = ap (λ (n : ℕ). n / 2) is ∙ half power in
    record { power = power; at_power = halved; same = ap (λ (h : ℕ). halvings test power (cond (test (ticks + h)) (ticks + h) ticks)) halved ∙ same }

pub halved_more : (test : ℕ → Bool) (found ticks step : ℕ) → IsHalved test found ticks step → 1 < step → IsHalved test found (cond (test (ticks + step / 2)) (ticks + step / 2) ticks) (step / 2)
halved_more test found ticks step so_far more = halved_by test found ticks step so_far.power more so_far.at_power so_far.same

ended_at : (test : ℕ → Bool) (found ticks step power : ℕ) → step ≤ 1 → step ≡ 2 ^ power → halvings test power ticks ≡ found → ticks ≡ found
ended_at test found ticks step zero few is same = same
ended_at test found ticks step (suc power) few is same = let twice = double power in let some = pow_pos power in absurd (omega (arith, few, is, twice, some))

pub halved_all : (test : ℕ → Bool) (found ticks step : ℕ) → IsHalved test found ticks step → step ≤ 1 → ticks ≡ found
halved_all test found ticks step so_far few = ended_at test found ticks step so_far.power few so_far.at_power so_far.same

pub raised_few : (b : Bool) (ticks step most : ℕ) → ticks + step ≤ most → cond b (ticks + step / 2) ticks + step / 2 ≤ most
raised_few true ticks step most few = omega (arith, few)
raised_few false ticks step most few = omega (arith, few)
