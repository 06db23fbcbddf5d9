-- One more source of a join, and one more join.
use Rattle.std.proofs.Common.{◌≡◌, ℕ, ◌+◌, ◌<◌, List, [], ◌∷◌, ◌++◌, Bool, true, false, Option, Some, None, drop, get_or, length, map, max, take, refl, sym, ap, ◌∙◌, arith}
use Rattle.std.specs.Prelude.{Vec, filter}
use Rattle.std.specs.declared.alloc.Global.{Global}
use Rattle.std.proofs.lemmas.Bool.Decides.{nat_tests}
use Rattle.std.proofs.lemmas.List.{append-nil, map-append, at_drop_more, take_more}
use Rattle.std.proofs.lemmas.List.Sums.{fold-append}
use Rattle.trace_stages.specs.declared.outcomes.Outcome.{Outcome}
use Rattle.trace_stages.specs.Outcomes.{PlainSight, earlier_of, earliest, failure_of, first_of, has_failed, join_outcome, join_outcomes, latest, outcome_of, with_failure, with_join}
use Rattle.trace_stages.specs.PlainJoins.{plain_joins}
use Rattle.trace_stages.specs.Scene.{handed_join}
use Rattle.trace_stages.specs.declared.walk.stage_id.StageId.{StageId}

abbrev pub merged : Option Outcome → Option Outcome → Option Outcome
merged None second = second
merged (Some first) second = Some (earlier_of first second)

-- what a join comes to after some sources, with those that are left
abbrev pub joined_from : ℕ → Option Outcome → List Outcome → Outcome
joined_from tick failed outcomes = record { tick = max tick (latest outcomes); failure = failure_of (merged failed (earliest (filter has_failed outcomes))) }

three_earliest : (first second third : Outcome) → earlier_of first (Some (earlier_of second (Some third))) ≡ earlier_of (earlier_of first (Some second)) (Some third)
three_earliest first second third = grind (arith, nat_tests)

merged_more : (failed : Option Outcome) (outcome : Outcome) (rest : Option Outcome) → merged failed (Some (earlier_of outcome rest)) ≡ merged (Some (first_of failed outcome)) rest
merged_more None outcome rest = refl
merged_more (Some first) outcome None = refl
merged_more (Some first) outcome (Some second) = ap Some (three_earliest first outcome second)

failed_more : (failed : Option Outcome) (outcome : Outcome) (rest : List Outcome) (b : Bool) → has_failed outcome ≡ b → merged failed (earliest (filter has_failed (outcome ∷ rest))) ≡ merged (with_failure failed outcome) (earliest (filter has_failed rest))
failed_more failed outcome rest true h = rw h (merged_more failed outcome (earliest (filter has_failed rest)))
failed_more failed outcome rest false h = rw h refl

latest_more : (tick first rest : ℕ) → max tick (max first rest) ≡ max (max tick first) rest
latest_more tick first rest = omega arith

pub joined_more : (tick : ℕ) (failed : Option Outcome) (outcome : Outcome) (rest : List Outcome) → joined_from tick failed (outcome ∷ rest) ≡ joined_from (max tick outcome.tick) (with_failure failed outcome) rest
joined_more tick failed outcome rest =
    ap (λ n. record { tick = n; failure = failure_of (merged failed (earliest (filter has_failed (outcome ∷ rest)))) }) (latest_more tick outcome.tick (latest rest))
    ∙ ap (λ o. record { tick = max (max tick outcome.tick) (latest rest); failure = failure_of o }) (failed_more failed outcome rest (has_failed outcome) refl)

pub joined_first : (outcomes : List Outcome) → joined_from 0 None outcomes ≡ join_outcome outcomes
joined_first outcomes =
    let m : max 0 (latest outcomes) ≡ latest outcomes = omega arith in
    ap (λ n. record { tick = n; failure = failure_of (earliest (filter has_failed outcomes)) }) m

merged_none : (failed : Option Outcome) → merged failed None ≡ failed
merged_none None = refl
merged_none (Some first) = refl

pub joined_last : (tick : ℕ) (failed : Option Outcome) → joined_from tick failed [] ≡ record { tick = tick; failure = failure_of failed }
joined_last tick failed =
    let m : max tick 0 ≡ tick = omega arith in
    ap (λ n. record { tick = n; failure = failure_of (merged failed None) }) m
    ∙ ap (λ o. record { tick = tick; failure = failure_of o }) (merged_none failed)

-- one more source
pub source_more : (sight : PlainSight) (own : List Outcome) (sources : List StageId) (i tick : ℕ) (failed : Option Outcome) (source : StageId) → i < length sources → joined_from tick failed (map (outcome_of sight own) (drop i sources)) ≡ join_outcome (map (outcome_of sight own) sources) → joined_from (max tick (outcome_of sight own (get_or sources i source)).tick) (with_failure failed (outcome_of sight own (get_or sources i source))) (map (outcome_of sight own) (drop (i + 1) sources)) ≡ join_outcome (map (outcome_of sight own) sources)
source_more sight own sources i tick failed source lt so_far =
    sym (joined_more tick failed (outcome_of sight own (get_or sources i source)) (map (outcome_of sight own) (drop (i + 1) sources)))
    ∙ sym (at_drop_more (λ those. joined_from tick failed (map (outcome_of sight own) those)) sources i source lt)
    ∙ so_far

-- one more join
pub join_more : (sight : PlainSight) (joins : List (Vec StageId Global)) (i : ℕ) (sources : Vec StageId Global) → i < length joins → join_outcomes sight (plain_joins (take (i + 1) joins)) ≡ with_join sight (join_outcomes sight (plain_joins (take i joins))) (get_or joins i sources).items
join_more sight joins i sources lt =
    ap (λ those. join_outcomes sight (plain_joins those)) (take_more joins i sources lt)
    ∙ ap (λ those. join_outcomes sight those) (map-append (λ those. those.items) (take i joins) (get_or joins i sources ∷ []))
    ∙ fold-append (with_join sight) [] (plain_joins (take i joins)) ((get_or joins i sources).items ∷ [])

pub join_pushed : (sight : PlainSight) (joins : List (Vec StageId Global)) (i : ℕ) (sources : Vec StageId Global) (own shown new : List Outcome) (those : List StageId) (outcome : Outcome) → i < length joins → own ≡ join_outcomes sight (plain_joins (take i joins)) → shown ≡ own → those ≡ (get_or joins i sources).items → outcome ≡ join_outcome (map (outcome_of sight shown) those) → new ≡ own ++ outcome ∷ [] → new ≡ join_outcomes sight (plain_joins (take (i + 1) joins))
join_pushed sight joins i sources own shown new those outcome lt so_far is_own is is_outcome pushed =
    pushed
    ∙ ap (λ o. own ++ o ∷ []) (is_outcome ∙ ap (λ xs. join_outcome (map (outcome_of sight xs) those)) is_own ∙ ap (λ xs. join_outcome (map (outcome_of sight own) xs)) is)
    ∙ ap (λ xs. with_join sight xs (get_or joins i sources).items) so_far
    ∙ sym (join_more sight joins i sources lt)

-- no join more
pub none_handed_on : (sight : PlainSight) (joins : List (List StageId)) (handed : List StageId) (outcomes : List Outcome) → length handed ≡ 0 → outcomes ≡ join_outcomes sight joins → outcomes ≡ join_outcomes sight (joins ++ handed_join handed)
none_handed_on sight joins [] outcomes none are = are ∙ ap (λ xs. join_outcomes sight xs) (sym (append-nil joins))
none_handed_on sight joins (source ∷ sources) outcomes none are = absurd (omega arith)

-- and one more
pub one_handed_on : (sight : PlainSight) (joins : List (List StageId)) (handed : List StageId) (outcomes shown new : List Outcome) (outcome : Outcome) → 0 < length handed → outcomes ≡ join_outcomes sight joins → shown ≡ outcomes → outcome ≡ join_outcome (map (outcome_of sight shown) handed) → new ≡ outcomes ++ outcome ∷ [] → new ≡ join_outcomes sight (joins ++ handed_join handed)
one_handed_on sight joins [] outcomes shown new outcome some are is_own is pushed = absurd (omega arith)
one_handed_on sight joins (source ∷ sources) outcomes shown new outcome some are is_own is pushed =
    pushed
    ∙ ap (λ o. outcomes ++ o ∷ []) (is ∙ ap (λ xs. join_outcome (map (outcome_of sight xs) (source ∷ sources))) is_own)
    ∙ ap (λ xs. with_join sight xs (source ∷ sources)) are
    ∙ sym (fold-append (with_join sight) [] joins ((source ∷ sources) ∷ []))
