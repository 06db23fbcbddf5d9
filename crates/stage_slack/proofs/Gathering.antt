-- The slacks together.
use Rattle.std.proofs.Common.{◌≡◌, ◌+◌, ◌<◌, ◌++◌, ℕ, Bool, true, false, cond, List, [], ◌∷◌, Option, Some, None, Result, Ok, Err, length, get_or, take, refl, ap, sym, ◌∙◌, arith}
use Rattle.std.specs.Prelude.{All, IfSome, IsOk, filter_map}
use Rattle.std.specs.List.{AllZip, cons_option}
use Rattle.std.proofs.Math.Nat.{le-max_left, le-max_right}
use Rattle.std.proofs.lemmas.List.{take_more}
use Rattle.std.proofs.lemmas.List.Elements.{All-cons, All-head, All-nil, All-tail, filter_map-append, filter_passes}
use Rattle.stage_graph.specs.Plain.{PlainGraph, all_places}
use Rattle.stage_graph.specs.Sound.{IsSound}
use Rattle.time_sweep.specs.Waits.{can_wait_for, waited_for}
use Rattle.stage_slack.specs.declared.slack.Slack.{Slack}
use Rattle.stage_slack.specs.Found.{slack_in, Gives}
use Rattle.stage_slack.specs.Slacks.{above_keys, is_within, kept, order_key, slack_at, slacks_within, IsSlack}
use Rattle.stage_slack.proofs.Lengthening.{is_slack}

-- where memory sufficed, the slacks are those of the places
pub all_found : {E : Type 0} (slack : ℕ → Option Slack) (within : Option ℕ) (places : List ℕ) (tried : List (Result (Option Slack) E)) → AllZip (Gives slack) places tried → All (λ one. IsOk one) tried
    → filter_map (slack_in within) tried ≡ filter_map (λ (place : ℕ). kept within (slack place)) places
all_found slack within [] [] zip all = refl
all_found slack within [] (one ∷ rest) zip all = absurd zip
all_found slack within (place ∷ places) [] zip all = absurd zip
all_found slack within (place ∷ places) (Ok found ∷ rest) zip all =
    ap (λ (one : Option Slack). cons_option (kept within one) (filter_map (slack_in within) rest)) zip.0
    ∙ ap (λ (later : List Slack). cons_option (kept within (slack place)) later) (all_found slack within places rest zip.1 (All-tail (λ one. IsOk one) (Ok found) rest all))
all_found slack within (place ∷ places) (Err error ∷ rest) zip all = let ok = All-head (λ one. IsOk one) (Err error) rest all in cc

-- one place more
pub found_more : {E : Type 0} (within : Option ℕ) (tried : List (Result (Option Slack) E)) (k : ℕ) (one : Result (Option Slack) E) → k < length tried → one ≡ get_or tried k one
    → filter_map (slack_in within) (take (k + 1) tried) ≡ filter_map (slack_in within) (take k tried) ++ cons_option (slack_in within one) []
found_more within tried k one inside is =
    ap (filter_map (slack_in within)) (take_more tried k one inside)
    ∙ filter_map-append (slack_in within) (take k tried) (get_or tried k one ∷ [])
    ∙ ap (λ (one : Result (Option Slack) _). filter_map (slack_in within) (take k tried) ++ cons_option (slack_in within one) []) (sym is)

-- ---- what each of them says

all_with : (Q : Slack → Type 0) (one : Option Slack) (rest : List Slack) → IfSome one Q → All Q rest → All Q (cons_option one rest)
all_with Q None rest is all = all
all_with Q (Some one) rest is all = All-cons Q one rest is all

all_given : (P : ℕ → Type 0) (Q : Slack → Type 0) (given : ℕ → Option Slack) → ((place : ℕ) → P place → IfSome (given place) Q) → (places : List ℕ) → All P places → All Q (filter_map given places)
all_given P Q given each [] all = All-nil Q
all_given P Q given each (place ∷ places) all =
    all_with Q (given place) (filter_map given places) (each place (All-head P place places all)) (all_given P Q given each places (All-tail P place places all))

some_kept : (Q : Slack → Type 0) (slack : Slack) → Q slack → (b : Bool) → IfSome (cond b (Some slack) None) Q
some_kept Q slack is true = is
some_kept Q slack is false = tt

kept_is : (Q : Slack → Type 0) (within : Option ℕ) (one : Option Slack) → IfSome one Q → IfSome (kept within one) Q
kept_is Q within None is = tt
kept_is Q within (Some slack) is = some_kept Q slack is (is_within within slack.ticks)

pub each_slack : (graph : PlainGraph) → IsSound graph → (target : ℕ) (within : Option ℕ) → All (IsSlack graph target) (slacks_within graph target within)
each_slack graph sound target within =
    all_given (λ (place : ℕ). can_wait_for graph.places target place ≡ true) (IsSlack graph target) (λ (place : ℕ). kept within (slack_at graph target place))
    (λ place waits. kept_is (IsSlack graph target) within (slack_at graph target place) (is_slack graph sound target place waits))
    (waited_for graph.places target) (filter_passes (can_wait_for graph.places target) (all_places graph.places))

-- ---- their keys

pub all_below : (slacks : List Slack) → All (λ (slack : Slack). order_key slack < above_keys slacks) slacks
all_below [] = All-nil (λ (slack : Slack). order_key slack < 0)
all_below (first ∷ rest) =
    let one = le-max_left (order_key first + 1) (above_keys rest) in
    let more = le-max_right (order_key first + 1) (above_keys rest) in
    All-cons (λ (slack : Slack). order_key slack < above_keys (first ∷ rest)) first rest
    (omega (arith, one))
    (λ k d short. let less = all_below rest k d short in omega (arith, less, more))

-- a slack of this key
abbrev pub of_key : ℕ → Slack
of_key key = record { place = 0; ticks = Some key; start = 0 }
