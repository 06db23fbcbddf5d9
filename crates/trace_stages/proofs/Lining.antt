-- One more line of ancestors, and all of them.
use Rattle.std.proofs.Common.{◌≡◌, ℕ, suc, zero, ◌+◌, ◌<◌, ◌≤◌, List, [], ◌∷◌, ◌++◌, Option, Some, None, below_more, inl, inr, length, refl, sym, ap, ◌∙◌, arith}
use Rattle.std.specs.Prelude.{◌⊎◌, slice_get, unwrap_or}
use Rattle.std.proofs.lemmas.Bool.{cases_lt}
use Rattle.std.proofs.lemmas.Option.{slice_get_past}
use Rattle.trace_relations.specs.Ancestry.{known}
use Rattle.trace_relations.specs.Relations.{PlainRelations}
use Rattle.trace_stages.specs.BoundLines.{followed_by, line_at, line_of_one, line_of_two}
use Rattle.trace_stages.specs.Bounds.{callers_end}
use Rattle.trace_stages.specs.declared.bounds.BoundLine.{BoundLine}

get_front : {X : Type 0} (xs : List X) (x : X) (k : ℕ) → k < length xs → slice_get (xs ++ x ∷ []) k ≡ slice_get xs k
get_front [] x k lt = absurd (omega arith)
get_front (y ∷ ys) x zero lt = refl
get_front (y ∷ ys) x (suc k) lt = get_front ys x k (omega arith)

get_last : {X : Type 0} (xs : List X) (x : X) → slice_get (xs ++ x ∷ []) (length xs) ≡ Some x
get_last [] x = refl
get_last (y ∷ ys) x = get_last ys x

get_before : {X : Type 0} (xs : List X) (x : X) (n k : ℕ) → length xs ≡ n → k < n → slice_get (xs ++ x ∷ []) k ≡ slice_get xs k
get_before xs x n k count lt = get_front xs x k (omega arith)

-- one more
pub got_pushed : {X : Type 0} (xs new : List X) (x : X) (f : ℕ → X) (n : ℕ) → length xs ≡ n → ((k : ℕ) → k < n → slice_get xs k ≡ Some (f k)) → x ≡ f n → new ≡ xs ++ x ∷ [] → (k : ℕ) → k < n + 1 → slice_get new k ≡ Some (f k)
got_pushed xs new x f n count are is pushed =
    below_more (λ k. slice_get new k ≡ Some (f k)) n
    (λ k lt. ap (λ those. slice_get those k) pushed ∙ get_before xs x n k count lt ∙ are k lt)
    (ap (λ those. slice_get those n) pushed ∙ ap (λ k. slice_get (xs ++ x ∷ []) k) (sym count) ∙ get_last xs x ∙ ap Some is)

abbrev past_line : PlainRelations → ℕ → BoundLine
past_line relations place = record { bound = callers_end relations place; after = None }

line_past : (relations : PlainRelations) (lines : List BoundLine) (place : ℕ) → length lines ≤ place → line_at relations lines place ≡ past_line relations place
line_past relations lines place le = ap (λ found. unwrap_or found (past_line relations place)) (slice_get_past lines place le)

one_past : (relations : PlainRelations) (place : ℕ) → length relations.parents ≤ place → past_line relations place ≡ line_of_one relations place
one_past relations place le = ap (λ (found : Option (Option ℕ)). record { bound = callers_end relations place; after = known found }) (sym (slice_get_past relations.parents place le))

two_past : (relations : PlainRelations) (lines : List BoundLine) (place : ℕ) → length lines ≤ place → past_line relations place ≡ line_of_two relations lines place
two_past relations lines place le = ap (λ (here : BoundLine). followed_by relations lines here here.after) (sym (line_past relations lines place le))

below_or_past : (relations : PlainRelations) (lines : List BoundLine) (f : ℕ → BoundLine) (n place : ℕ) → length lines ≡ n → ((k : ℕ) → k < n → slice_get lines k ≡ Some (f k)) → (n ≤ place → past_line relations place ≡ f place) → (place < n) ⊎ (n ≤ place) → line_at relations lines place ≡ f place
below_or_past relations lines f n place count are past (inl lt) = ap (λ found. unwrap_or found (past_line relations place)) (are place lt)
below_or_past relations lines f n place count are past (inr le) = line_past relations lines place (omega arith) ∙ past le

-- all lines of one span
pub all_of_one : (relations : PlainRelations) (lines : List BoundLine) (n : ℕ) → length lines ≡ n → n ≡ length relations.parents → ((k : ℕ) → k < n → slice_get lines k ≡ Some (line_of_one relations k)) → (place : ℕ) → line_at relations lines place ≡ line_of_one relations place
all_of_one relations lines n count is are place =
    below_or_past relations lines (line_of_one relations) n place count are (λ le. one_past relations place (omega (arith, is))) (cases_lt place n)

-- all that were doubled
pub all_of_two : (relations : PlainRelations) (lines more : List BoundLine) (n : ℕ) → length more ≡ n → n ≡ length lines → ((k : ℕ) → k < n → slice_get more k ≡ Some (line_of_two relations lines k)) → (place : ℕ) → line_at relations more place ≡ line_of_two relations lines place
all_of_two relations lines more n count is are place =
    below_or_past relations more (line_of_two relations lines) n place count are (λ le. two_past relations lines place (omega (arith, is))) (cases_lt place n)
