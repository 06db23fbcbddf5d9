-- The first of a list that passes a test, one item after the other.
use Rattle.std.proofs.Common.{◌≡◌, ℕ, ◌+◌, ◌<◌, Bool, true, false, cond, List, [], ◌∷◌, Option, Some, None, length, get_or, take, drop, ap, sym, ◌∙◌}
use Rattle.std.specs.Prelude.{find}
use Rattle.std.specs.Option.{option_or}
use Rattle.std.proofs.lemmas.Bool.{eqb-true, false≢true}
use Rattle.std.proofs.lemmas.List.{take-append-drop, take_more}
use Rattle.std.proofs.lemmas.List.Folds.{find-append}
use Rattle.trace_stages.specs.declared.stage.StageName.{StageName}
use Rattle.trace_stages.specs.declared.stage.StageName.TheVariants.{Whole, Start, Join, Work, Tried, Limit, Answer}
use Rattle.trace_groups.specs.Stages.{is_end_of}

module _ (test : ℕ → Bool) (places : List ℕ) (k : ℕ) (within : k < length places) (none : find test (take k places) ≡ None) where
  next : find test (take (k + 1) places) ≡ cond (test (get_or places k 0)) (Some (get_or places k 0)) None
  next =
      ap (find test) (take_more places k 0 within)
      ∙ find-append test (take k places) (get_or places k 0 ∷ [])
      ∙ ap (λ (found : Option ℕ). option_or found (find test (get_or places k 0 ∷ []))) none

  pub none_more : test (get_or places k 0) ≡ false → find test (take (k + 1) places) ≡ None
  none_more fails = next ∙ ap (λ b. cond b (Some (get_or places k 0)) None) fails

  pub found_now : test (get_or places k 0) ≡ true → find test places ≡ Some (get_or places k 0)
  found_now passes =
      ap (find test) (sym (take-append-drop (k + 1) places))
      ∙ find-append test (take (k + 1) places) (drop (k + 1) places)
      ∙ ap (λ (found : Option ℕ). option_or found (find test (drop (k + 1) places))) (next ∙ ap (λ b. cond b (Some (get_or places k 0)) None) passes)

-- the end of a span is its whole stage
pub whole_is : (span : ℕ) (name : StageName) → is_end_of span name ≡ true → name ≡ Whole span
whole_is span (Whole place) is = ap (λ (place : ℕ). Whole place) (eqb-true place span is)
whole_is span (Start place) is = absurd (false≢true is)
whole_is span (Join place number) is = absurd (false≢true is)
whole_is span (Work place number) is = absurd (false≢true is)
whole_is span (Tried place) is = absurd (false≢true is)
whole_is span (Limit place) is = absurd (false≢true is)
whole_is span (Answer place) is = absurd (false≢true is)
