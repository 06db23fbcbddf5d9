-- The rest of some places, with one place more.
use Rattle.std.proofs.Common.{◌≡◌, ℕ, ◌+◌, ◌<◌, max, Bool, true, false, not, cond, List, [], ◌∷◌, ◌++◌, Option, Some, None, length, get_or, take, refl, ap, sym, ◌∙◌, arith, ⊎_elim, ◌==◌}
use Rattle.std.specs.List.{cons_option}
use Rattle.std.specs.Option.{option_map}
use Rattle.std.proofs.lemmas.Bool.{cases_Bool}
use Rattle.std.proofs.lemmas.List.{take_more}
use Rattle.stage_ops.specs.Sources.{completed, latest, source_of}
use Rattle.stage_ops.specs.States.{Completion}
use Rattle.time_sweep.specs.Forms.{later_beside, later_than, others, rest_of}

module _ (created : ℕ) (inputs : ℕ → Option Completion) (feed : ℕ) where
  abbrev beside : Bool → Option Completion → ℕ → ℕ
  beside same found rest = cond same rest (later_than rest found)

  -- a moment that is counted before or after
  either_order : (same : Bool) (found : Option Completion) (moment rest : ℕ) → max moment (beside same found rest) ≡ beside same found (max moment rest)
  either_order true found moment rest = refl
  either_order false None moment rest = refl
  either_order false (Some completion) moment rest = omega arith

  abbrev last_with : ℕ → Option Completion → List ℕ → ℕ
  last_with place found places = latest created (cons_option (option_map (source_of place) found) (completed inputs (others feed places)))

  single : (place : ℕ) (found : Option Completion) → last_with place found [] ≡ later_than created found
  single place None = refl
  single place (Some completion) = omega arith

  counted : (first place : ℕ) (found : Option Completion) (places : List ℕ) → rest_of created inputs feed (places ++ place ∷ []) ≡ beside (place == feed) (inputs place) (rest_of created inputs feed places)
      → last_with first found (places ++ place ∷ []) ≡ beside (place == feed) (inputs place) (last_with first found places)
  counted first place None places later = later
  counted first place (Some completion) places later =
      ap (max completion.moment) later ∙ either_order (place == feed) (inputs place) completion.moment (rest_of created inputs feed places)

  abbrev split : Bool → ℕ → List ℕ → ℕ
  split same place places = latest created (completed inputs (cond (not same) (place ∷ others feed places) (others feed places)))

  pub rest_push : (places : List ℕ) (place : ℕ) → rest_of created inputs feed (places ++ place ∷ []) ≡ later_beside (rest_of created inputs feed places) inputs feed place
  rest_push [] place =
      ⊎_elim
      (λ same. ap (λ b. split b place []) same ∙ sym (ap (λ b. beside b (inputs place) created) same))
      (λ other. ap (λ b. split b place []) other ∙ single place (inputs place) ∙ sym (ap (λ b. beside b (inputs place) created) other))
      (cases_Bool (place == feed))
  rest_push (first ∷ places) place =
      ⊎_elim
      (λ same.
      ap (λ b. split b first (places ++ place ∷ [])) same
      ∙ rest_push places place
      ∙ sym (ap (λ b. beside (place == feed) (inputs place) (split b first places)) same))
      (λ other.
      ap (λ b. split b first (places ++ place ∷ [])) other
      ∙ counted first place (inputs first) places (rest_push places place)
      ∙ sym (ap (λ b. beside (place == feed) (inputs place) (split b first places)) other))
      (cases_Bool (first == feed))

  -- the same of the first places of a list
  pub rest_more : (places : List ℕ) (k : ℕ) → k < length places → rest_of created inputs feed (take (k + 1) places) ≡ later_beside (rest_of created inputs feed (take k places)) inputs feed (get_or places k 0)
  rest_more places k within = ap (rest_of created inputs feed) (take_more places k 0 within) ∙ rest_push (take k places) (get_or places k 0)
