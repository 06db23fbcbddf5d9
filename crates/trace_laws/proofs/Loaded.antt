-- Stages with names of their own that find their sources are loaded.
use Rattle.std.proofs.Common.{◌≡◌, ℕ, zero, suc, ◌+◌, ◌<◌, ◌≤◌, List, [], ◌∷◌, Bool, true, false, cond, length, map, nat_lt, Option, Some, None, option_map, is_some, Ok, refl, sym, ap, ◌∙◌, inl, inr, subst, arith, lt-ltb, le-ltb, ltb-true, ltb-false, eq-eqb}
use Rattle.std.specs.Prelude.{position, slice_get}
use Rattle.std.specs.List.{AllByRecursion as Each, position_or_len}
use Rattle.std.specs.Option.{option_to_list}
use Rattle.std.specs.Str.{bytes_eq}
use Rattle.std.proofs.lemmas.Bool.{true≢false}
use Rattle.std.proofs.lemmas.List.{length-map}
use Rattle.std.proofs.lemmas.Option.{none-some, same_Some, slice_get_within}
use Rattle.std.proofs.lemmas.Slice.Eq.{bytes_eq-Decides}
use Rattle.act_expr.specs.declared.outcome.Mode.{Mode}
use Rattle.act_expr.specs.declared.outcome.Value.TheVariants as value
use Rattle.stage_graph.specs.Checks.{action_fault, are_known, is_name}
use Rattle.stage_graph.specs.Loading.{first_refused, loaded, refusal_of, stages_from}
use Rattle.stage_graph.specs.Names.{place_of}
use Rattle.stage_graph.specs.declared.stage.Spec.{Spec}
use Rattle.trace_spans.specs.declared.span.Span.{Span}
use Rattle.trace_stages.specs.Naming.{PlainStage}
use Rattle.trace_stages.specs.declared.stage.Action.{Action}
use Rattle.trace_stages.specs.declared.stage.StageName.{StageName}
use Rattle.trace_stages.specs.declared.stage.Action.TheVariants.{Null, PicksFirst, Throws, ThrowsIfFailed}
use Rattle.trace_import.specs.Actions.{imported_action}
use Rattle.trace_import.specs.Specs.{imported_spec, imported_specs}
use Rattle.trace_import.specs.StageNames.{stage_name}
use Rattle.trace_laws.proofs.Members.{AreDistinct, IsIn, map_in}
use Rattle.trace_laws.proofs.Shaped.{IsShaped}

-- ---- where the stage of a name stands

shifted : (n count : ℕ) (b : Bool) → nat_lt n count ≡ b → cond (nat_lt (1 + n) (suc count)) (Some (1 + n)) None ≡ option_map suc (cond b (Some n) None)
shifted n count true h = rw (lt-ltb (1 + n) (suc count) (omega (arith, ltb-true n count h))) (ap Some (omega arith))
shifted n count false h = rw (le-ltb (1 + n) (suc count) (omega (arith, ltb-false n count h))) refl

position_beside : {A : Type 0} (p : A → Bool) (x : A) (xs : List A) (b : Bool) → p x ≡ b → position p (x ∷ xs) ≡ cond b (Some 0) (option_map suc (position p xs))
position_beside p x xs true h = rw h (rw (lt-ltb 0 (suc (length xs)) (omega arith)) refl)
position_beside p x xs false h = rw h (shifted (position_or_len p xs) (length xs) (nat_lt (position_or_len p xs) (length xs)) refl)

name_of : Spec → List ℕ
name_of spec = spec.name

not_equal : (xs ys : List ℕ) → (xs ≡ ys → ⊥) → bytes_eq xs ys ≡ false
not_equal xs ys apart = by (bytes_eq xs ys) refl
  where
    by : (b : Bool) → bytes_eq xs ys ≡ b → b ≡ false
    by true e = absurd (apart (let decides = bytes_eq-Decides xs ys in decides.0 e))
    by false e = refl

at_in : {X : Type 0} (xs : List X) (k : ℕ) (x : X) → slice_get xs k ≡ Some x → IsIn x xs
at_in [] k x at = absurd (none-some x at)
at_in (y ∷ ys) zero x at = inl (sym (same_Some y x at))
at_in (y ∷ ys) (suc k) x at = inr (at_in ys k x at)

found_at : (specs : List Spec) (k : ℕ) (spec : Spec) → AreDistinct (map (λ s. s.name) specs) → slice_get specs k ≡ Some spec → place_of specs spec.name ≡ Some k
found_at [] k spec distinct at = absurd (none-some spec at)
found_at (x ∷ xs) zero spec distinct at =
    let same : bytes_eq x.name spec.name ≡ true = let decides = bytes_eq-Decides x.name spec.name in decides.1 (ap (λ (s : Spec). s.name) (same_Some x spec at)) in
    position_beside (λ (s : Spec). bytes_eq s.name spec.name) x xs true same
found_at (x ∷ xs) (suc k) spec distinct at =
    let other : bytes_eq x.name spec.name ≡ false = not_equal x.name spec.name (λ e. distinct.0 (subst (λ (name : List ℕ). IsIn name (map (λ s. s.name) xs)) (sym e) (map_in (λ (s : Spec). s.name) xs spec (at_in xs k spec at)))) in
    position_beside (λ (s : Spec). bytes_eq s.name spec.name) x xs false other ∙ ap (option_map suc) (found_at xs k spec distinct.1 at)

some_more : (o : Option ℕ) → is_some o ≡ true → is_some (option_map suc o) ≡ true
some_more None h = h
some_more (Some n) h = refl

found_name : (specs : List Spec) (name : List ℕ) → IsIn name (map (λ s. s.name) specs) → is_some (place_of specs name) ≡ true
found_name [] name h = absurd h
found_name (x ∷ xs) name h = by (bytes_eq x.name name) refl (found_name xs name) h
  where
    by : (b : Bool) → bytes_eq x.name name ≡ b → (IsIn name (map (λ s. s.name) xs) → is_some (place_of xs name) ≡ true) → IsIn name (map (λ s. s.name) (x ∷ xs)) → is_some (place_of (x ∷ xs) name) ≡ true
    by true e more t = ap is_some (position_beside (λ (s : Spec). bytes_eq s.name name) x xs true e)
    by false e more t = elim t [
      | inl same ↦ absurd (true≢false (sym (let decides = bytes_eq-Decides x.name name in decides.1 (sym same)) ∙ e))
      | inr rest ↦ ap is_some (position_beside (λ (s : Spec). bytes_eq s.name name) x xs false e) ∙ some_more (place_of xs name) (more rest)
    ]

-- ---- stages

none_before : (find : List ℕ → Option ℕ) (place : ℕ) (specs : List Spec) → ((k : ℕ) (spec : Spec) → slice_get specs k ≡ Some spec → refusal_of find (place + k) spec ≡ None) → first_refused find place specs ≡ None
none_before find place [] fine = refl
none_before find place (spec ∷ specs) fine =
    let here : refusal_of find place spec ≡ None = ap (λ p. refusal_of find p spec) (first_place place) ∙ fine 0 spec refl in
    rw here (none_before find (place + 1) specs (λ k s at. ap (λ p. refusal_of find p s) (next_place place k) ∙ fine (suc k) s at))
  where
    first_place : (p : ℕ) → p ≡ p + 0
    first_place p = omega arith

    next_place : (p k : ℕ) → p + 1 + k ≡ p + suc k
    next_place p k = omega arith

small : (spans : List Span) (action : Option Action) → action_fault (option_map (imported_action spans) action) ≡ None
small spans None = refl
small spans (Some Null) = refl
small spans (Some PicksFirst) = refl
small spans (Some (Throws exception)) = refl
small spans (Some (ThrowsIfFailed exception)) = refl

known_all : (specs : List Spec) (found : List (List ℕ)) → Each (λ name. IsIn name (map (λ s. s.name) specs)) found → are_known (place_of specs) found ≡ true
known_all specs [] h = refl
known_all specs (name ∷ rest) h = rw (found_name specs name h.0) (known_all specs rest h.1)

none_refused : (spans : List Span) (names : List (List ℕ)) (specs : List Spec) (k : ℕ) (stage : PlainStage) → IsShaped stage → is_name (stage_name names stage.name) ≡ true
    → Each (λ name. IsIn name (map (λ s. s.name) specs)) (map (stage_name names) stage.sources) → Each (λ name. IsIn name (map (λ s. s.name) specs)) (map (stage_name names) (option_to_list stage.inner)) → place_of specs (stage_name names stage.name) ≡ Some k → k < 65536 → refusal_of (place_of specs) k (imported_spec spans names stage) ≡ None
none_refused spans names specs k stage shape good sources inner at few =
    let count = length-map stage.sources (stage_name names) in
    let count_inner = length-map (option_to_list stage.inner) (stage_name names) in
    rw (
      at,
      eq-eqb k k refl,
      good,
      count,
      count_inner,
      shape.arity,
      shape.acts (imported_action spans),
      known_all specs (map (stage_name names) stage.sources) sources,
      known_all specs (map (stage_name names) (option_to_list stage.inner)) inner,
      lt-ltb k 65536 few,
      shape.few,
      shape.few_inner,
      shape.created,
      shape.queued,
      shape.runs,
      shape.times,
      small spans stage.action,
    )
    refl

names_mapped : (spans : List Span) (names : List (List ℕ)) (stages : List PlainStage) → map (λ s. s.name) (imported_specs spans names stages) ≡ map (λ stage. stage_name names stage.name) stages
names_mapped spans names [] = refl
names_mapped spans names (stage ∷ stages) = ap (λ l. stage_name names stage.name ∷ l) (names_mapped spans names stages)

-- a stage that is no reason for a refusal
pub record IsFine (names : List (List ℕ)) (stages : List PlainStage) (stage : PlainStage) : Type 0 where
  pub shape : IsShaped stage
  pub named : is_name (stage_name names stage.name) ≡ true
  pub sources : Each (λ source. IsIn (stage_name names source) (map (λ other. stage_name names other.name) stages)) stage.sources
  pub inner : Each (λ source. IsIn (stage_name names source) (map (λ other. stage_name names other.name) stages)) (option_to_list stage.inner)

each_map : {X Y : Type 0} (P : Y → Type 0) (f : X → Y) (xs : List X) → Each (λ x. P (f x)) xs → Each P (map f xs)
each_map P f [] h = tt
each_map P f (x ∷ xs) h = (h.0, each_map P f xs h.1)

spec_at : (spans : List Span) (names : List (List ℕ)) (stages : List PlainStage) (k : ℕ) (spec : Spec) → slice_get (imported_specs spans names stages) k ≡ Some spec → (stage : PlainStage) × (slice_get stages k ≡ Some stage) × (imported_spec spans names stage ≡ spec)
spec_at spans names [] k spec at = absurd (none-some spec at)
spec_at spans names (x ∷ xs) zero spec at = (x, refl, same_Some _ spec at)
spec_at spans names (x ∷ xs) (suc k) spec at = spec_at spans names xs k spec at

-- distinct stages without such a reason are loaded
pub all_loaded : (mode : Mode) (spans : List Span) (names : List (List ℕ)) (stages : List PlainStage) → length stages ≤ 65536 → AreDistinct (map (λ stage. stage_name names stage.name) stages)
    → ((stage : PlainStage) → IsIn stage stages → IsFine names stages stage)
    → loaded mode (imported_specs spans names stages) ≡ Ok (record { mode = mode; places = stages_from (place_of (imported_specs spans names stages)) 0 (imported_specs spans names stages) })
unfolding loaded
all_loaded mode spans names stages few distinct fine =
    let specs = imported_specs spans names stages in
    let own : AreDistinct (map (λ s. s.name) specs) = subst AreDistinct (sym (names_mapped spans names stages)) distinct in
    rw (none_before (place_of specs) 0 specs (λ k spec at. one_fine own k spec at)) refl
  where
    one_fine : AreDistinct (map (λ s. s.name) (imported_specs spans names stages)) → (k : ℕ) (spec : Spec) → slice_get (imported_specs spans names stages) k ≡ Some spec → refusal_of (place_of (imported_specs spans names stages)) (0 + k) spec ≡ None
    one_fine own k spec at =
        let specs = imported_specs spans names stages in
        let found = spec_at spans names stages k spec at in
        let stage = found.0 in
        let is = fine stage (at_in stages k stage found.1) in
        let same : imported_spec spans names stage ≡ spec = found.2 in
        let here : place_of specs (stage_name names stage.name) ≡ Some k = found_at specs k (imported_spec spans names stage) own (at ∙ ap Some (sym same)) in
        let low : k < 65536 = omega (arith, slice_get_within stages k stage found.1) in
        let known = λ (sources : List StageName) (are : Each (λ source. IsIn (stage_name names source) (map (λ other. stage_name names other.name) stages)) sources).
        subst (λ (all : List (List ℕ)). Each (λ name. IsIn name all) (map (stage_name names) sources)) (sym (names_mapped spans names stages)) (each_map (λ (name : List ℕ). IsIn name (map (λ other. stage_name names other.name) stages)) (stage_name names) sources are) in
        ap (λ p. refusal_of (place_of specs) p spec) (from_zero k) ∙ ap (refusal_of (place_of specs) k) (sym same) ∙ none_refused spans names specs k stage is.shape is.named (known stage.sources is.sources) (known (option_to_list stage.inner) is.inner) here low
      where
        from_zero : (p : ℕ) → 0 + p ≡ p
        from_zero p = omega arith
