-- The joins of what a span has that wait for nothing which it gave up.
use Rattle.std.proofs.Common.{◌≡◌, ℕ, ◌+◌, ◌<◌, inl, inr, List, [], ◌∷◌, ◌++◌, Bool, true, false, cond, length, Option, Some, None, refl, sym, ap, ◌∙◌, subst, arith, get_or}
use Rattle.std.specs.Prelude.{◌||◌, IfSome, filter, is_some, not, slice_get}
use Rattle.std.proofs.lemmas.List.{append-nil}
use Rattle.std.proofs.lemmas.Option.{same_Some, slice_get-get_or}
use Rattle.trace_relations.specs.Relations.{PlainRelations}
use Rattle.trace_relations.specs.declared.as_told.AsTold.{AsTold}
use Rattle.trace_spans.specs.declared.span.Span.{Span}
use Rattle.trace_stages.specs.Called.{call_end}
use Rattle.trace_stages.specs.HandedOn.{all_handed, handed_from, handed_sources, is_handed, thrower}
use Rattle.trace_stages.specs.Held.{PlainHolding}
use Rattle.trace_stages.specs.Known.{PlainKnown, gave_up, had_at, has_ended}
use Rattle.trace_stages.specs.Moments.{AreMoments, At}
use Rattle.trace_stages.specs.Order.{join_sources}
use Rattle.trace_stages.specs.Scene.{PlainScene, handed_join, list_at, scene_of}
use Rattle.trace_stages.specs.StagesOf.{had, known_of}
use Rattle.trace_stages.specs.declared.stage.Exception.{Exception}
use Rattle.trace_stages.specs.declared.walk.joins.JoinsOf.TheVariants as joins_of
use Rattle.trace_stages.specs.declared.walk.stage_id.StageId.{StageId}
use Rattle.trace_laws.proofs.Each.{Each, each-in, filter_each, in-each}
use Rattle.trace_laws.proofs.Falling.{handed_call, handed_is, join_place, last_in}
use Rattle.trace_laws.proofs.Having.{held_now, held_precedes, plain_held}
use Rattle.trace_laws.proofs.Joining.{AreMade, Extends, Made, are_made-push, extends-refl, extends-trans, made-at}
use Rattle.trace_laws.proofs.Keys.{had_is, joins_at, least, own_joins}
use Rattle.trace_laws.proofs.Relations.{IsFamily}
use Rattle.trace_laws.proofs.Ticking.{at-extends}
use Rattle.trace_laws.proofs.Unanswered.{PlainBase, had_plain}

each_if : {X : Type 0} (P : X → Type 0) (b : Bool) (xs : List X) → Each P xs → Each P (cond b [] xs)
each_if P true xs all = tt
each_if P false xs all = all

module _ {as_told : AsTold} (spans : List Span) (relations : PlainRelations) (is : IsFamily as_told spans relations) (moments : List At) (are : AreMoments relations.intervals moments) (failures : ℕ → Option Exception) where
  abbrev Known : PlainKnown
  Known = known_of spans relations as_told moments

  abbrev Scene : PlainScene
  Scene = scene_of (known_of spans relations as_told moments) failures

  abbrev All : ℕ → List (List StageId)
  All place = joins_at spans relations is moments are failures place

  abbrev Own : ℕ → List (List StageId)
  Own place = own_joins spans relations is moments are failures place

  abbrev nth : ℕ → ℕ → ℕ
  nth place count = least spans relations is moments are failures place count

  abbrev handed_of : ℕ → List StageId
  handed_of place = list_at (all_handed Known failures) place

  abbrev pub plain : ℕ → PlainHolding
  plain place = plain_held relations place moments

  abbrev pub sure_joins : ℕ → List (List StageId)
  sure_joins place = (plain_held relations place moments).joins ++ handed_join (list_at (all_handed (known_of spans relations as_told moments) failures) place)

  -- a join of what a span waits for
  abbrev pub IsSure : ℕ → ℕ → Type 0
  IsSure place count = least spans relations is moments are failures place count < length (sure_joins place)

  abbrev pub SureBase : ℕ → StageId → Type 0
  SureBase place id = PlainBase relations place (had relations moments place).works id

  abbrev pub SurePart : ℕ → ℕ → StageId → Type 0
  SurePart place n id = Made (joins_of.Holding place) (SureBase place) n id

  plain_made : (place : ℕ) → AreMade (joins_of.Holding place) (SureBase place) 0 (plain place).joins × SurePart place (length (plain place).joins) (plain place).has
  plain_made place =
      let now = held_now relations place moments are in
      let made = had_plain relations place now.0 (plain place) now.1 in
      subst (λ works. AreMade (joins_of.Holding place) (PlainBase relations place works) 0 (plain place).joins × Made (joins_of.Holding place) (PlainBase relations place works) (length (plain place).joins) (plain place).has)
      (sym (held_precedes relations place moments are).works) (made.joins, made.has)

  pub has_sure : (place : ℕ) → place < length relations.intervals → SurePart place (length (plain place).joins) (had_at Known.hads place).has
  has_sure place lt =
      subst (SurePart place (length (plain place).joins)) (sym (ap (λ those. those.has) (had_is spans relations is moments are failures place lt) ∙ (held_precedes relations place moments are).has)) (plain_made place).1

  -- ---- how many are sure

  none_handed : (place : ℕ) → place < length relations.intervals → gave_up Known place ≡ true → handed_of place ≡ []
  none_handed place lt gave =
      handed_is spans relations is moments are failures place lt
      ∙ ap (λ b. cond (b || not (has_ended Known.relations.intervals place)) [] (handed_from Known failures place (thrower Known failures place))) gave

  own_plain : (place : ℕ) → place < length relations.intervals → gave_up Known place ≡ false → Own place ≡ (plain place).joins
  own_plain place lt none =
      let same = had_is spans relations is moments are failures place lt in
      ap (λ those. those.joins) same ∙ (held_precedes relations place moments are).alone (ap (λ those. is_some those.answer) (sym same) ∙ none)

  plain_extends : (place : ℕ) → place < length relations.intervals → Extends (plain place).joins (Own place)
  plain_extends place lt = subst (λ those. Extends (plain place).joins those.joins) (sym (had_is spans relations is moments are failures place lt)) (held_precedes relations place moments are).extends

  extends_none : (joins own : List (List StageId)) → Extends joins own → Extends (joins ++ []) (own ++ [])
  extends_none joins own (more, same) = (more, append-nil own ∙ same ∙ ap (λ those. those ++ more) (sym (append-nil joins)))

  pub sure_extends : (place : ℕ) → place < length relations.intervals → Extends (sure_joins place) (All place)
  sure_extends place lt = by_gave (gave_up Known place) refl
    where
      by_gave : (b : Bool) → gave_up Known place ≡ b → Extends (sure_joins place) (All place)
      by_gave true gave =
          subst (λ handed. Extends ((plain place).joins ++ handed_join handed) (Own place ++ handed_join handed)) (sym (none_handed place lt gave)) (extends_none (plain place).joins (Own place) (plain_extends place lt))
      by_gave false none =
          subst (λ joins. Extends ((plain place).joins ++ handed_join (handed_of place)) (joins ++ handed_join (handed_of place))) (sym (own_plain place lt none)) (extends-refl (sure_joins place))

  -- all of a span that gave nothing up
  pub all_sure : (place : ℕ) → place < length relations.intervals → gave_up Known place ≡ false → All place ≡ sure_joins place
  all_sure place lt none = ap (λ joins. joins ++ handed_join (handed_of place)) (own_plain place lt none)

  pub plain_in_all : (place : ℕ) → place < length relations.intervals → Extends (plain place).joins (All place)
  plain_in_all place lt = extends-trans (plain place).joins (sure_joins place) (All place) (handed_join (handed_of place), refl) (sure_extends place lt)

  -- ---- what they are made of

  handed_sure : (place : ℕ) → place < length relations.intervals → Each (SurePart place (length (plain place).joins)) (handed_sources Known failures place)
  handed_sure place lt =
      each_if (SurePart place (length (plain place).joins)) _ (handed_from Known failures place (thrower Known failures place))
      (by_child (thrower Known failures place)
      (last_in relations.intervals (λ child. is_handed Known failures place child ≡ true) None (filter (is_handed Known failures place) (Known.children place)) tt (filter_each (is_handed Known failures place) (Known.children place))))
    where
      by_child : (child : Option ℕ) → IfSome child (λ those. is_handed Known failures place those ≡ true) → Each (SurePart place (length (plain place).joins)) (handed_from Known failures place child)
      by_child None here = tt
      by_child (Some child) here =
          each_if (SurePart place (length (plain place).joins)) _ ((had_at Known.hads place).has ∷ call_end relations.attempts (relations.attempts.first child) ∷ [])
          (has_sure place lt, (inl (inr (inl (handed_call spans relations is moments are failures place child here))), tt))

  with_handed : (place : ℕ) (joins : List (List StageId)) (handed : List StageId) → AreMade (joins_of.Holding place) (SureBase place) 0 joins → Each (SurePart place (length joins)) handed
      → AreMade (joins_of.Holding place) (SureBase place) 0 (joins ++ handed_join handed)
  with_handed place joins [] made each = subst (AreMade (joins_of.Holding place) (SureBase place) 0) (sym (append-nil joins)) made
  with_handed place joins (source ∷ sources) made each = are_made-push (joins_of.Holding place) (SureBase place) 0 (length joins) joins (source ∷ sources) (omega arith) made each

  pub sure_made : (place : ℕ) → place < length relations.intervals → AreMade (joins_of.Holding place) (SureBase place) 0 (sure_joins place)
  sure_made place lt =
      with_handed place (plain place).joins (handed_of place) (plain_made place).0
      (subst (Each (SurePart place (length (plain place).joins))) (sym (handed_is spans relations is moments are failures place lt)) (handed_sure place lt))

  -- the sources of a join that is sure
  pub sure_sources : (place count : ℕ) → place < length relations.intervals → IsSure place count → Each (SurePart place (nth place count)) (join_sources Scene place count)
  sure_sources place count lt sure = in-each (SurePart place (nth place count)) (join_sources Scene place count) (λ source here.
      let all : slice_get (All place) (nth place count) ≡ Some (join_sources Scene place count) =
      join_place spans relations is moments are failures place count source (slice_get (Own place) count) refl here in
      let at : slice_get (sure_joins place) (nth place count) ≡ Some (get_or (sure_joins place) (nth place count) []) = slice_get-get_or (sure_joins place) (nth place count) [] sure in
      let same : get_or (sure_joins place) (nth place count) [] ≡ join_sources Scene place count =
      same_Some (get_or (sure_joins place) (nth place count) []) (join_sources Scene place count)
      (sym (at-extends (sure_joins place) (All place) (nth place count) (get_or (sure_joins place) (nth place count) []) (sure_extends place lt) at) ∙ all) in
      each-in (SurePart place (nth place count)) (join_sources Scene place count)
      (made-at (joins_of.Holding place) (SureBase place) 0 (nth place count) (nth place count) (sure_joins place) (join_sources Scene place count) (omega arith) (sure_made place lt) (at ∙ ap Some same)) source here)
