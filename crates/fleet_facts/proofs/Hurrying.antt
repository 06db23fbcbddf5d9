-- The work of a group at no time, place by place.
use Rattle.std.proofs.Common.{◌≡◌, ℕ, ◌+◌, ◌<◌, Bool, true, false, List, [], ◌∷◌, ◌++◌, Option, Some, None, cond, refl, ap, sym, ◌∙◌, arith, append-nil, subst}
use Rattle.std.specs.Prelude.{All, IfSome, filter_map}
use Rattle.std.specs.List.{cons_option, range_with_len}
use Rattle.std.specs.Option.{option_to_list}
use Rattle.std.proofs.lemmas.Bool.{cond-false, cond-true}
use Rattle.std.proofs.lemmas.List.Elements.{All-nil, All-push, filter_map-append}
use Rattle.std.proofs.lemmas.List.Quantifiers.{all_pairs_push}
use Rattle.stage_graph.specs.declared.stage.Stage.{Stage}
use Rattle.stage_graph.specs.Plain.{PlainGraph, stage_at}
use Rattle.time_sweep.specs.Hastened.{hastened_stage, whole_haste}
use Rattle.time_sweep.specs.WithStage.{AreFitting, IsFitting}
use Rattle.time_sweep.proofs.Hurrying.{range_more}
use Rattle.span_groups.specs.Grouping.{works_for}
use Rattle.span_groups.specs.declared.grouping.Counted.{Counted}
use Rattle.fleet_facts.specs.Hurried.{hurried, hurried_at, takes_time}

-- ---- one place

module _ (graph : PlainGraph) (stages : List (Option Counted)) (group place : ℕ) where
  pub no_work : works_for stages group place ≡ false → hurried_at graph stages group place ≡ None
  no_work none = cond-false (works_for stages group place) (hurried (stage_at graph.places place)) None none

  pub none_stands : stage_at graph.places place ≡ None → hurried_at graph stages group place ≡ None
  none_stands none = ap (λ (here : Option Stage). cond (works_for stages group place) (hurried here) None) none ∙ either (works_for stages group place) where
    either : (works : Bool) → cond {A = Option Stage} works None None ≡ None
    either true = refl
    either false = refl

  module _ (stage : Stage) (stands : stage_at graph.places place ≡ Some stage) (works : works_for stages group place ≡ true) where
    pub took_none : takes_time stage ≡ false → hurried_at graph stages group place ≡ None
    took_none none =
        cond-true (works_for stages group place) (hurried (stage_at graph.places place)) None works
        ∙ ap hurried stands
        ∙ cond-false (takes_time stage) (Some (hastened_stage whole_haste stage)) None none

    pub took_some : takes_time stage ≡ true → hurried_at graph stages group place ≡ Some (hastened_stage whole_haste stage)
    took_some some =
        cond-true (works_for stages group place) (hurried (stage_at graph.places place)) None works
        ∙ ap hurried stands
        ∙ cond-true (takes_time stage) (Some (hastened_stage whole_haste stage)) None some

-- ---- one place after the other

pub record AreHurried (graph : PlainGraph) (stages : List (Option Counted)) (group place : ℕ) (hurried : List Stage) : Type 0 where
  pub are : hurried ≡ filter_map (hurried_at graph stages group) (range_with_len 0 place)
  pub fit : AreFitting graph.places hurried
  pub below : All (λ (stage : Stage). stage.place < place) hurried

pub none_hurried : (graph : PlainGraph) (stages : List (Option Counted)) (group : ℕ) (hurried : List Stage) → hurried ≡ [] → AreHurried graph stages group 0 hurried
none_hurried graph stages group hurried none =
    subst (AreHurried graph stages group 0) (sym none)
    (record {
      are = refl;
      fit = record { each = All-nil (IsFitting graph.places); ascend = λ i j d before short. absurd (omega arith) };
      below = All-nil (λ (stage : Stage). stage.place < 0);
    })

module _ (graph : PlainGraph) (stages : List (Option Counted)) (group place : ℕ) where
  grown : (hurried : List Stage) (made : Option Stage) → hurried ≡ filter_map (hurried_at graph stages group) (range_with_len 0 place) → made ≡ hurried_at graph stages group place
      → hurried ++ option_to_list made ≡ filter_map (hurried_at graph stages group) (range_with_len 0 (place + 1))
  grown hurried made are is =
      ap (λ (before : List Stage). before ++ option_to_list made) are
      ∙ ap (λ (one : List Stage). filter_map (hurried_at graph stages group) (range_with_len 0 place) ++ one) (listed made ∙ ap (λ (one : Option Stage). cons_option one []) is)
      ∙ sym (filter_map-append (hurried_at graph stages group) (range_with_len 0 place) (place ∷ []))
      ∙ ap (filter_map (hurried_at graph stages group)) (sym (range_more place)) where
        listed : (one : Option Stage) → option_to_list one ≡ cons_option one []
        listed None = refl
        listed (Some stage) = refl

  later : (hurried : List Stage) → All (λ (stage : Stage). stage.place < place) hurried → All (λ (stage : Stage). stage.place < place + 1) hurried
  later hurried below k d short = let earlier = below k d short in omega (arith, earlier)

  fit_more : (hurried : List Stage) (made : Option Stage) → AreFitting graph.places hurried → All (λ (stage : Stage). stage.place < place) hurried → IfSome made (IsFitting graph.places)
      → IfSome made (λ (stage : Stage). stage.place ≡ place) → AreFitting graph.places (hurried ++ option_to_list made) × All (λ (stage : Stage). stage.place < place + 1) (hurried ++ option_to_list made)
  fit_more hurried None fit below fits own =
      subst (λ (list : List Stage). AreFitting graph.places list × All (λ (stage : Stage). stage.place < place + 1) list) (sym (append-nil hurried)) (fit, later hurried below)
  fit_more hurried (Some stage) fit below fits own = (
    record {
      each = All-push (IsFitting graph.places) hurried stage fit.each fits;
      ascend = all_pairs_push (λ (one other : Stage). one.place < other.place) hurried stage fit.ascend (λ k d short. let earlier = below k d short in omega (arith, earlier, own));
    },
    All-push (λ (stage : Stage). stage.place < place + 1) hurried stage (later hurried below) (omega (arith, own)),
  )

  pub hurried_more : (hurried hurried_then : List Stage) (made : Option Stage) → AreHurried graph stages group place hurried → hurried_then ≡ hurried ++ option_to_list made
      → made ≡ hurried_at graph stages group place → IfSome made (IsFitting graph.places) → IfSome made (λ (stage : Stage). stage.place ≡ place) → AreHurried graph stages group (place + 1) hurried_then
  hurried_more hurried hurried_then made so_far added is fits own =
      let more = fit_more hurried made so_far.fit so_far.below fits own in
      subst (AreHurried graph stages group (place + 1)) (sym added) (record { are = grown hurried made so_far.are is; fit = more.0; below = more.1 })
