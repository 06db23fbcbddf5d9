-- Where another run has the stage of a name.
use Rattle.std.proofs.Common.{◌≡◌, ◌∙◌, ℕ, List, Option, Some, None, Result, Ok, is_some, true, sym, ap}
use Rattle.std.specs.Prelude.{IfSome}
use Rattle.std.specs.Option.{option_map}
use Rattle.stage_graph.specs.declared.stage.Stage.{Stage}
use Rattle.stage_graph.specs.Plain.{IsLive, place_named, stage_at}
use Rattle.stage_graph.proofs.Placing.{live_from_name, named_at}
use Rattle.version_store.specs.Queries.{found}

pub placed : (place : Option ℕ) (at : ℕ) → Ok at ≡ found place → place ≡ Some at
placed None at is = cc
placed (Some other) at is = cc

pub live_where_found : (places : List (Option Stage)) (name : List ℕ) (place : ℕ) → Ok place ≡ found (place_named places name) → IsLive places place
live_where_found places name place is = live_from_name name (stage_at places place) (named_at places name place (placed (place_named places name) place is)).1

-- where nothing stands no stage is live
pub none_is_not_live : (here : Option Stage) → None ≡ here → is_some here ≡ true → ⊥
none_is_not_live None none live = cc
none_is_not_live (Some stage) none live = cc

-- a stage stands where its name is found
pub stands_where_found : (places : List (Option Stage)) (name : List ℕ) (place : ℕ) → Ok place ≡ found (place_named places name) → None ≡ stage_at places place → ⊥
stands_where_found places name place is none = none_is_not_live (stage_at places place) none (live_where_found places name place is)

-- what is looked up where a name is found stands where the name does
pub stands_as_named : {View : Type 0} (at : View → ℕ) (shown : View → Stage) (places : List (Option Stage)) (name : List ℕ) (place : ℕ) (view : Option View)
    → Ok place ≡ found (place_named places name) → IfSome view (λ (view : View). at view ≡ place) → option_map shown view ≡ stage_at places place → option_map at view ≡ place_named places name
stands_as_named at shown places name place None is there shows = absurd (stands_where_found places name place is shows)
stands_as_named at shown places name place (Some view) is there shows = ap Some there ∙ sym (placed (place_named places name) place is)
