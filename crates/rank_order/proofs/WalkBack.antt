-- The walk along which ranks have changed.
use Rattle.std.proofs.Common.{◌≡◌, ◌≢◌, ◌<◌, ◌-◌, ◌+◌, ◌∙◌, ◌++◌, ◌∷◌, [], ℕ, true, false, List, length, Option, refl, sym, ap, subst, arith}
use Rattle.std.specs.Prelude.{Contains, slice_index}
use Rattle.std.proofs.lemmas.List.{length-append, get_or_push, get_or_append_left}
use Rattle.stage_graph.specs.declared.stage.Stage.{Stage}
use Rattle.stage_graph.specs.Plain.{feeds_at}
use Rattle.stage_graph.specs.Order.{IsWalk}
use Rattle.stage_graph.proofs.Searching.{walk_goes_on}
use Rattle.rank_order.specs.Lists.{is_among}
use Rattle.rank_order.specs.Ranking.{IsStop}

module _ (places : List (Option Stage)) (before now : ℕ → ℕ) (first : ℕ) where
  -- it leads from the first place to this one, whose rank has changed
  pub record IsOnWalk (place : ℕ) (path : List ℕ) : Type 0 where
    pub steps : 1 < length path
    pub walk : IsWalk places path
    pub begins : slice_index path 0 ≡ first
    pub ends : slice_index path (length path - 1) ≡ place
    pub changed : now place ≢ before place

  pub walk_begins : (from : ℕ) (path : List ℕ) → path ≡ first ∷ from ∷ [] → Contains (feeds_at places first) from → now from ≢ before from → IsOnWalk from path
  walk_begins from path is has changed = subst (IsOnWalk from) (sym is) (record {
    steps = omega arith;
    walk = λ k short. let zero : k ≡ 0 = omega arith in subst (λ i. Contains (feeds_at places (slice_index (first ∷ from ∷ []) i)) (slice_index (first ∷ from ∷ []) (i + 1))) (sym zero) has;
    begins = refl;
    ends = refl;
    changed = changed;
  })

  pub walk_more : (place : ℕ) (path : List ℕ) → IsOnWalk place path → (feed : ℕ) (longer : List ℕ) → longer ≡ path ++ feed ∷ [] → Contains (feeds_at places place) feed → now feed ≢ before feed → IsOnWalk feed longer
  walk_more place path on feed longer is has changed =
      let long : length (path ++ feed ∷ []) ≡ length path + 1 = length-append path (feed ∷ []) in
      let steps = on.steps in
      subst (IsOnWalk feed) (sym is) (record {
        steps = omega arith;
        walk = walk_goes_on places path place feed on.walk on.ends has;
        begins = get_or_append_left path (feed ∷ []) 0 0 (omega arith) ∙ on.begins;
        ends = get_or_push path feed 0 (length (path ++ feed ∷ []) - 1) (omega arith);
        changed = changed;
      })

  pub walk_stops : (place : ℕ) (path : List ℕ) → IsOnWalk place path → (out moved : List ℕ) → is_among first moved ≡ true → is_among first out ≡ false → is_among place moved ≡ true → IsStop places out moved path
  walk_stops place path on out moved here stays ends = record {
    steps = on.steps;
    walk = on.walk;
    begins = ap (λ x. is_among x moved) on.begins ∙ here;
    stays = ap (λ x. is_among x out) on.begins ∙ stays;
    ends = ap (λ x. is_among x moved) on.ends ∙ ends;
  }
