-- A closed walk begins at each of its places.
use Rattle.std.proofs.Common.{◌≡◌, ◌<◌, ◌+◌, ◌-◌, ◌++◌, ◌∷◌, [], ℕ, List, length, drop, Option, sym, ap, ◌∙◌, arith, length-drop, add-zero}
use Rattle.std.specs.Prelude.{slice_index}
use Rattle.std.proofs.lemmas.List.{get_or-drop, get_or_append_left, get_or_push, length-append}
use Rattle.stage_graph.proofs.Searching.{walk_goes_on}
use Rattle.stage_graph.specs.declared.stage.Stage.{Stage}
use Rattle.stage_graph.specs.Order.{IsWalk, IsClosedWalk}

-- how far a walk that begins at `begin` and goes round has come
pub record Turning (places : List (Option Stage)) (path walk : List ℕ) (begin at : ℕ) : Type 0 where
  pub goes : IsWalk places walk
  pub long : length walk ≡ length path - begin + at
  pub first : slice_index walk 0 ≡ slice_index path begin
  pub last : slice_index walk (length walk - 1) ≡ slice_index path at

module _ (places : List (Option Stage)) (path : List ℕ) (closed : IsClosedWalk places path) (begin : ℕ) (within : begin < length path) where
  -- from there to the end
  pub turning_begins : Turning places path (drop begin path) begin 0
  turning_begins =
      let long : length (drop begin path) ≡ length path - begin = length-drop begin path in
      record {
        goes = λ k short.
            let here : slice_index (drop begin path) k ≡ slice_index path (begin + k) = get_or-drop begin path k 0 in
            let next : slice_index (drop begin path) (k + 1) ≡ slice_index path (begin + k + 1) = get_or-drop begin path (k + 1) 0 ∙ ap (slice_index path) (omega arith) in
            rw (here, next) (closed.walk (begin + k) (omega (arith, short, long)));
        long = omega (arith, long);
        first = get_or-drop begin path 0 0 ∙ ap (slice_index path) (add-zero begin);
        last = get_or-drop begin path (length (drop begin path) - 1) 0
            ∙ ap (slice_index path) (omega (arith, long, within)) ∙ sym closed.closed;
      }

  -- one step further round
  pub turning_more : (walk : List ℕ) (at : ℕ) → Turning places path walk begin at → at < begin → Turning places path (walk ++ slice_index path (at + 1) ∷ []) begin (at + 1)
  turning_more walk at kept before =
      let next = slice_index path (at + 1) in
      let long : length (walk ++ next ∷ []) ≡ length walk + 1 = length-append walk (next ∷ []) in
      record {
        goes = walk_goes_on places walk (slice_index path at) next kept.goes kept.last (closed.walk at (omega (arith, before, within)));
        long = omega (arith, long, kept.long);
        first = get_or_append_left walk (next ∷ []) 0 0 (omega (arith, kept.long, within)) ∙ kept.first;
        last = get_or_push walk next 0 (length (walk ++ next ∷ []) - 1) (omega (arith, long));
      }

  -- having come round, the walk is closed
  pub turning_ends : (walk : List ℕ) → Turning places path walk begin begin → IsClosedWalk places walk
  turning_ends walk kept = record {
    steps = omega (arith, kept.long, closed.steps, within);
    walk = kept.goes;
    closed = kept.first ∙ sym kept.last;
  }
