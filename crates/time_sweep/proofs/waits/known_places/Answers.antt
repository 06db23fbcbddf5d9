use Rattle.std.proofs.Common.{◌≡◌, ◌++◌, ◌∷◌, ◌∙◌, [], ℕ, List, append-nil, ap, arith, sym}
use Rattle.std.specs.Prelude.{filter, is_some}
use Rattle.std.specs.List.{range_with_len}
use Rattle.time_sweep.specs.Known.{rank_in}
use Rattle.time_sweep.proofs.Waiting.{kept_more}
use Rattle.time_sweep.proofs.waits.known_places.Goals as goal
use Rattle.time_sweep.proofs.waits.known_places.Goals.{then-is_some+in_ok-push, else-is_some}

pub loop-place-preserved : goal.loop-place-preserved
loop-place-preserved c =
    let place = c.loop-place.place in
    let test = λ (place : ℕ). is_some (rank_in c.args.ranks.now place) in
    let so_far = c.loop-place.invariant in
    elim c.if-is_some.branch [
      | then-is_some+in_ok-push w ↦
          rw (w.places-is, w.in_ok-push.ensures.items)
          (ap (λ (places : List ℕ). places ++ place ∷ []) so_far ∙ sym (kept_more test place _ (sym w.if-is_some.true ∙ c.is_some.ensures ∙ ap is_some c.known_rank.ensures)))
      | else-is_some w ↦
          rw w.places-is
          (so_far ∙ sym (append-nil (filter test (range_with_len 0 place)))
          ∙ sym (kept_more test place _ (sym w.if-is_some.false ∙ c.is_some.ensures ∙ ap is_some c.known_rank.ensures)))
    ]

pub returns : goal.returns
returns c =
    let all : c.loop-place.place ≡ c.args.count = omega (arith, c.loop-place-test.false, c.loop-place.auto.place-end) in
    c.loop-place.invariant ∙ ap (λ (count : ℕ). filter (λ (place : ℕ). is_some (rank_in c.args.ranks.now place)) (range_with_len 0 count)) all
