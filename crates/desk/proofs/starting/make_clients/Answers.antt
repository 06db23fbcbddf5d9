use Rattle.std.proofs.Common.{◌≡◌, ℕ, zero, suc, ◌+◌, ◌<◌, List, [], ◌∷◌, ◌++◌, length, slice_get, ap, arith, length-append}
use Rattle.std.specs.Option.{IsSomeAnd}
use Rattle.desk.specs.Clients.{ClientView, IsNew}
use Rattle.desk.proofs.starting.make_clients.Goals as goal

-- what holds of each client by its place, and of one more at the end
each_and_last : (P : ℕ → ClientView → Type 0) (cs : List ClientView) (c : ClientView) → ((i : ℕ) → i < length cs → IsSomeAnd (slice_get cs i) (P i)) → P (length cs) c
    → (i : ℕ) → i < length cs + 1 → IsSomeAnd (slice_get (cs ++ c ∷ []) i) (P i)
each_and_last P [] c each last zero low = last
each_and_last P [] c each last (suc i) low = absurd (omega (arith, low))
each_and_last P (x ∷ xs) c each last zero low = each 0 (omega arith)
each_and_last P (x ∷ xs) c each last (suc i) low = each_and_last (λ k. P (suc k)) xs c (λ k l. each (suc k) (omega (arith, l))) last i (omega (arith, low))

pub loop-index-preserved : goal.loop-index-preserved
loop-index-preserved g c =
    let clients = c.loop-index.clients.items in
    let before = c.loop-index.invariant in
    let P : ℕ → ClientView → Type 0 = λ k. IsNew (k + 1) c.args.front.now in
    let pushed = c.in_ok-push.ensures.items in
    let here : length clients ≡ c.loop-index.index = before.2.0 in (
      omega (arith, c.split_off.ensures.parts_left, before.0),
      omega (arith, c.split_off.ensures.amount_left, before.1),
      (omega (arith, here, simp length-append at (ap length pushed)), λ k low. rw pushed (each_and_last P clients _ (λ j l. before.2.1 j (omega (arith, l, here))) (omega (arith, here), c.new.ensures.items, c.again.ensures) k (omega (arith, low, here)))),
    )
