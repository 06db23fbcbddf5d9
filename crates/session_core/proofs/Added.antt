-- The parts after one more version.
use Rattle.std.proofs.Common.{◌≡◌, ℕ, zero, suc, ◌+◌, ◌<◌, List, [], ◌∷◌, ◌++◌, length, Option, Some, None, IfSome, slice_get, ap, sym, subst, ◌∙◌, arith, length-append}
use Rattle.std.specs.Ordering.{nat_cmp}
use Rattle.std.specs.BTreeMap.{insert_entry}
use Rattle.version_store.specs.Plain.{PlainVersion, parent_of}
use Rattle.session_core.specs.declared.machine.Span.{Span}
use Rattle.session_core.specs.Machine.{State, Numbers, numbers_at, with_head, added}
use Rattle.session_core.specs.Standing.{parent_in, parent_at, numbers_of}
use Rattle.session_core.specs.MachineView.{Parts, sessions_of, state_of, IsSound, SpansBelow}
use Rattle.session_core.proofs.Standing.{insert-map, numbers_of-pushed, sessions_of-left}
use Rattle.session_core.proofs.Spans.{span_at, numbers, span_low, SpansBelow-insert, SpansBelow-more}

-- what holds of each element at its place still holds with one more
each-snoc : {X : Type 0} (P : ℕ → X → Type 0) (xs : List X) (x : X) → ((k : ℕ) → IfSome (slice_get xs k) (P k)) → P (length xs) x → (k : ℕ) → IfSome (slice_get (xs ++ x ∷ []) k) (P k)
each-snoc P [] x all last zero = last
each-snoc P [] x all last (suc k) = tt
each-snoc P (y ∷ xs) x all last zero = all zero
each-snoc P (y ∷ xs) x all last (suc k) = each-snoc (λ j. P (suc j)) xs x (λ j. all (suc j)) last k

parents_to : (o : Option PlainVersion) (k : ℕ) → IfSome (parent_in o) (λ p. p < k) → IfSome o (λ v. IfSome (parent_of v) (λ p. p < k))
parents_to None k h = tt
parents_to (Some v) k h = h

parents_from : (o : Option PlainVersion) (k : ℕ) → IfSome o (λ v. IfSome (parent_of v) (λ p. p < k)) → IfSome (parent_in o) (λ p. p < k)
parents_from None k h = tt
parents_from (Some v) k h = h

abbrev state : List PlainVersion → ℕ → List (ℕ × Numbers) → State
state versions most sessions = record { versions = versions; most = most; sessions = sessions }

some_injective : {X : Type 0} (x y : X) → Some x ≡ Some y → x ≡ y
some_injective x y e = cc e

module _ (m n : Parts) (session : ℕ) (at : Span) (v : PlainVersion) (list : Numbers)
    (sound : IsSound m) (is : span_at m session ≡ Some at) (stands : numbers_at (state_of m) session ≡ Some list)
    (number : v.number ≡ length m.versions) (parent : parent_of v ≡ Some list.head)
    (items : n.versions ≡ m.versions ++ v ∷ []) (most : n.most ≡ m.most)
    (entries : n.spans ≡ insert_entry nat_cmp m.spans session (record { bottom = at.bottom; head = v.number })) where
  the_list : list ≡ numbers_of m.versions at
  the_list = some_injective list (numbers_of m.versions at) (sym stands ∙ numbers m session (Some at) is)

  based : parent_of v ≡ Some at.head
  based = parent ∙ ap (λ (l : Numbers). Some l.head) the_list

  lows : (at.bottom < length m.versions) × (at.head < length m.versions)
  lows = span_low m session at sound is

  pub add_some : state_of n ≡ added (state_of m) session list v
  add_some =
      let to : Span = record { bottom = at.bottom; head = length m.versions } in
      let others : sessions_of (m.versions ++ v ∷ []) m.spans ≡ sessions_of m.versions m.spans = sessions_of-left m.versions (v ∷ []) m.spans sound.parents sound.spans in
      let mine : numbers_of (m.versions ++ v ∷ []) to ≡ with_head (length m.versions) list =
      numbers_of-pushed m.versions v at.bottom at.head sound.parents lows.0 lows.1 based ∙ ap (with_head (length m.versions)) (sym the_list) in
      let all : sessions_of n.versions n.spans ≡ insert_entry nat_cmp (sessions_of m.versions m.spans) session (with_head (length m.versions) list) =
      ap (λ (vs : List PlainVersion). sessions_of vs n.spans) items
      ∙ ap (sessions_of (m.versions ++ v ∷ [])) (entries ∙ ap (λ k. insert_entry nat_cmp m.spans session (record { bottom = at.bottom; head = k })) number)
      ∙ sym (insert-map (m.versions ++ v ∷ []) m.spans session to)
      ∙ ap (λ (es : List (ℕ × Numbers)). insert_entry nat_cmp es session (numbers_of (m.versions ++ v ∷ []) to)) others
      ∙ ap (insert_entry nat_cmp (sessions_of m.versions m.spans) session) mine in
      ap (λ (x : List PlainVersion). state x n.most (sessions_of n.versions n.spans)) items
      ∙ ap (λ k. state (m.versions ++ v ∷ []) k (sessions_of n.versions n.spans)) most
      ∙ ap (state (m.versions ++ v ∷ []) m.most) all

  pub add_sound : IsSound n
  add_sound =
      let more : length n.versions ≡ length m.versions + 1 = ap length items ∙ (let l = length-append m.versions (v ∷ []) in omega (arith, l)) in
      record {
        some = omega (arith, more);
        few = omega (arith, most, sound.few);
        numbered = subst (λ xs. (k : ℕ) → IfSome (slice_get xs k) (λ x. x.number ≡ k)) (sym items) (each-snoc (λ k x. x.number ≡ k) m.versions v sound.numbered number);
        parents = subst (λ xs. (k : ℕ) → IfSome (parent_at xs k) (λ p. p < k)) (sym items) (λ k. parents_from (slice_get (m.versions ++ v ∷ []) k) k
            (each-snoc (λ k x. IfSome (parent_of x) (λ p. p < k)) m.versions v (λ j. parents_to (slice_get m.versions j) j (sound.parents j)) (subst (λ (o : Option ℕ). IfSome o (λ p. p < length m.versions)) (sym based) lows.1) k));
        spans = subst (SpansBelow (length n.versions)) (sym entries) (SpansBelow-insert (length n.versions) m.spans session (record { bottom = at.bottom; head = v.number })
            (let low = lows.0 in omega (arith, low, more)) (omega (arith, number, more)) (SpansBelow-more (length m.versions) (length n.versions) m.spans (omega (arith, more)) sound.spans));
      }
