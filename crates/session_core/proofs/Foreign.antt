-- Drafts of another graph.
use Rattle.std.proofs.Common.{rules, ◌≡◌, ◌≢◌, ◌↔◌, IsTrue, ℕ, Bool, true, false, not, Option, Some, None, IfSome, IsSome, is_some, slice_get, refl, ap, sym, subst, ◌∙◌, true≢false}
use Rattle.version_store.specs.Plain.{PlainVersion, PlainDraft}
use Rattle.session_core.specs.Machine.{numbers_at}
use Rattle.session_core.specs.Adding.{IsOfState}
use Rattle.session_core.specs.TableView.{IsForeignDraft}
use Rattle.session_core.specs.MachineView.{Parts, state_of}
use Rattle.session_core.proofs.Spans.{span_at}
use Rattle.session_core.proofs.Booked.{is_some-numbers}

some_injective : {X : Type 0} (x y : X) → Some x ≡ Some y → x ≡ y
some_injective x y e = cc e

none_not : {X : Type 0} (x : X) → None ≡ Some x → ⊥
none_not x e = cc e

some_not : {X : Type 0} (o : Option X) → is_some o ≡ false → IsSome o → ⊥
some_not None e some = search rules
some_not (Some x) e some = true≢false e

is_there : {X : Type 0} (o : Option X) → is_some o ≡ true → IsSome o
is_there None e = absurd (true≢false (sym e))
is_there (Some x) e = search rules

pub no_truth : IsTrue false → ⊥
no_truth e = true≢false (sym e)

module _ (m : Parts) (session : ℕ) (draft : PlainDraft) where
  closed : is_some (span_at m session) ≡ false → is_some (numbers_at (state_of m) session) ≡ false
  closed none = is_some-numbers m session (span_at m session) refl ∙ none

  -- no draft is foreign where the session is not open
  pub foreign_not : is_some (span_at m session) ≡ false → IsForeignDraft (state_of m) session draft → ⊥
  foreign_not none f = some_not (numbers_at (state_of m) session) (closed none) f.0

  pub foreign_nowhere : slice_get m.versions draft.origin.number ≡ None → IsForeignDraft (state_of m) session draft → ⊥
  foreign_nowhere at f = none_not f.1 (sym at ∙ f.2)

  pub own_not : is_some (span_at m session) ≡ false → IsOfState (state_of m) session draft
  own_not none some = absurd (some_not (numbers_at (state_of m) session) (closed none) some)

  pub own_nowhere : slice_get m.versions draft.origin.number ≡ None → IsOfState (state_of m) session draft
  own_nowhere at some = subst (λ (o : Option PlainVersion). IfSome o (λ v. v.graph ≡ draft.origin.graph)) (sym at) tt

  module _ (v : PlainVersion) (at : slice_get m.versions draft.origin.number ≡ Some v) where
    foreign_is : is_some (span_at m session) ≡ true → v.graph ≢ draft.origin.graph → IsForeignDraft (state_of m) session draft
    foreign_is some other = (is_there (numbers_at (state_of m) session) (is_some-numbers m session (span_at m session) refl ∙ some), v, at, other)

    foreign_same : v.graph ≡ draft.origin.graph → IsForeignDraft (state_of m) session draft → ⊥
    foreign_same same f =
        let e : f.1 ≡ v = some_injective f.1 v (sym f.2 ∙ at) in
        f.3 (ap (λ (x : PlainVersion). x.graph) e ∙ same)

    -- the result of comparing the two graphs
    pub foreign_by : (b : Bool) → is_some (span_at m session) ≡ true → (IsTrue b ↔ (v.graph ≡ draft.origin.graph)) → (IsTrue (not b) ↔ IsForeignDraft (state_of m) session draft)
    foreign_by true some same = (λ no. absurd (true≢false (sym no)), λ f. absurd (foreign_same (same.0 refl) f))
    foreign_by false some same = (λ yes. foreign_is some (λ e. true≢false (sym (same.1 e))), λ f. refl)

    pub own_by : (b : Bool) → (IsTrue b ↔ (v.graph ≡ draft.origin.graph)) → not b ≡ false → IsOfState (state_of m) session draft
    own_by true same untrue some = subst (λ (o : Option PlainVersion). IfSome o (λ x. x.graph ≡ draft.origin.graph)) (sym at) (same.0 refl)
    own_by false same untrue some = absurd (true≢false untrue)
