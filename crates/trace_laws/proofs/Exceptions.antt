-- The exception that a span tells is written by the name that it tells.
use Rattle.std.proofs.Common.{◌≡◌, ℕ, suc, ◌+◌, List, [], ◌∷◌, Bool, true, false, cond, Option, Some, None, refl, sym, ap, ◌∙◌, arith}
use Rattle.std.specs.Prelude.{bytes_eq, codes, slice_get, unwrap_or}
use Rattle.std.specs.List.{position_from}
use Rattle.std.proofs.lemmas.Bool.{false≢true}
use Rattle.std.proofs.lemmas.Option.{none-some, same_Some}
use Rattle.std.proofs.lemmas.Slice.Eq.{bytes_eq-Decides}
use Rattle.trace_spans.specs.declared.span.Span.{Span}
use Rattle.trace_stages.specs.Fates.{first_place, is_name}
use Rattle.trace_stages.specs.declared.stage.Exception.TheVariants.{SpanFailed, Of}
use Rattle.trace_import.specs.Actions.{exception_name, name_told, thrown_at, written_name}
use Rattle.trace_laws.specs.Imports.{EachExceptionHasItsName}

same_text : (one other : List ℕ) → bytes_eq one other ≡ true → one ≡ other
same_text one other same = (bytes_eq-Decides one other).0 same

-- the first span that tells a name tells that name
first_tells : (spans : List Span) (name : List ℕ) (i k : ℕ) → position_from (λ span. is_name name span.exception) i spans ≡ Some k → (j : ℕ) × (k ≡ i + j) × (thrown_at (slice_get spans j) ≡ name)
first_tells [] name i k found = absurd (none-some k found)
first_tells (span ∷ spans) name i k found = by_test (is_name name span.exception) refl found (first_tells spans name (i + 1) k)
  where
    told_is : (told : Option (List ℕ)) → is_name name told ≡ true → name_told told ≡ name
    told_is None is = absurd (false≢true is)
    told_is (Some told) is = same_text told name is

    by_test : (b : Bool) → is_name name span.exception ≡ b → cond b (Some i) (position_from (λ those. is_name name those.exception) (i + 1) spans) ≡ Some k
        → (position_from (λ those. is_name name those.exception) (i + 1) spans ≡ Some k → (j : ℕ) × (k ≡ i + 1 + j) × (thrown_at (slice_get spans j) ≡ name))
        → (j : ℕ) × (k ≡ i + j) × (thrown_at (slice_get (span ∷ spans) j) ≡ name)
    by_test true is found again = let same : i ≡ k = same_Some i k found in (0, omega arith, told_is span.exception is)
    by_test false is found again = let rest = again found in (suc rest.0, omega (arith, rest.1), rest.2)

told_name : (spans : List Span) (place : ℕ) (span : Span) (name : List ℕ) → slice_get spans place ≡ Some span → span.exception ≡ Some name → (b : Bool) → bytes_eq name (codes "SpanFailed") ≡ b
    → exception_name spans (cond b SpanFailed (Of (unwrap_or (first_place spans name) place))) ≡ name
told_name spans place span name here told true is = sym (same_text name (codes "SpanFailed") is)
told_name spans place span name here told false is = by_first (first_place spans name) refl
  where
    by_first : (first : Option ℕ) → first_place spans name ≡ first → exception_name spans (Of (unwrap_or first place)) ≡ name
    by_first None none = ap thrown_at here ∙ ap name_told told
    by_first (Some k) some =
        let first = first_tells spans name 0 k some in
        let e : k ≡ first.0 = omega (arith, first.1) in
        ap (λ j. thrown_at (slice_get spans j)) e ∙ first.2

pub each_has_its_name : EachExceptionHasItsName
each_has_its_name spans place span name here told valid =
    ap written_name (told_name spans place span name here told (bytes_eq name (codes "SpanFailed")) refl) ∙ ap (λ b. cond b name (codes "SpanFailed")) valid
