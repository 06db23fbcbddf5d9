-- Ends that are cut, one span after another.
use Rattle.std.proofs.Common.{◌≡◌, ℕ, suc, zero, ◌+◌, ◌<◌, List, [], ◌∷◌, Bool, get_or, length, set, take, Some, None, refl, sym, ap, ◌∙◌}
use Rattle.std.specs.Prelude.{slice_get}
use Rattle.std.proofs.lemmas.List.Sums.{fold_more}
use Rattle.std.proofs.lemmas.Option.{none-some}
use Rattle.trace_spans.specs.declared.span.Span.{Span}
use Rattle.trace_relations.specs.declared.moment.Interval.{Interval}
use Rattle.trace_relations.specs.LateEnds.{end_of_caller, ended_with, with_callers_end, with_callers_ends}
use Rattle.trace_relations.specs.Moments.{interval_at}

set_nowhere : (intervals : List Interval) (place : ℕ) (interval : Interval) → slice_get intervals place ≡ None → set intervals place interval ≡ intervals
set_nowhere [] place interval none = refl
set_nowhere (x ∷ xs) zero interval none = absurd (none-some x (sym none))
set_nowhere (x ∷ xs) (suc place) interval none = ap (λ rest. x ∷ rest) (set_nowhere xs place interval none)

-- the caller's end is not told
pub not_cut : (spans : List Span) (references : List (List ℕ × Bool)) (intervals : List Interval) (place : ℕ) → end_of_caller spans references intervals place ≡ None → intervals ≡ with_callers_end spans references intervals place
not_cut spans references intervals place none = sym (ap (ended_with intervals place) none)

-- the span isn't there
pub cut_nowhere : (spans : List Span) (references : List (List ℕ × Bool)) (intervals : List Interval) (place end : ℕ) → end_of_caller spans references intervals place ≡ Some end → slice_get intervals place ≡ None → intervals ≡ with_callers_end spans references intervals place
cut_nowhere spans references intervals place end is none = sym (ap (ended_with intervals place) is ∙ set_nowhere intervals place (record { start = (interval_at intervals place).start; end = Some end }) none)

pub cut_there : (spans : List Span) (references : List (List ℕ × Bool)) (intervals new : List Interval) (place end : ℕ) → end_of_caller spans references intervals place ≡ Some end → new ≡ set intervals place (record { start = (interval_at intervals place).start; end = Some end })
    → new ≡ with_callers_end spans references intervals place
cut_there spans references intervals new place end is now = now ∙ sym (ap (ended_with intervals place) is)

pub cut_more : (spans : List Span) (references : List (List ℕ × Bool)) (order : List ℕ) (i place : ℕ) (first before after : List Interval) → i < length order → place ≡ get_or order i 0 → before ≡ with_callers_ends spans references (take i order) first
    → after ≡ with_callers_end spans references before place → after ≡ with_callers_ends spans references (take (i + 1) order) first
cut_more spans references order i place first before after lt is so_far now =
    now ∙ ap (λ intervals. with_callers_end spans references intervals place) so_far
    ∙ ap (with_callers_end spans references (with_callers_ends spans references (take i order) first)) is
    ∙ sym (fold_more (with_callers_end spans references) first order i 0 lt)
