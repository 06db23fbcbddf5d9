-- One more child whose failure may be handed on.
use Rattle.std.proofs.Common.{◌≡◌, ℕ, ◌+◌, ◌<◌, List, [], ◌∷◌, Bool, true, false, Option, Some, None, cond, get_or, length, take, refl, sym, ap, ◌∙◌}
use Rattle.std.specs.Prelude.{filter, fold}
use Rattle.std.proofs.lemmas.List.Elements.{filter_more}
use Rattle.std.proofs.lemmas.List.Sums.{fold-append}
use Rattle.trace_stages.specs.HandedOn.{is_handed, last_of, last_to_end, later_of}
use Rattle.trace_stages.specs.Known.{PlainKnown}
use Rattle.trace_stages.specs.declared.stage.Exception.{Exception}
use Rattle.trace_relations.specs.declared.moment.Interval.{Interval}

last_or : (intervals : List Interval) (last : Option ℕ) (child : ℕ) (b : Bool) → cond b (Some (later_of intervals last child)) last ≡ fold (last_of intervals) last (cond b (child ∷ []) [])
last_or intervals last child true = refl
last_or intervals last child false = refl

-- one more child
pub handed_more : (known : PlainKnown) (failures : ℕ → Option Exception) (place : ℕ) (children : List ℕ) (i d : ℕ) (last new : Option ℕ) → i < length children → last ≡ last_to_end known.relations.intervals (filter (is_handed known failures place) (take i children)) → new ≡ cond (is_handed known failures place (get_or children i d)) (Some (later_of known.relations.intervals last (get_or children i d))) last → new ≡ last_to_end known.relations.intervals (filter (is_handed known failures place) (take (i + 1) children))
handed_more known failures place children i d last new lt so_far next =
    next
    ∙ last_or known.relations.intervals last (get_or children i d) (is_handed known failures place (get_or children i d))
    ∙ ap (λ those. fold (last_of known.relations.intervals) those (cond (is_handed known failures place (get_or children i d)) (get_or children i d ∷ []) [])) so_far
    ∙ sym (fold-append (last_of known.relations.intervals) None (filter (is_handed known failures place) (take i children)) (cond (is_handed known failures place (get_or children i d)) (get_or children i d ∷ []) []))
    ∙ ap (λ those. last_to_end known.relations.intervals those) (sym (filter_more (is_handed known failures place) children i d lt))
