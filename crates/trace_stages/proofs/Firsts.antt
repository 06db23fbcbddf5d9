-- The first spans that tell names of exceptions.
use Rattle.std.proofs.Common.{◌≡◌, ℕ, ◌+◌, ◌<◌, List, ◌∷◌, Bool, true, false, cond, Option, Some, None, drop, get_or, length, refl, sym, ap, ◌∙◌}
use Rattle.std.specs.Prelude.{String, bytes_eq, is_some, string_bytes, string_eq}
use Rattle.std.specs.declared.alloc.Global.{Global}
use Rattle.std.specs.HashMap.{HashMap, UpdatesBy, get_by_text}
use Rattle.std.specs.List.{position_from}
use Rattle.std.specs.Option.{option_or}
use Rattle.std.proofs.lemmas.List.{at_drop_more}
use Rattle.std.proofs.lemmas.Bool.{false≢true}
use Rattle.std.proofs.lemmas.Map.Text.{hash_map_updates_text}
use Rattle.std.proofs.lemmas.Option.{none-some}
use Rattle.std.proofs.lemmas.Slice.Eq.{bytes_eq-Decides}
use Rattle.trace_spans.specs.declared.span.Span.{Span}
use Rattle.trace_stages.specs.Fates.{first_place, is_name}

-- the first place of a name is that so far, or in what is left
abbrev pub AreFirstFrom : {S : Type 0} → List Span → ℕ → HashMap (String Global) ℕ S → Type 0
AreFirstFrom spans i firsts = (name : List ℕ) → first_place spans name ≡ option_or (get_by_text firsts name) (position_from (λ span. is_name name span.exception) i (drop i spans))

added : (o rest : Option ℕ) (i : ℕ) (b : Bool) → option_or o (cond b (Some i) rest) ≡ option_or (option_or o (cond b (Some i) None)) rest
added None rest i true = refl
added None rest i false = refl
added (Some place) rest i b = refl

left : {S : Type 0} (spans : List Span) (i : ℕ) (x : Span) (firsts : HashMap (String Global) ℕ S) → i < length spans → x ≡ get_or spans i x → AreFirstFrom spans i firsts → (q : List ℕ) → first_place spans q ≡ option_or (get_by_text firsts q) (cond (is_name q x.exception) (Some i) (position_from (λ span. is_name q span.exception) (i + 1) (drop (i + 1) spans)))
left spans i x firsts lt is_x so_far q =
    so_far q
    ∙ ap (λ o. option_or (get_by_text firsts q) o) (at_drop_more (position_from (λ span. is_name q span.exception) i) spans i x lt ∙ ap (λ y. position_from (λ span. is_name q span.exception) i (y ∷ drop (i + 1) spans)) (sym is_x))

pub with_name : {S : Type 0} (spans : List Span) (i : ℕ) (x : Span) (name : List ℕ) (firsts new : HashMap (String Global) ℕ S) → i < length spans → x ≡ get_or spans i x → x.exception ≡ Some name → ((q : List ℕ) → get_by_text new q ≡ option_or (get_by_text firsts q) (cond (bytes_eq name q) (Some i) None)) → AreFirstFrom spans i firsts → AreFirstFrom spans (i + 1) new
with_name spans i x name firsts new lt is_x told updated so_far = λ q.
    left spans i x firsts lt is_x so_far q
    ∙ ap (λ o. option_or (get_by_text firsts q) (cond (is_name q o) (Some i) (position_from (λ span. is_name q span.exception) (i + 1) (drop (i + 1) spans)))) told
    ∙ added (get_by_text firsts q) (position_from (λ span. is_name q span.exception) (i + 1) (drop (i + 1) spans)) i (bytes_eq name q)
    ∙ ap (λ o. option_or o (position_from (λ span. is_name q span.exception) (i + 1) (drop (i + 1) spans))) (sym (updated q))

pub without_name : {S : Type 0} (spans : List Span) (i : ℕ) (x : Span) (firsts new : HashMap (String Global) ℕ S) → i < length spans → x ≡ get_or spans i x → x.exception ≡ None → new ≡ firsts → AreFirstFrom spans i firsts → AreFirstFrom spans (i + 1) new
without_name spans i x firsts new lt is_x untold same so_far = λ q.
    left spans i x firsts lt is_x so_far q
    ∙ ap (λ o. option_or (get_by_text firsts q) (cond (is_name q o) (Some i) (position_from (λ span. is_name q span.exception) (i + 1) (drop (i + 1) spans)))) untold
    ∙ ap (λ m. option_or (get_by_text m q) (position_from (λ span. is_name q span.exception) (i + 1) (drop (i + 1) spans))) (sym same)

kept : (o : Option ℕ) (i : ℕ) (b : Bool) → (b ≡ true → o ≡ None) → cond b (Some i) o ≡ option_or o (cond b (Some i) None)
kept None i true h = refl
kept None i false h = refl
kept (Some place) i true h = absurd (none-some place (sym (h refl)))
kept (Some place) i false h = refl

none_of : (o : Option ℕ) → is_some o ≡ false → o ≡ None
none_of None h = refl
none_of (Some place) h = absurd (false≢true (sym h))

same_name : {S : Type 0} (firsts : HashMap (String Global) ℕ S) (name q : List ℕ) → is_some (get_by_text firsts name) ≡ false → bytes_eq name q ≡ true → is_some (get_by_text firsts q) ≡ false
same_name firsts name q absent e = ap (λ k. is_some (get_by_text firsts k)) (sym ((bytes_eq-Decides name q).0 e)) ∙ absent

noted : {S : Type 0} (id : String Global) (firsts new : HashMap (String Global) ℕ S) (place : ℕ) → is_some (get_by_text firsts (string_bytes id)) ≡ false → UpdatesBy string_eq (λ k. bytes_eq (string_bytes id) (string_bytes k)) firsts new (Some place) → (q : List ℕ) → get_by_text new q ≡ option_or (get_by_text firsts q) (cond (bytes_eq (string_bytes id) q) (Some place) None)
noted id firsts new place absent updates q =
    hash_map_updates_text (string_bytes id) firsts new (Some place) updates q
    ∙ kept (get_by_text firsts q) place (bytes_eq (string_bytes id) q) (λ e. none_of _ (same_name firsts (string_bytes id) q absent e))

-- a name that is noted
pub newly_noted : {S : Type 0} (name : List ℕ) (id : String Global) (firsts new : HashMap (String Global) ℕ S) (place : ℕ) → string_bytes id ≡ name → is_some (get_by_text firsts name) ≡ false → UpdatesBy string_eq (λ k. bytes_eq (string_bytes id) (string_bytes k)) firsts new (Some place) → (q : List ℕ) → get_by_text new q ≡ option_or (get_by_text firsts q) (cond (bytes_eq name q) (Some place) None)
newly_noted name id firsts new place is absent updates q =
    noted id firsts new place (ap (λ k. is_some (get_by_text firsts k)) is ∙ absent) updates q
    ∙ ap (λ k. option_or (get_by_text firsts q) (cond (bytes_eq k q) (Some place) None)) is
