-- The places of ids.
use Rattle.std.proofs.Common.{◌≡◌, ℕ, ◌+◌, ◌<◌, List, ◌∷◌, Bool, true, false, cond, Option, Some, None, drop, get_or, length, refl, sym, ap, ◌∙◌}
use Rattle.std.specs.Prelude.{String, is_some, string_bytes, string_eq}
use Rattle.std.specs.declared.alloc.Global.{Global}
use Rattle.std.specs.HashMap.{HashMap, UpdatesBy, get_by_text}
use Rattle.std.specs.List.{position_from}
use Rattle.std.specs.Option.{option_or}
use Rattle.std.specs.Str.{bytes_eq}
use Rattle.std.proofs.lemmas.Bool.{false≢true}
use Rattle.std.proofs.lemmas.List.{at_drop_more}
use Rattle.std.proofs.lemmas.Map.Text.{hash_map_updates_text}
use Rattle.std.proofs.lemmas.Slice.Eq.{bytes_eq-Decides}
use Rattle.trace_spans.specs.Keys.{key_of}
use Rattle.trace_spans.specs.declared.span.Span.{Span}
use Rattle.trace_relations.specs.Parents.{place_of}

-- the first place of an id is that so far, or in what is left
abbrev pub IsPlacedFrom : {S : Type 0} → List Span → ℕ → HashMap (String Global) ℕ S → Type 0
IsPlacedFrom spans i places = (id : List ℕ) → place_of spans id ≡ option_or (get_by_text places id) (position_from (λ span. bytes_eq (key_of span) id) i (drop i spans))

added : (o rest : Option ℕ) (i : ℕ) (b : Bool) → (b ≡ true → o ≡ None) → option_or o (cond b (Some i) rest) ≡ option_or (cond b (Some i) o) rest
added o rest i true h = rw (h refl) refl
added o rest i false h = refl

kept : (o rest : Option ℕ) (i : ℕ) (b : Bool) → (b ≡ true → is_some o ≡ true) → option_or o (cond b (Some i) rest) ≡ option_or o rest
kept None rest i true h = absurd (false≢true (h refl))
kept (Some place) rest i true h = refl
kept o rest i false h = refl

none_of : (o : Option ℕ) → is_some o ≡ false → o ≡ None
none_of None h = refl
none_of (Some place) h = absurd (false≢true (sym h))

-- what is known of an id before the span at i is looked at
looked : {S : Type 0} (spans : List Span) (i : ℕ) (x : Span) (id : List ℕ) (places : HashMap (String Global) ℕ S) → i < length spans → x ≡ get_or spans i x → id ≡ key_of x → IsPlacedFrom spans i places → (q : List ℕ) → place_of spans q ≡ option_or (get_by_text places q) (cond (bytes_eq id q) (Some i) (position_from (λ span. bytes_eq (key_of span) q) (i + 1) (drop (i + 1) spans)))
looked spans i x id places lt is_x is_id so_far q =
    so_far q
    ∙ ap (λ o. option_or (get_by_text places q) o) (at_drop_more (position_from (λ span. bytes_eq (key_of span) q) i) spans i x lt ∙ ap (λ y. position_from (λ span. bytes_eq (key_of span) q) i (y ∷ drop (i + 1) spans)) (sym is_x))
    ∙ ap (λ k. option_or (get_by_text places q) (cond (bytes_eq k q) (Some i) (position_from (λ span. bytes_eq (key_of span) q) (i + 1) (drop (i + 1) spans)))) (sym is_id)

same_id : {S : Type 0} (places : HashMap (String Global) ℕ S) (id q : List ℕ) (b : Bool) → is_some (get_by_text places id) ≡ b → bytes_eq id q ≡ true → is_some (get_by_text places q) ≡ b
same_id places id q b h e = ap (λ k. is_some (get_by_text places k)) (sym ((bytes_eq-Decides id q).0 e)) ∙ h

pub with_new : {S : Type 0} (spans : List Span) (i : ℕ) (x : Span) (id : String Global) (places new : HashMap (String Global) ℕ S) → i < length spans → x ≡ get_or spans i x → string_bytes id ≡ key_of x → is_some (get_by_text places (string_bytes id)) ≡ false → UpdatesBy string_eq (λ k. bytes_eq (string_bytes id) (string_bytes k)) places new (Some i) → IsPlacedFrom spans i places → IsPlacedFrom spans (i + 1) new
with_new spans i x id places new lt is_x is_id absent updates so_far = λ q.
    looked spans i x (string_bytes id) places lt is_x is_id so_far q
    ∙ added (get_by_text places q) _ i (bytes_eq (string_bytes id) q) (λ e. none_of _ (same_id places (string_bytes id) q false absent e))
    ∙ ap (λ o. option_or o (position_from (λ span. bytes_eq (key_of span) q) (i + 1) (drop (i + 1) spans))) (sym (hash_map_updates_text (string_bytes id) places new (Some i) updates q))

pub with_known : {S : Type 0} (spans : List Span) (i : ℕ) (x : Span) (id : List ℕ) (places new : HashMap (String Global) ℕ S) → i < length spans → x ≡ get_or spans i x → id ≡ key_of x → is_some (get_by_text places id) ≡ true → new ≡ places → IsPlacedFrom spans i places → IsPlacedFrom spans (i + 1) new
with_known spans i x id places new lt is_x is_id present same so_far = λ q.
    looked spans i x id places lt is_x is_id so_far q
    ∙ kept (get_by_text places q) _ i (bytes_eq id q) (same_id places id q true present)
    ∙ ap (λ m. option_or (get_by_text m q) (position_from (λ span. bytes_eq (key_of span) q) (i + 1) (drop (i + 1) spans))) (sym same)
