-- One more call that a span gave up.
use Rattle.std.proofs.Common.{◌≡◌, ℕ, ◌+◌, ◌<◌, ◌≤◌, ◌&&◌, List, [], ◌∷◌, ◌++◌, Bool, true, false, Some, None, cond, get_or, length, map, take, refl, sym, ap, ◌∙◌, append_assoc, arith}
use Rattle.std.specs.Prelude.{filter, nat_eq}
use Rattle.std.specs.Option.{option_eq}
use Rattle.std.proofs.lemmas.Bool.Decides.{nat_tests}
use Rattle.std.proofs.lemmas.List.{append-nil, map-append}
use Rattle.std.proofs.lemmas.List.Elements.{filter-append, filter_more}
use Rattle.trace_relations.specs.Ancestry.{parent_at}
use Rattle.trace_relations.specs.Relations.{PlainRelations}
use Rattle.trace_stages.specs.declared.walk.called.Called.{Called}
use Rattle.trace_stages.specs.Called.{called_by, ending, ends, gave_up, is_open, starting, starts, starts_open}
use Rattle.trace_stages.specs.Moments.{At}

-- the spans of those moments that are meant
abbrev pub spans_at : (At → Bool) → List At → List ℕ
spans_at p moments = map (λ (it : At). it.1.1) (filter p moments)

one_at : (moment : At) (b c : Bool) → c ≡ b → map (λ (it : At). it.1.1) (cond c (moment ∷ []) []) ≡ cond b (moment.1.1 ∷ []) []
one_at moment true c is = rw is refl
one_at moment false c is = rw is refl

-- one more of the moments that are meant, or none
pub spans_more : (p : At → Bool) (moments : List At) (i : ℕ) (d : At) → i < length moments → spans_at p (take (i + 1) moments) ≡ spans_at p (take i moments) ++ cond (p (get_or moments i d)) ((get_or moments i d).1.1 ∷ []) []
spans_more p moments i d lt =
    ap (λ those. map (λ (it : At). it.1.1) those) (filter_more p moments i d lt)
    ∙ map-append (λ (it : At). it.1.1) (filter p (take i moments)) (cond (p (get_or moments i d)) (get_or moments i d ∷ []) [])
    ∙ ap (λ those. spans_at p (take i moments) ++ those) (one_at (get_or moments i d) (p (get_or moments i d)) (p (get_or moments i d)) refl)

-- one more that ends, or none
pub end_pushed : (moments : List At) (i : ℕ) (d : At) (places new : List ℕ) (is_one : Bool) → i < length moments → places ≡ ending (take i moments) → is_one ≡ ends (get_or moments i d) → new ≡ places ++ cond is_one ((get_or moments i d).1.1 ∷ []) [] → new ≡ ending (take (i + 1) moments)
end_pushed moments i d places new is_one lt so_far is pushed =
    pushed
    ∙ ap (λ b. places ++ cond b ((get_or moments i d).1.1 ∷ []) []) is
    ∙ ap (λ those. those ++ cond (ends (get_or moments i d)) ((get_or moments i d).1.1 ∷ []) []) so_far
    ∙ sym (spans_more ends moments i d lt)

if_open : (relations : PlainRelations) (place : ℕ) (is_start unended : Bool) → is_open relations place ≡ unended → filter (is_open relations) (cond is_start (place ∷ []) []) ≡ cond (is_start && unended) (place ∷ []) []
if_open relations place true true is = rw is refl
if_open relations place true false is = rw is refl
if_open relations place false unended is = refl

-- one more that starts and has not ended, or none
open_more : (relations : PlainRelations) (moments : List At) (i : ℕ) (d : At) → i < length moments → filter (is_open relations) (starting (take (i + 1) moments)) ≡ filter (is_open relations) (starting (take i moments)) ++ cond (starts_open relations (get_or moments i d)) ((get_or moments i d).1.1 ∷ []) []
open_more relations moments i d lt =
    ap (λ those. filter (is_open relations) those) (spans_more starts moments i d lt)
    ∙ filter-append (is_open relations) (starting (take i moments)) (cond (starts (get_or moments i d)) ((get_or moments i d).1.1 ∷ []) [])
    ∙ ap (λ those. filter (is_open relations) (starting (take i moments)) ++ those) (if_open relations (get_or moments i d).1.1 (starts (get_or moments i d)) (is_open relations (get_or moments i d).1.1) refl)

-- after those that have ended
pub open_pushed : (relations : PlainRelations) (moments : List At) (i : ℕ) (d : At) (before places new : List ℕ) (is_one : Bool) → i < length moments → places ≡ before ++ filter (is_open relations) (starting (take i moments)) → is_one ≡ starts_open relations (get_or moments i d) → new ≡ places ++ cond is_one ((get_or moments i d).1.1 ∷ []) [] → new ≡ before ++ filter (is_open relations) (starting (take (i + 1) moments))
open_pushed relations moments i d before places new is_one lt so_far is pushed =
    pushed
    ∙ ap (λ b. places ++ cond b ((get_or moments i d).1.1 ∷ []) []) is
    ∙ ap (λ those. those ++ cond (starts_open relations (get_or moments i d)) ((get_or moments i d).1.1 ∷ []) []) so_far
    ∙ append_assoc before (filter (is_open relations) (starting (take i moments))) (cond (starts_open relations (get_or moments i d)) ((get_or moments i d).1.1 ∷ []) [])
    ∙ ap (λ those. before ++ those) (sym (open_more relations moments i d lt))

one_by : (relations : PlainRelations) (place : ℕ) (b c : Bool) → c ≡ b → map (called_by relations) (cond c (place ∷ []) []) ≡ cond b (called_by relations place ∷ []) []
one_by relations place true c is = rw is refl
one_by relations place false c is = rw is refl

-- what a span had called, with one more of the calls
pub called_more : (relations : PlainRelations) (span : ℕ) (places : List ℕ) (i d : ℕ) (old new : List Called) → i < length places → old ≡ map (called_by relations) (filter (gave_up relations span) (take i places)) → new ≡ old ++ cond (gave_up relations span (get_or places i d)) (called_by relations (get_or places i d) ∷ []) [] → new ≡ map (called_by relations) (filter (gave_up relations span) (take (i + 1) places))
called_more relations span places i d old new lt so_far added =
    added
    ∙ ap (λ those. those ++ cond (gave_up relations span (get_or places i d)) (called_by relations (get_or places i d) ∷ []) []) so_far
    ∙ sym
    (ap (λ those. map (called_by relations) those) (filter_more (gave_up relations span) places i d lt)
    ∙ map-append (called_by relations) (filter (gave_up relations span) (take i places)) (cond (gave_up relations span (get_or places i d)) (get_or places i d ∷ []) [])
    ∙ ap (λ those. map (called_by relations) (filter (gave_up relations span) (take i places)) ++ those) (one_by relations (get_or places i d) (gave_up relations span (get_or places i d)) (gave_up relations span (get_or places i d)) refl))

told_by : (relations : PlainRelations) (place span caller : ℕ) → parent_at relations.given_up place ≡ Some caller → gave_up relations span place ≡ nat_eq caller span
told_by relations place span caller is = ap (λ those. option_eq nat_eq those (Some span)) is

same_turned : (a b : ℕ) → nat_eq a b ≡ nat_eq b a
same_turned a b = grind (arith, nat_tests)

with_one : (b : Bool) (calls : List Called) (call : Called) → cond b (calls ++ call ∷ []) calls ≡ calls ++ cond b (call ∷ []) []
with_one true calls call = refl
with_one false calls call = sym (append-nil calls)

-- a call that its caller gave up
pub one_called : (relations : PlainRelations) (place span caller : ℕ) (old new : List Called) (call : Called) → parent_at relations.given_up place ≡ Some caller → call ≡ called_by relations place → new ≡ cond (nat_eq span caller) (old ++ call ∷ []) old → new ≡ old ++ cond (gave_up relations span place) (called_by relations place ∷ []) []
one_called relations place span caller old new call is is_call added =
    added
    ∙ with_one (nat_eq span caller) old call
    ∙ ap (λ those. old ++ cond (nat_eq span caller) (those ∷ []) []) is_call
    ∙ ap (λ b. old ++ cond b (called_by relations place ∷ []) []) (sym (told_by relations place span caller is ∙ same_turned caller span))

not_called : (relations : PlainRelations) (place span : ℕ) (calls : List Called) → gave_up relations span place ≡ false → calls ≡ calls ++ cond (gave_up relations span place) (called_by relations place ∷ []) []
not_called relations place span calls is = sym (ap (λ b. calls ++ cond b (called_by relations place ∷ []) []) is ∙ append-nil calls)

-- none gave it up
pub none_called : (relations : PlainRelations) (place span : ℕ) (calls : List Called) → parent_at relations.given_up place ≡ None → calls ≡ calls ++ cond (gave_up relations span place) (called_by relations place ∷ []) []
none_called relations place span calls is = not_called relations place span calls (ap (λ those. option_eq nat_eq those (Some span)) is)

other_span : (a b c : ℕ) → a < c → c ≤ b → nat_eq b a ≡ false
other_span a b c lt le = grind (arith, nat_tests)

-- one that is no span gave it up
pub past_called : (relations : PlainRelations) (place span caller count : ℕ) (calls : List Called) → parent_at relations.given_up place ≡ Some caller → span < count → count ≤ caller → calls ≡ calls ++ cond (gave_up relations span place) (called_by relations place ∷ []) []
past_called relations place span caller count calls is lt le = not_called relations place span calls (told_by relations place span caller is ∙ other_span span caller count lt le)
