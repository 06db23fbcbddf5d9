-- What marks tell of spans.
use Rattle.std.proofs.Common.{◌≡◌, List, [], ◌∷◌, ◌++◌, Bool, true, false, not, cond, refl, sym, ap, ◌∙◌}
use Rattle.std.specs.Prelude.{◌&&◌, ◌||◌, ℕ, fold}
use Rattle.std.specs.Bool.{OnFalse}
use Rattle.std.specs.List.{list_any}
use Rattle.std.specs.Str.{bytes_eq}
use Rattle.std.specs.HashSet.{HashSet, contains_by}
use Rattle.std.proofs.lemmas.Bool.{false_from_ne_true, false≢true}
use Rattle.std.proofs.lemmas.List.Folds.{list_any-append}
use Rattle.std.proofs.lemmas.List.Sums.{fold-append}
use Rattle.std.proofs.lemmas.Slice.Eq.{bytes_eq-Decides}
use Rattle.trace_spans.specs.declared.choice.Mark.{Mark}
use Rattle.trace_spans.specs.declared.span.Span.{Span}
use Rattle.trace_spans.specs.Choice.{is_repeat, is_repeated, with_span}
use Rattle.trace_spans.specs.Marks.{AreMarksOf, AreNoted, IsMarkOf, is_mark_of, same_mark}

-- two tests that answer the same of each element
pub any_same : {X : Type 0} (f g : X → Bool) → ((x : X) → f x ≡ g x) → (xs : List X) → list_any f xs ≡ list_any g xs
any_same f g same [] = refl
any_same f g same (x ∷ xs) = ap (λ b. b || list_any f xs) (same x) ∙ ap (λ b. g x || b) (any_same f g same xs)

-- a mark of a span tells its repeats
repeats : (mark : Mark) (span : Span) → IsMarkOf mark span → (other : Span) → is_mark_of mark other ≡ is_repeat other span
repeats mark span h other = rw (h.0, h.1, h.2, h.3, h.4, h.5) refl

same_as : (mark : Mark) (span : Span) → IsMarkOf mark span → (other : Mark) → same_mark mark other ≡ is_mark_of other span
same_as mark span h other = rw (h.0, h.1, h.2, h.3, h.4, h.5) refl

joined : (b a : Bool) → cond b true a ≡ (a || (b || false))
joined true true = refl
joined true false = refl
joined false true = refl
joined false false = refl

pub noted : {S : Type 0} (marks new : HashSet Mark S) (mark : Mark) (span : Span) (earlier : List Span) (is_new : Bool) → IsMarkOf mark span → AreMarksOf marks earlier → is_new ≡ not (contains_by (same_mark mark) marks) → OnFalse is_new (new.keys ≡ marks.keys) → ((other : Mark) → contains_by (same_mark other) new ≡ cond (same_mark mark other) true (contains_by (same_mark other) marks)) → AreNoted new earlier span is_new
noted marks new mark span earlier true of are added unchanged updates = (
  added ∙ ap not (are mark ∙ any_same _ _ (repeats mark span of) earlier),
  λ other.
      updates other
      ∙ ap (λ b. cond b true (contains_by (same_mark other) marks)) (same_as mark span of other)
      ∙ ap (λ b. cond (is_mark_of other span) true b) (are other)
      ∙ joined (is_mark_of other span) (list_any (is_mark_of other) earlier)
      ∙ sym (list_any-append (is_mark_of other) earlier (span ∷ [])),
)
noted marks new mark span earlier false of are added unchanged updates = (
  added ∙ ap not (are mark ∙ any_same _ _ (repeats mark span of) earlier),
  λ other. ap (λ keys. list_any (same_mark other) keys) unchanged ∙ are other,
)

-- what the loop over spans keeps: the spans so far that count, and their marks
abbrev pub AreChosen : {S : Type 0} → List ℕ → HashSet Mark S → List Span → List Span → Type 0
AreChosen trace marks chosen spans = (chosen ≡ fold (with_span trace) [] spans) × AreMarksOf marks chosen

stepped : (trace : List ℕ) (chosen spans : List Span) (span : Span) → chosen ≡ fold (with_span trace) [] spans → with_span trace chosen span ≡ fold (with_span trace) [] (spans ++ span ∷ [])
stepped trace chosen spans span is = ap (λ earlier. with_span trace earlier span) is ∙ sym (fold-append (with_span trace) [] spans (span ∷ []))

picks : (a b : Bool) (x y : List Span) → a ≡ true → b ≡ true → cond (a && b) x y ≡ x
picks a b x y p q = rw (p, q) refl

first_fails : (a b : Bool) (x y : List Span) → a ≡ false → cond (a && b) x y ≡ y
first_fails a b x y p = rw p refl

second_fails : (a b : Bool) (x y : List Span) → b ≡ false → cond (a && b) x y ≡ y
second_fails true b x y p = rw p refl
second_fails false b x y p = refl

-- a new span of the trace counts
pub counted : {S : Type 0} (trace : List ℕ) (marks new : HashSet Mark S) (chosen now spans : List Span) (span : Span) (is_new : Bool) → span.trace ≡ trace → is_new ≡ true → AreChosen trace marks chosen spans → AreNoted new chosen span is_new → now ≡ chosen ++ span ∷ [] → AreChosen trace new now (spans ++ span ∷ [])
counted trace marks new chosen now spans span is_new of is_one so_far note is = (
  is ∙ sym (picks (bytes_eq span.trace trace) (not (is_repeated chosen span)) (chosen ++ span ∷ []) chosen ((bytes_eq-Decides span.trace trace).1 of) (sym note.0 ∙ is_one)) ∙ stepped trace chosen spans span so_far.0,
  λ mark. note.1 mark ∙ ap (λ b. list_any (is_mark_of mark) (cond b (chosen ++ span ∷ []) chosen)) is_one ∙ ap (λ all. list_any (is_mark_of mark) all) (sym is),
)

-- a repeat does not
pub repeated : {S : Type 0} (trace : List ℕ) (marks new : HashSet Mark S) (kept : HashSet Mark S) (chosen spans : List Span) (span : Span) (is_new : Bool) → is_new ≡ false → AreChosen trace marks chosen spans → AreNoted new chosen span is_new → kept ≡ new → AreChosen trace kept chosen (spans ++ span ∷ [])
repeated trace marks new kept chosen spans span is_new is_none so_far note is = (
  sym (second_fails (bytes_eq span.trace trace) (not (is_repeated chosen span)) (chosen ++ span ∷ []) chosen (sym note.0 ∙ is_none)) ∙ stepped trace chosen spans span so_far.0,
  λ mark. ap (λ set. contains_by (same_mark mark) set) is ∙ note.1 mark ∙ ap (λ b. list_any (is_mark_of mark) (cond b (chosen ++ span ∷ []) chosen)) is_none,
)

-- nor does a span of another trace
pub passed_by : {S : Type 0} (trace : List ℕ) (marks kept : HashSet Mark S) (chosen spans : List Span) (span : Span) → (span.trace ≡ trace → false ≡ true) → AreChosen trace marks chosen spans → kept ≡ marks → AreChosen trace kept chosen (spans ++ span ∷ [])
passed_by trace marks kept chosen spans span other so_far is = (
  sym (first_fails (bytes_eq span.trace trace) (not (is_repeated chosen span)) (chosen ++ span ∷ []) chosen (false_from_ne_true _ (λ e. false≢true (other ((bytes_eq-Decides span.trace trace).0 e))))) ∙ stepped trace chosen spans span so_far.0,
  λ mark. ap (λ set. contains_by (same_mark mark) set) is ∙ so_far.1 mark,
)
