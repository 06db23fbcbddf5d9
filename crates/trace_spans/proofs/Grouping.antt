-- The spans of a file by their traces.
use Rattle.std.proofs.Common.{◌≡◌, ℕ, suc, ◌<◌, List, [], ◌∷◌, ◌++◌, append_assoc, length, get_or, set, map, Bool, true, false, cond, Option, Some, None, Ok, Err, refl, sym, ap, subst, ◌∙◌, arith}
use Rattle.std.specs.Prelude.{◌==◌, ◌&&◌, ◌||◌, fold, not, option_map}
use Rattle.std.specs.HashMap.{get_by_text}
use Rattle.std.specs.List.{list_any}
use Rattle.std.specs.Str.{bytes_eq}
use Rattle.std.proofs.lemmas.Bool.{false_from_ne_true, false≢true}
use Rattle.std.proofs.lemmas.Bool.Decides.{nat_tests}
use Rattle.std.proofs.lemmas.List.{append-nil, length-map, map-append}
use Rattle.std.proofs.lemmas.List.Elements.{filter-append}
use Rattle.std.proofs.lemmas.List.Folds.{list_any-append}
use Rattle.std.proofs.lemmas.List.Sums.{fold_push}
use Rattle.std.proofs.lemmas.Slice.Eq.{bytes_eq-Decides}
use Rattle.trace_spans.specs.declared.span.Span.{Span}
use Rattle.trace_spans.specs.declared.trace.Trace.{Trace}
use Rattle.trace_spans.specs.declared.traces.Group.{Group}
use Rattle.trace_spans.specs.declared.traces.Groups.{Groups}
use Rattle.trace_spans.specs.declared.told.Told.{Told}
use Rattle.trace_spans.specs.Choice.{is_among, is_repeated, spans_of_trace, with_span}
use Rattle.trace_spans.specs.Groups.{AreGroups, group_of, place_in, spans_with, trace_of}
use Rattle.trace_spans.specs.declared.fault.Fault.TheVariants.{NoTrace}
use Rattle.trace_spans.specs.Members.{then_on}
use Rattle.trace_spans.specs.Spans.{told_by_bytes}
use Rattle.trace_spans.specs.Traces.{ids_of, spans_in, traces_of, traces_of_bytes, unless_none, with_id}

abbrev pub with_spans : List ℕ → List Span → Group
with_spans id spans = record { trace = id; spans = spans }

abbrev pub trace_with : Bool → List ℕ → List Span → Trace
trace_with is_cut id spans = record { id = id; spans = spans; is_cut = is_cut }

same_bytes : (a b : List ℕ) → bytes_eq a b ≡ true → a ≡ b
same_bytes a b e = (bytes_eq-Decides a b).0 e

itself : (a : List ℕ) → bytes_eq a a ≡ true
itself a = (bytes_eq-Decides a a).1 refl

turned : (a b : List ℕ) → bytes_eq a b ≡ false → bytes_eq b a ≡ false
turned a b e = false_from_ne_true _ (λ is. false≢true (sym e ∙ (bytes_eq-Decides a b).1 (sym (same_bytes b a is))))

or_false : (b : Bool) → (b || false) ≡ b
or_false true = refl
or_false false = refl

both_false : (a b : Bool) → (a || b) ≡ false → (a ≡ false) × (b ≡ false)
both_false true b e = absurd (false≢true (sym e))
both_false false b e = (refl, e)

regrouped : (a b c : Bool) → ((a || b) || c) ≡ (a || (b || c))
regrouped true b c = refl
regrouped false b c = refl

-- where an id is found
data Found (b : Bool) (o : Option ℕ) (p : ℕ) : Type 0 where
  here : b ≡ true → p ≡ 0 → Found b o p
  later : (q : ℕ) → b ≡ false → o ≡ Some q → p ≡ suc q → Found b o p

found_by : (b : Bool) (o : Option ℕ) (p : ℕ) → cond b (Some 0) (option_map suc o) ≡ Some p → Found b o p
found_by true o p e = here refl cc
found_by false None p e = absurd cc
found_by false (Some q) p e = later q refl refl cc

none_by : (b : Bool) (o : Option ℕ) → cond b (Some 0) (option_map suc o) ≡ None → (b ≡ false) × (o ≡ None)
none_by true o e = absurd cc
none_by false None e = (refl, refl)
none_by false (Some q) e = absurd cc

-- an id that is found is among them, and no other
pub among : (ids : List (List ℕ)) (id : List ℕ) (p : ℕ) → place_in ids id ≡ Some p → is_among ids id ≡ true
unfolding is_among
among [] id p e = absurd cc
among (own ∷ ids) id p e = elim (found_by (bytes_eq own id) (place_in ids id) p e) [
  | here is _ ↦ ap (λ b. b || is_among ids id) is
  | later q is at _ ↦ ap (λ b. b || is_among ids id) is ∙ among ids id q at
]

pub not_among : (ids : List (List ℕ)) (id : List ℕ) → place_in ids id ≡ None → is_among ids id ≡ false
unfolding is_among
not_among [] id e = refl
not_among (own ∷ ids) id e =
    let no = none_by (bytes_eq own id) (place_in ids id) e in
    ap (λ b. b || is_among ids id) no.0 ∙ not_among ids id no.1

-- one more id
placed_by : (t c : Bool) (n : ℕ) (o m : Option ℕ) → cond t (Some n) o ≡ m → (t ≡ true → c ≡ false) → cond t (Some (suc n)) (cond c (Some 0) (option_map suc o)) ≡ cond c (Some 0) (option_map suc m)
placed_by true c n o m e h = rw (h refl, ← e) refl
placed_by false c n o m e h = rw (← e) refl

pub place_in_more : (ids : List (List ℕ)) (id wanted : List ℕ) → place_in ids id ≡ None → cond (bytes_eq id wanted) (Some (length ids)) (place_in ids wanted) ≡ place_in (ids ++ id ∷ []) wanted
place_in_more [] id wanted e = refl
place_in_more (own ∷ ids) id wanted e =
    let no = none_by (bytes_eq own id) (place_in ids id) e in
    placed_by (bytes_eq id wanted) (bytes_eq own wanted) (length ids) (place_in ids wanted) (place_in (ids ++ id ∷ []) wanted) (place_in_more ids id wanted no.1)
    (λ is. ap (bytes_eq own) (sym (same_bytes id wanted is)) ∙ no.0)

-- the ids are apart
abbrev AreApart : List (List ℕ) → Type 0
AreApart [] = Unit {0}
AreApart (id ∷ ids) = (is_among ids id ≡ false) × AreApart ids

apart_more : (ids : List (List ℕ)) (id : List ℕ) → AreApart ids → is_among ids id ≡ false → AreApart (ids ++ id ∷ [])
unfolding is_among
apart_more [] id are none = (refl, tt)
apart_more (own ∷ ids) id are none =
    let no = both_false (bytes_eq own id) (is_among ids id) none in (
      list_any-append (λ text. bytes_eq text own) ids (id ∷ []) ∙ ap (λ b. b || (bytes_eq id own || false)) are.0 ∙ or_false (bytes_eq id own) ∙ turned own id no.0,
      apart_more ids id are.1 no.1,
    )

apart_with : (b : Bool) (ids : List (List ℕ)) (id : List ℕ) → is_among ids id ≡ b → AreApart ids → AreApart (cond b ids (ids ++ id ∷ []))
apart_with true ids id e are = are
apart_with false ids id e are = apart_more ids id are e

apart_all : (ids : List (List ℕ)) (spans : List Span) → AreApart ids → AreApart (fold (λ so_far span. with_id so_far span.trace) ids spans)
apart_all ids [] are = are
apart_all ids (span ∷ spans) are = apart_all (with_id ids span.trace) spans (apart_with (is_among ids span.trace) ids span.trace refl are)

are_apart : (spans : List Span) → AreApart (ids_of spans)
unfolding ids_of
are_apart spans = apart_all [] spans tt

-- one more span
pub ids_of_more : (spans : List Span) (span : Span) → ids_of (spans ++ span ∷ []) ≡ with_id (ids_of spans) span.trace
unfolding ids_of
ids_of_more spans span = fold_push (λ so_far other. with_id so_far other.trace) [] spans span

among_more : (b : Bool) (ids : List (List ℕ)) (own id : List ℕ) → is_among ids own ≡ b → is_among (cond b ids (ids ++ own ∷ [])) id ≡ (is_among ids id || bytes_eq own id)
unfolding is_among
among_more false ids own id e = list_any-append (λ text. bytes_eq text id) ids (own ∷ []) ∙ ap (λ b. is_among ids id || b) (or_false (bytes_eq own id))
among_more true ids own id e = there_too (bytes_eq own id) (is_among ids id) (λ is. ap (is_among ids) (sym (same_bytes own id is)) ∙ e)
  where
    there_too : (c a : Bool) → (c ≡ true → a ≡ true) → a ≡ (a || c)
    there_too true true h = refl
    there_too true false h = h refl
    there_too false true h = refl
    there_too false false h = refl

among_all : (ids : List (List ℕ)) (spans : List Span) (id : List ℕ) → is_among (fold (λ so_far span. with_id so_far span.trace) ids spans) id ≡ (is_among ids id || list_any (λ span. bytes_eq span.trace id) spans)
among_all ids [] id = sym (or_false (is_among ids id))
among_all ids (span ∷ spans) id =
    among_all (with_id ids span.trace) spans id
    ∙ ap (λ b. b || list_any (λ other. bytes_eq other.trace id) spans) (among_more (is_among ids span.trace) ids span.trace id refl)
    ∙ regrouped (is_among ids id) (bytes_eq span.trace id) (list_any (λ other. bytes_eq other.trace id) spans)

none_with : (spans : List Span) (id : List ℕ) → list_any (λ span. bytes_eq span.trace id) spans ≡ false → spans_with id spans ≡ []
none_with [] id e = refl
none_with (span ∷ spans) id e =
    let no = both_false (bytes_eq span.trace id) (list_any (λ other. bytes_eq other.trace id) spans) e in
    ap (λ b. cond b (span ∷ spans_with id spans) (spans_with id spans)) no.0 ∙ none_with spans id no.1

-- a trace that is none of the ids has no spans
pub no_spans : (spans : List Span) (id : List ℕ) → is_among (ids_of spans) id ≡ false → spans_with id spans ≡ []
unfolding ids_of is_among
no_spans spans id e = none_with spans id (sym (among_all [] spans id) ∙ e)

others_stay : (id : List ℕ) (spans : List Span) (span : Span) → bytes_eq span.trace id ≡ false → group_of (spans ++ span ∷ []) id ≡ group_of spans id
others_stay id spans span e = ap (with_spans id) (filter-append (λ other. bytes_eq other.trace id) spans (span ∷ []) ∙ ap (λ b. spans_with id spans ++ cond b (span ∷ []) []) e ∙ append-nil (spans_with id spans))

own_grows : (spans : List Span) (span : Span) → group_of (spans ++ span ∷ []) span.trace ≡ with_spans span.trace (spans_with span.trace spans ++ span ∷ [])
own_grows spans span = ap (with_spans span.trace) (filter-append (λ other. bytes_eq other.trace span.trace) spans (span ∷ []) ∙ ap (λ b. spans_with span.trace spans ++ cond b (span ∷ []) []) (itself span.trace))

all_stay : (ids : List (List ℕ)) (spans : List Span) (span : Span) → is_among ids span.trace ≡ false → map (group_of (spans ++ span ∷ [])) ids ≡ map (group_of spans) ids
unfolding is_among
all_stay [] spans span e = refl
all_stay (id ∷ ids) spans span e =
    let no = both_false (bytes_eq id span.trace) (is_among ids span.trace) e in
    ap (λ group. group ∷ map (group_of (spans ++ span ∷ [])) ids) (others_stay id spans span (turned id span.trace no.0)) ∙ ap (λ groups. group_of spans id ∷ groups) (all_stay ids spans span no.1)

one_grows : (ids : List (List ℕ)) (spans : List Span) (span : Span) (p : ℕ) → AreApart ids → place_in ids span.trace ≡ Some p → map (group_of (spans ++ span ∷ [])) ids ≡ set (map (group_of spans) ids) p (group_of (spans ++ span ∷ []) span.trace)
one_grows [] spans span p are e = absurd cc
one_grows (id ∷ ids) spans span p are e = elim (found_by (bytes_eq id span.trace) (place_in ids span.trace) p e) [
  | here is at ↦
      ap (λ own. group_of (spans ++ span ∷ []) own ∷ map (group_of (spans ++ span ∷ [])) ids) (same_bytes id span.trace is)
      ∙ ap (λ groups. group_of (spans ++ span ∷ []) span.trace ∷ groups) (all_stay ids spans span (ap (is_among ids) (sym (same_bytes id span.trace is)) ∙ are.0))
      ∙ ap (λ q. set (map (group_of spans) (id ∷ ids)) q (group_of (spans ++ span ∷ []) span.trace)) (sym at)
  | later q is found at ↦
      ap (λ group. group ∷ map (group_of (spans ++ span ∷ [])) ids) (others_stay id spans span (turned id span.trace is))
      ∙ ap (λ groups. group_of spans id ∷ groups) (one_grows ids spans span q are.1 found)
      ∙ ap (λ r. set (map (group_of spans) (id ∷ ids)) r (group_of (spans ++ span ∷ []) span.trace)) (sym at)
]

-- the group of one more span's trace grows by it
pub grown : (ids : List (List ℕ)) (spans : List Span) (span : Span) (p : ℕ) → ids ≡ ids_of (spans ++ span ∷ []) → place_in ids span.trace ≡ Some p → map (group_of (spans ++ span ∷ [])) ids ≡ set (map (group_of spans) ids) p (with_spans span.trace (spans_with span.trace spans ++ span ∷ []))
grown ids spans span p is at =
    one_grows ids spans span p (subst AreApart (sym is) (are_apart (spans ++ span ∷ []))) at
    ∙ ap (set (map (group_of spans) ids) p) (own_grows spans span)

-- the spans that count are among those of the trace
chosen_by : (b : Bool) (id : List ℕ) (earlier kept spans : List Span) (span : Span) → bytes_eq span.trace id ≡ b → ((more : List Span) → fold (with_span id) more kept ≡ fold (with_span id) more spans) → fold (with_span id) earlier (cond b (span ∷ kept) kept) ≡ fold (with_span id) (with_span id earlier span) spans
chosen_by true id earlier kept spans span e h = h (with_span id earlier span)
chosen_by false id earlier kept spans span e h = h earlier ∙ ap (λ so_far. fold (with_span id) so_far spans) (sym (ap (λ b. cond (b && not (is_repeated earlier span)) (earlier ++ span ∷ []) earlier) e))

chosen_same : (id : List ℕ) (earlier spans : List Span) → fold (with_span id) earlier (spans_with id spans) ≡ fold (with_span id) earlier spans
chosen_same id earlier [] = refl
chosen_same id earlier (span ∷ spans) = chosen_by (bytes_eq span.trace id) id earlier (spans_with id spans) spans span refl (λ more. chosen_same id more spans)

counted : (id : List ℕ) (spans : List Span) → spans_of_trace id (spans_with id spans) ≡ spans_of_trace id spans
unfolding spans_of_trace
counted id spans = chosen_same id [] spans

each_counted : (is_cut : Bool) (spans : List Span) (ids : List (List ℕ)) → map (trace_of is_cut) (map (group_of spans) ids) ≡ map (λ id. trace_with is_cut id (spans_of_trace id spans)) ids
each_counted is_cut spans [] = refl
each_counted is_cut spans (id ∷ ids) =
    ap (λ all. trace_with is_cut id all ∷ map (trace_of is_cut) (map (group_of spans) ids)) (counted id spans)
    ∙ ap (λ traces. trace_with is_cut id (spans_of_trace id spans) ∷ traces) (each_counted is_cut spans ids)

-- the traces of the groups are those that were told
pub all_counted : (told : Told) → map (trace_of told.is_cut) (map (group_of told.spans) (ids_of told.spans)) ≡ traces_of told
all_counted told = each_counted told.is_cut told.spans (ids_of told.spans)

-- a trace that is there keeps its place
pub stays : (groups : Groups) (ids : List (List ℕ)) (spans : List Span) (id : List ℕ) (p : ℕ) → AreGroups groups ids spans → place_in ids id ≡ Some p → AreGroups groups (with_id ids id) spans × (place_in (with_id ids id) id ≡ Some p)
stays groups ids spans id p are at =
    let same : with_id ids id ≡ ids = ap (λ b. cond b ids (ids ++ id ∷ [])) (among ids id p at) in
    (subst (λ (own : List (List ℕ)). AreGroups groups own spans) (sym same) are, ap (λ own. place_in own id) same ∙ at)

-- one that is not yet there gets the next
pub begins : (groups now : Groups) (spans : List Span) (id : List ℕ) (n : ℕ) → AreGroups groups (ids_of spans) spans → place_in (ids_of spans) id ≡ None → now.groups.items ≡ groups.groups.items ++ with_spans id [] ∷ [] → ((other : List ℕ) → get_by_text now.places other ≡ cond (bytes_eq id other) (Some n) (get_by_text groups.places other)) → n ≡ length groups.groups.items → AreGroups now (with_id (ids_of spans) id) spans × (place_in (with_id (ids_of spans) id) id ≡ Some n)
begins groups now spans id n are none added updates is =
    let no : is_among (ids_of spans) id ≡ false = not_among (ids_of spans) id none in
    let more : with_id (ids_of spans) id ≡ ids_of spans ++ id ∷ [] = ap (λ b. cond b (ids_of spans) (ids_of spans ++ id ∷ [])) no in
    let count : n ≡ length (ids_of spans) = is ∙ ap length are.0 ∙ length-map (ids_of spans) (group_of spans) in
    let items : now.groups.items ≡ map (group_of spans) (ids_of spans ++ id ∷ []) =
    added
    ∙ ap (λ all. all ++ with_spans id [] ∷ []) are.0
    ∙ ap (λ all. map (group_of spans) (ids_of spans) ++ with_spans id all ∷ []) (sym (no_spans spans id no))
    ∙ sym (map-append (group_of spans) (ids_of spans) (id ∷ [])) in
    let places : (other : List ℕ) → get_by_text now.places other ≡ place_in (ids_of spans ++ id ∷ []) other = λ other.
    updates other
    ∙ ap (cond (bytes_eq id other) (Some n)) (are.1 other)
    ∙ ap (λ k. cond (bytes_eq id other) (Some k) (place_in (ids_of spans) other)) count
    ∙ place_in_more (ids_of spans) id other none in
    let at : place_in (ids_of spans ++ id ∷ []) id ≡ Some n =
    sym (place_in_more (ids_of spans) id id none)
    ∙ ap (λ b. cond b (Some (length (ids_of spans))) (place_in (ids_of spans) id)) (itself id)
    ∙ ap Some (sym count) in
    (subst (λ (own : List (List ℕ)). AreGroups now own spans) (sym more) (items, places), ap (λ own. place_in own id) more ∙ at)

at_place : (ids : List (List ℕ)) (spans : List Span) (id : List ℕ) (p : ℕ) (default : Group) → place_in ids id ≡ Some p → (p < length ids) × (get_or (map (group_of spans) ids) p default ≡ group_of spans id)
at_place [] spans id p default e = absurd cc
at_place (own ∷ ids) spans id p default e = elim (found_by (bytes_eq own id) (place_in ids id) p e) [
  | here is at ↦ (omega arith, ap (λ q. get_or (map (group_of spans) (own ∷ ids)) q default) at ∙ ap (group_of spans) (same_bytes own id is))
  | later q is found at ↦
      let rest = at_place ids spans id q default found in
      (omega (arith, rest.0), ap (λ r. get_or (map (group_of spans) (own ∷ ids)) r default) at ∙ rest.1)
]

-- a span goes to those of its trace
pub one_more_span : (groups : Groups) (items : List Group) (spans : List Span) (span : Span) (p : ℕ) (group : Group) → AreGroups groups (with_id (ids_of spans) span.trace) spans → place_in (with_id (ids_of spans) span.trace) span.trace ≡ Some p → group ≡ get_or groups.groups.items p group → items ≡ set groups.groups.items p (record group { spans = group.spans ++ span ∷ [] }) → (items ≡ map (group_of (spans ++ span ∷ [])) (ids_of (spans ++ span ∷ []))) × ((id : List ℕ) → get_by_text groups.places id ≡ place_in (ids_of (spans ++ span ∷ [])) id)
one_more_span groups items spans span p group are at own added =
    let ids : with_id (ids_of spans) span.trace ≡ ids_of (spans ++ span ∷ []) = sym (ids_of_more spans span) in
    let is : group ≡ group_of spans span.trace = own ∙ ap (λ all. get_or all p group) are.0 ∙ (at_place (with_id (ids_of spans) span.trace) spans span.trace p group at).1 in
    let with_own : items ≡ map (group_of (spans ++ span ∷ [])) (with_id (ids_of spans) span.trace) =
    added
    ∙ ap (λ all. set all p (record group { spans = group.spans ++ span ∷ [] })) are.0
    ∙ ap (λ (own : Group). set (map (group_of spans) (with_id (ids_of spans) span.trace)) p (record own { spans = own.spans ++ span ∷ [] })) is
    ∙ sym (grown (with_id (ids_of spans) span.trace) spans span p ids at) in
    (with_own ∙ ap (map (group_of (spans ++ span ∷ []))) ids, λ id. are.1 id ∙ ap (λ own. place_in own id) ids)

-- the place of a trace is one of a group
pub below : (groups : Groups) (ids : List (List ℕ)) (spans : List Span) (id : List ℕ) (p : ℕ) → AreGroups groups ids spans → place_in ids id ≡ Some p → p < length groups.groups.items
below groups ids spans id p are at =
    let lt = (at_place ids spans id p (group_of spans id) at).0 in
    let long : length groups.groups.items ≡ length ids = ap length are.0 ∙ length-map ids (group_of spans) in
    omega (arith, lt, long)

-- what a file's traces come to
pub all_traces : (bytes : List ℕ) (told : Told) (traces : List Trace) → told_by_bytes bytes ≡ Ok told → traces ≡ traces_of told → traces_of_bytes bytes ≡ unless_none traces
unfolding traces_of_bytes
all_traces bytes told traces read is = ap (λ r. then_on r (λ all. unless_none (traces_of all))) read ∙ ap unless_none (sym is)

-- one part more
pub spans_in_more : (parts : List Trace) (part : Trace) → spans_in (parts ++ part ∷ []) ≡ spans_in parts ++ part.spans
spans_in_more [] part = append-nil part.spans
spans_in_more (own ∷ parts) part = ap (λ rest. own.spans ++ rest) (spans_in_more parts part) ∙ sym (append_assoc own.spans (spans_in parts) part.spans)

is_zero : (n : ℕ) → (n == 0) ≡ true → n ≡ 0
is_zero n h = grind (arith, nat_tests)

zero_is : (n : ℕ) → n ≡ 0 → (n == 0) ≡ true
zero_is n e = rw e refl

-- a file without traces
pub none_there : (traces : List Trace) (n : ℕ) → n ≡ length traces → (n == 0) ≡ true → unless_none traces ≡ Err NoTrace
none_there [] n long e = refl
none_there (trace ∷ traces) n long e = let none : n ≡ 0 = is_zero n e in absurd (omega arith)

-- and one with some
pub some_there : (traces : List Trace) (n : ℕ) → n ≡ length traces → (n == 0) ≡ false → unless_none traces ≡ Ok traces
some_there [] n long e = absurd (false≢true (sym e ∙ zero_is n long))
some_there (trace ∷ traces) n long e = refl

-- of lists that are empty
pub none_left : (spans : List Span) → length spans ≡ 0 → spans ≡ []
none_left [] e = refl
none_left (span ∷ spans) e = absurd (omega arith)

pub no_part_left : (parts : List Trace) → length parts ≡ 0 → parts ≡ []
no_part_left [] e = refl
no_part_left (part ∷ parts) e = absurd (omega arith)
