-- Parents are spans of the trace.
use Rattle.std.proofs.Common.{◌≡◌, ℕ, suc, zero, ◌+◌, ◌<◌, List, [], ◌∷◌, ◌++◌, Bool, true, false, cond, get_or, length, map, Option, Some, None, refl, sym, ap, ◌∙◌, subst, arith, ℤ}
use Rattle.std.specs.Prelude.{◌==◌, All, nat_eq, option_and_then, option_map, slice_get, unwrap_or}
use Rattle.std.specs.List.{list_any, position_from, range_with_len}
use Rattle.std.proofs.lemmas.List.Elements.{All-cons, All-get_or, All-nil, All-push}
use Rattle.std.proofs.lemmas.Option.{none-some, same_Some, slice_get-get_or, slice_get-map, slice_get_within}
use Rattle.trace_spans.specs.declared.span.Span.{Span}
use Rattle.trace_relations.specs.declared.as_told.AsTold.{AsTold}
use Rattle.trace_relations.specs.declared.hosts.Host.{Host}
use Rattle.trace_relations.specs.declared.moment.Interval.{Interval}
use Rattle.trace_relations.specs.Ancestry.{is_first_of_circle, known, parent_at, parent_without_circles, without_circles}
use Rattle.trace_relations.specs.Attempts.{Attempts}
use Rattle.trace_relations.specs.ByStart.{AreByStart, AreInTurn}
use Rattle.trace_relations.specs.GivenUp.{Called}
use Rattle.trace_relations.specs.Hosts.{hosts_of}
use Rattle.trace_relations.specs.KeptAttempts.{value_at}
use Rattle.trace_relations.specs.Parents.{all_references, other_place, place_of, references_from, references_of, unless_same, with_found, with_meant}
use Rattle.trace_relations.specs.Relations.{PlainRelations, given_up_of, parent_meant, parents_of, relations_with, tried_of}
use Rattle.trace_relations.specs.Waits.{waiting_parents}
use Rattle.trace_relations.proofs.Turns.{in_turn, place_among}
use mathlib.Core.Path.{fun_ext}

abbrev IsBelow : ℕ → ℕ → Type 0
IsBelow n place = place < n

position_below : {X : Type 0} (p : X → Bool) (i : ℕ) (xs : List X) (k : ℕ) → position_from p i xs ≡ Some k → k < i + length xs
position_below p i [] k found = absurd (none-some k found)
position_below p i (x ∷ xs) k found = by_test (p x) found (position_below p (i + 1) xs k)
  where
    by_test : (b : Bool) → cond b (Some i) (position_from p (i + 1) xs) ≡ Some k → (position_from p (i + 1) xs ≡ Some k → k < i + 1 + length xs) → k < i + suc (length xs)
    by_test true here again = let same : i ≡ k = same_Some i k here in omega arith
    by_test false later again = let lt : k < i + 1 + length xs = again later in omega arith

unless_below : (n place : ℕ) (found : Option ℕ) (k : ℕ) → ((j : ℕ) → found ≡ Some j → j < n) → option_and_then (unless_same place) found ≡ Some k → k < n
unless_below n place None k below is = absurd (none-some k is)
unless_below n place (Some j) k below is = unless (j == place) is
  where
    unless : (b : Bool) → cond b None (Some j) ≡ Some k → k < n
    unless true none = absurd (none-some k none)
    unless false some = let lt : j < n = below j refl in let same : j ≡ k = same_Some j k some in omega arith

other_below : (spans : List Span) (place : ℕ) (id : List ℕ) (k : ℕ) → other_place spans place id ≡ Some k → k < length spans
other_below spans place id k is = unless_below (length spans) place (place_of spans id) k (λ j found. let lt : j < 0 + length spans = position_below _ 0 spans j found in omega arith) is

one_below : (n : ℕ) (met : List ℕ) (place : ℕ) (b : Bool) → All (IsBelow n) met → place < n → All (IsBelow n) (cond b met (met ++ place ∷ []))
one_below n met place true all lt = all
one_below n met place false all lt = All-push (IsBelow n) met place all lt

found_below : (n : ℕ) (met : List ℕ) (found : Option ℕ) → ((k : ℕ) → found ≡ Some k → k < n) → All (IsBelow n) met → All (IsBelow n) (with_found met found)
found_below n met None below all = all
found_below n met (Some place) below all = one_below n met place (list_any (nat_eq place) met) all (below place refl)

meant_below : (spans : List Span) (place : ℕ) (met : List ℕ) (ids : List (List ℕ)) → All (IsBelow (length spans)) met → All (IsBelow (length spans)) (with_meant spans place met ids)
meant_below spans place met [] all = all
meant_below spans place met (id ∷ ids) all =
    meant_below spans place (with_found met (other_place spans place id)) ids (found_below (length spans) met (other_place spans place id) (λ k is. other_below spans place id k is) all)

abbrev AreMeant : ℕ → List ℕ × Bool → Type 0
AreMeant n references = All (IsBelow n) references.0

references_below : (spans : List Span) (i : ℕ) (rest : List Span) → All (AreMeant (length spans)) (references_from spans i rest)
references_below spans i [] = All-nil (AreMeant (length spans))
references_below spans i (span ∷ rest) =
    All-cons (AreMeant (length spans)) (references_of spans i span) (references_from spans (i + 1) rest)
    (meant_below spans i (with_meant spans i [] span.parents) span.links (meant_below spans i [] span.parents (All-nil (IsBelow (length spans))))) (references_below spans (i + 1) rest)

get_all : {X : Type 0} (P : X → Type 0) (xs : List X) (k : ℕ) (x : X) → All P xs → slice_get xs k ≡ Some x → P x
get_all P xs k x all is =
    let within : k < length xs = slice_get_within xs k x is in
    subst P (same_Some (get_or xs k x) x (sym (slice_get-get_or xs k x within) ∙ is)) (All-get_or P xs k x within all)

known_meant : (n : ℕ) (references : List (List ℕ × Bool)) (at : Option (List ℕ × Bool)) (k parent : ℕ) → slice_get references k ≡ at → All (AreMeant n) references → known (option_map parent_meant at) ≡ Some parent → parent < n
known_meant n references None k parent here all is = absurd (none-some parent is)
known_meant n references (Some those) k parent here all is = get_all (IsBelow n) those.0 0 parent (get_all (AreMeant n) references k those all here) is

meant_within : (spans : List Span) (place parent : ℕ) → parent_at (map parent_meant (all_references spans)) place ≡ Some parent → parent < length spans
meant_within spans place parent is =
    known_meant (length spans) (all_references spans) (slice_get (all_references spans) place) place parent refl (references_below spans 0 spans)
    (ap known (sym (slice_get-map parent_meant (all_references spans) place)) ∙ is)

-- ---- without circles

range_get : (a n k x : ℕ) → slice_get (range_with_len a n) k ≡ Some x → x ≡ a + k
range_get a zero k x is = absurd (none-some x is)
range_get a (suc n) zero x is = let same : a ≡ x = same_Some a x is in omega arith
range_get a (suc n) (suc k) x is = let later : x ≡ a + 1 + k = range_get (a + 1) n k x is in omega arith

unless_first : (b : Bool) (o : Option ℕ) (x : ℕ) → cond b None o ≡ Some x → o ≡ Some x
unless_first true o x is = absurd (none-some x is)
unless_first false o x is = is

kept_parent : (intervals : List Interval) (parents : List (Option ℕ)) (at : Option ℕ) (place parent : ℕ) → slice_get (range_with_len 0 (length parents)) place ≡ at → known (option_map (parent_without_circles intervals parents) at) ≡ Some parent → parent_at parents place ≡ Some parent
kept_parent intervals parents None place parent here is = absurd (none-some parent is)
kept_parent intervals parents (Some other) place parent here is =
    let same : other ≡ place = omega (arith, range_get 0 (length parents) place other here) in
    ap (parent_at parents) (sym same) ∙ unless_first (is_first_of_circle intervals parents other) (parent_at parents other) parent is

parent_kept : (intervals : List Interval) (parents : List (Option ℕ)) (place parent : ℕ) → parent_at (without_circles intervals parents) place ≡ Some parent → parent_at parents place ≡ Some parent
parent_kept intervals parents place parent is =
    kept_parent intervals parents (slice_get (range_with_len 0 (length parents)) place) place parent refl (ap known (sym (slice_get-map (parent_without_circles intervals parents) (range_with_len 0 (length parents)) place)) ∙ is)

pub parents_are_spans : (spans : List Span) (intervals : List Interval) (place parent : ℕ) → parent_at (parents_of spans intervals) place ≡ Some parent → parent < length spans
parents_are_spans spans intervals place parent is = meant_within spans place parent (parent_kept intervals (map parent_meant (all_references spans)) place parent is)

-- ---- all relations

made : ℤ → List Interval → List (List ℕ × Bool) → List ℕ → List (Option ℕ) → List Host → List (Option ℕ) → Attempts → List (Option ℕ) → PlainRelations
made origin intervals references order parents hosts waiting attempts given_up = record {
  origin = origin;
  intervals = intervals;
  references = references;
  order = order;
  parents = parents;
  hosts = hosts;
  waiting = waiting;
  attempts = attempts;
  given_up = given_up;
}

called_made : List Span → List Interval → List (List ℕ × Bool) → List (Option ℕ) → List (Option ℕ) → (ℕ → Option ℕ) → Called
called_made spans intervals references parents waiting next = record { spans = spans; intervals = intervals; references = references; parents = parents; waiting = waiting; next = next }

-- what was found one after the other
pub record AreRelated (as_told : AsTold) (spans : List Span) (intervals : List Interval) (references : List (List ℕ × Bool)) (order : List ℕ) (parents : List (Option ℕ)) (hosts : List Host) (waiting : List (Option ℕ)) (attempts : Attempts) (next : ℕ → Option ℕ) (given_up : List (Option ℕ)) : Type 0 where
  pub references_are : references ≡ all_references spans
  pub parents_are : parents ≡ without_circles intervals (map parent_meant references)
  pub hosts_are : hosts ≡ hosts_of intervals parents
  pub waiting_are : waiting ≡ waiting_parents spans intervals references parents
  pub attempts_are : attempts ≡ tried_of as_told spans intervals order hosts waiting
  pub next_is : next ≡ attempts.next
  pub given_up_are : given_up ≡ given_up_of as_told spans order (record { spans = spans; intervals = intervals; references = references; parents = parents; waiting = waiting; next = next })

pub related_is : (as_told : AsTold) (spans : List Span) (origin : ℤ) (intervals : List Interval) (references : List (List ℕ × Bool)) (order : List ℕ) (parents : List (Option ℕ)) (hosts : List Host) (waiting : List (Option ℕ)) (attempts : Attempts) (next : ℕ → Option ℕ) (given_up : List (Option ℕ))
    → AreRelated as_told spans intervals references order parents hosts waiting attempts next given_up
    → ◌≡◌ {A = PlainRelations} (record { origin = origin; intervals = intervals; references = references; order = order; parents = parents; hosts = hosts; waiting = waiting; attempts = attempts; given_up = given_up }) (relations_with as_told spans origin intervals order)
unfolding made called_made
related_is as_told spans origin intervals references order parents hosts waiting attempts next given_up are =
    let p : parents ≡ parents_of spans intervals = are.parents_are ∙ ap (λ those. without_circles intervals (map parent_meant those)) are.references_are in
    let h : hosts ≡ hosts_of intervals (parents_of spans intervals) = are.hosts_are ∙ ap (hosts_of intervals) p in
    let w : waiting ≡ waiting_parents spans intervals (all_references spans) (parents_of spans intervals) =
    are.waiting_are ∙ ap (λ those. waiting_parents spans intervals those parents) are.references_are ∙ ap (waiting_parents spans intervals (all_references spans)) p in
    let a : attempts ≡ tried_of as_told spans intervals order (hosts_of intervals (parents_of spans intervals)) (waiting_parents spans intervals (all_references spans) (parents_of spans intervals)) =
    are.attempts_are ∙ ap (λ those. tried_of as_told spans intervals order those waiting) h ∙ ap (tried_of as_told spans intervals order (hosts_of intervals (parents_of spans intervals))) w in
    let n : next ≡ (tried_of as_told spans intervals order (hosts_of intervals (parents_of spans intervals)) (waiting_parents spans intervals (all_references spans) (parents_of spans intervals))).next =
    are.next_is ∙ ap (λ (those : Attempts). those.next) a in
    let g =
    are.given_up_are
    ∙ ap (λ those. given_up_of as_told spans order (called_made spans intervals those parents waiting next)) are.references_are
    ∙ ap (λ those. given_up_of as_told spans order (called_made spans intervals (all_references spans) those waiting next)) p
    ∙ ap (λ those. given_up_of as_told spans order (called_made spans intervals (all_references spans) (parents_of spans intervals) those next)) w
    ∙ ap (λ those. given_up_of as_told spans order (called_made spans intervals (all_references spans) (parents_of spans intervals) (waiting_parents spans intervals (all_references spans) (parents_of spans intervals)) those)) n in
    ap (λ those. made origin intervals those order parents hosts waiting attempts given_up) are.references_are
    ∙ ap (λ those. made origin intervals (all_references spans) order those hosts waiting attempts given_up) p
    ∙ ap (λ those. made origin intervals (all_references spans) order (parents_of spans intervals) those waiting attempts given_up) h
    ∙ ap (λ those. made origin intervals (all_references spans) order (parents_of spans intervals) (hosts_of intervals (parents_of spans intervals)) those attempts given_up) w
    ∙ ap (λ those. made origin intervals (all_references spans) order (parents_of spans intervals) (hosts_of intervals (parents_of spans intervals)) (waiting_parents spans intervals (all_references spans) (parents_of spans intervals)) those given_up) a
    ∙ ap (λ those. made origin intervals (all_references spans) order (parents_of spans intervals) (hosts_of intervals (parents_of spans intervals)) (waiting_parents spans intervals (all_references spans) (parents_of spans intervals))
    (tried_of as_told spans intervals order (hosts_of intervals (parents_of spans intervals)) (waiting_parents spans intervals (all_references spans) (parents_of spans intervals))) those) g

known_or : (o : Option (Option ℕ)) → known o ≡ unwrap_or o None
known_or None = refl
known_or (Some place) = refl

-- which call tries each again, as it is kept
pub next_kept : (next : List (Option ℕ)) → parent_at next ≡ value_at next (λ place. None)
next_kept next = fun_ext (λ place. known_or (slice_get next place))

-- ---- the same of lists that are seen as slices

pub hosts_seen : (i seen_i : List Interval) (p seen_p : List (Option ℕ)) (hosts : List Host) → seen_i ≡ i → seen_p ≡ p → hosts ≡ hosts_of seen_i seen_p → hosts ≡ hosts_of i p
hosts_seen i seen_i p seen_p hosts e f is = is ∙ ap (λ those. hosts_of those seen_p) e ∙ ap (hosts_of i) f

pub waiting_seen : (spans : List Span) (i seen_i : List Interval) (r seen_r : List (List ℕ × Bool)) (p seen_p waiting : List (Option ℕ)) → seen_i ≡ i → seen_r ≡ r → seen_p ≡ p → waiting ≡ waiting_parents spans seen_i seen_r seen_p → waiting ≡ waiting_parents spans i r p
waiting_seen spans i seen_i r seen_r p seen_p waiting e f g is =
    is ∙ ap (λ those. waiting_parents spans those seen_r seen_p) e ∙ ap (λ those. waiting_parents spans i those seen_p) f ∙ ap (waiting_parents spans i r) g

pub tried_seen : (as_told : AsTold) (spans : List Span) (i seen_i : List Interval) (o seen_o : List ℕ) (h seen_h : List Host) (w seen_w : List (Option ℕ)) (attempts : Attempts) → seen_i ≡ i → seen_o ≡ o → seen_h ≡ h → seen_w ≡ w
    → attempts ≡ tried_of as_told spans seen_i seen_o seen_h seen_w → attempts ≡ tried_of as_told spans i o h w
tried_seen as_told spans i seen_i o seen_o h seen_h w seen_w attempts e f g k is =
    is ∙ ap (λ those. tried_of as_told spans those seen_o seen_h seen_w) e ∙ ap (λ those. tried_of as_told spans i those seen_h seen_w) f ∙ ap (λ those. tried_of as_told spans i o those seen_w) g ∙ ap (tried_of as_told spans i o h) k

pub given_up_seen : (as_told : AsTold) (spans : List Span) (o seen_o : List ℕ) (i seen_i : List Interval) (r seen_r : List (List ℕ × Bool)) (p seen_p w seen_w n seen_n given_up : List (Option ℕ)) → seen_o ≡ o → seen_i ≡ i → seen_r ≡ r → seen_p ≡ p → seen_w ≡ w → seen_n ≡ n
    → given_up ≡ given_up_of as_told spans seen_o (record { spans = spans; intervals = seen_i; references = seen_r; parents = seen_p; waiting = seen_w; next = parent_at seen_n })
    → given_up ≡ given_up_of as_told spans o (record { spans = spans; intervals = i; references = r; parents = p; waiting = w; next = parent_at n })
unfolding called_made
given_up_seen as_told spans o seen_o i seen_i r seen_r p seen_p w seen_w n seen_n given_up e f g h k l is =
    is
    ∙ ap (λ those. given_up_of as_told spans those (called_made spans seen_i seen_r seen_p seen_w (parent_at seen_n))) e
    ∙ ap (λ those. given_up_of as_told spans o (called_made spans those seen_r seen_p seen_w (parent_at seen_n))) f
    ∙ ap (λ those. given_up_of as_told spans o (called_made spans i those seen_p seen_w (parent_at seen_n))) g
    ∙ ap (λ those. given_up_of as_told spans o (called_made spans i r those seen_w (parent_at seen_n))) h
    ∙ ap (λ those. given_up_of as_told spans o (called_made spans i r p those (parent_at seen_n))) k
    ∙ ap (λ those. given_up_of as_told spans o (called_made spans i r p w (parent_at those))) l

pub parents_seen : (i seen_i : List Interval) (r seen_r : List (List ℕ × Bool)) (named seen_named parents : List (Option ℕ)) → seen_r ≡ r → seen_i ≡ i → seen_named ≡ named → named ≡ map parent_meant seen_r → parents ≡ without_circles seen_i seen_named → parents ≡ without_circles i (map parent_meant r)
parents_seen i seen_i r seen_r named seen_named parents e f g named_is is =
    is ∙ ap (λ those. without_circles those seen_named) f ∙ ap (without_circles i) (g ∙ named_is ∙ ap (map parent_meant) e)

pub in_turn_seen : (i seen_i : List Interval) (o seen_o : List ℕ) → seen_i ≡ i → seen_o ≡ o → AreByStart i o → AreInTurn seen_i seen_o
in_turn_seen i seen_i o seen_o e f by = subst (λ those. AreInTurn those seen_o) (sym e) (subst (AreInTurn i) (sym f) (in_turn i o by))

pub places_seen : (spans : List Span) (i : List Interval) (o seen_o : List ℕ) → seen_o ≡ o → AreByStart i o → length i ≡ length spans → (place : ℕ) → place < length spans → list_any (nat_eq place) seen_o ≡ true
places_seen spans i o seen_o f by long place lt = ap (list_any (nat_eq place)) f ∙ place_among i o by place (omega arith)

pub spans_seen : (spans : List Span) (i : List Interval) (r : List (List ℕ × Bool)) (parents seen_parents : List (Option ℕ)) → r ≡ all_references spans → seen_parents ≡ parents → parents ≡ without_circles i (map parent_meant r)
    → (place caller : ℕ) → parent_at seen_parents place ≡ Some caller → caller < length spans
spans_seen spans i r parents seen_parents meant_are seen is place caller at =
    parents_are_spans spans i place caller (ap (λ those. parent_at those place) (sym (seen ∙ is ∙ ap (λ those. without_circles i (map parent_meant those)) meant_are)) ∙ at)
