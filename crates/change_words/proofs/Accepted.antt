-- The graph takes the edits that changes make of it, and none of them moves a stage.
use Rattle.std.proofs.Common.{◌≡◌, ℕ, ◌+◌, List, [], ◌∷◌, ◌++◌, length, Bool, true, false, cond, Option, Some, None, Result, Ok, Err, refl, sym, ap, subst}
use Rattle.std.specs.List.{list_any}
use Rattle.std.specs.Prelude.{◌||◌, nat_eq, nat_lt}
use Rattle.std.proofs.lemmas.List.Folds.{list_any-append}
use Rattle.stage_graph.specs.declared.edit.Edit.{Edit}
use Rattle.stage_graph.specs.declared.edit.Edit.TheVariants.{SetEnds, SetTimes}
use Rattle.stage_graph.specs.declared.fault.Refusal.{Refusal}
use Rattle.stage_graph.specs.declared.fault.Refused.{Refused as RefusedEdit}
use Rattle.stage_graph.specs.declared.fault.ListSize.{ListSize as NotListed}
use Rattle.stage_graph.specs.declared.end.End.{End}
use Rattle.stage_graph.specs.declared.stage.Stage.{Stage}
use Rattle.stage_graph.specs.Changes.{changed, changed_from, moves, then_on as then_edit}
use Rattle.stage_graph.specs.EditLists.{edit_list}
use Rattle.stage_graph.specs.Edits.{edited}
use Rattle.stage_graph.specs.Plain.{PlainGraph, stage_named}
use Rattle.act_expr.specs.declared.outcome.Outcome.{Outcome}
use Rattle.change_words.specs.declared.assignment.TimeLimit.{TimeLimit}
use Rattle.change_words.specs.declared.change.Change.{Change}
use Rattle.change_words.specs.declared.fault.MakingFault.{MakingFault}
use Rattle.change_words.specs.Amounts.{amount_in}
use Rattle.change_words.specs.Changes.{sets_times}
use Rattle.change_words.specs.Making.{Made, edits_of, listed, listed_of, made_at, made_by, made_of, made_with, or_list_size, own_edits, own_edits_of, refused_after}
use Rattle.change_words.specs.OwnEdits.{ends_edits, ends_edits_of, moment_edits, moment_edits_of, outcome_edits, outcome_edits_of, own_before_ends, set_ends, times_edits}
use Rattle.change_words.specs.Results.{then_on}
use Rattle.change_words.specs.Timeouts.{limited}

-- ---- a step that went well

pub then_ok : {A B E : Type 0} (r : Result A E) (next : A → Result B E) (x : B) → then_on r next ≡ Ok x → (y : A) × (r ≡ Ok y) × (next y ≡ Ok x)
then_ok (Ok y) next x is = (y, refl, is)
then_ok (Err e) next x is = absurd (cc)

listed_ok : (r : Result (List Edit) NotListed) (edits : List Edit) → or_list_size r ≡ Ok edits → r ≡ Ok edits
listed_ok (Ok own) edits is = let same : own ≡ edits = cc in ap Ok same
listed_ok (Err e) edits is = cc

refused_ok : (before : ℕ) (r : Result PlainGraph RefusedEdit) (graph : PlainGraph) → refused_after before r ≡ Ok graph → r ≡ Ok graph
refused_ok before (Ok made) graph is = let same : made ≡ graph = cc in ap Ok same
refused_ok before (Err e) graph is = cc

list_ok : (b : Bool) (own edits : List Edit) (r : Result (List Edit) NotListed) → r ≡ cond b (Err (record {})) (Ok own) → r ≡ Ok edits → own ≡ edits
list_ok true own edits r made is = cc
list_ok false own edits r made is = cc

-- a list that is not too long is itself
pub listed_same : (own edits : List Edit) → listed own ≡ Ok edits → own ≡ edits
listed_same own edits is = list_ok (nat_eq (length own) 0 || nat_lt 64 (length own)) own edits (edit_list own) refl (listed_ok (edit_list own) edits is)

-- ---- the graph takes them

on_both : (i j : ℕ) (edits : List Edit) (made : PlainGraph) (answer : Result PlainGraph Refusal) → ((graph : PlainGraph) → changed_from (i + 1) edits graph ≡ Ok made → changed_from (j + 1) edits graph ≡ Ok made) → then_edit i answer (changed_from (i + 1) edits) ≡ Ok made → then_edit j answer (changed_from (j + 1) edits) ≡ Ok made
on_both i j edits made (Ok graph) more is = more graph is
on_both i j edits made (Err refusal) more is = cc

-- whether edits are taken does not depend on the index of the first
changed_anywhere : (i j : ℕ) (edits : List Edit) (graph made : PlainGraph) → changed_from i edits graph ≡ Ok made → changed_from j edits graph ≡ Ok made
changed_anywhere i j [] graph made is = is
changed_anywhere i j (edit ∷ edits) graph made is =
    on_both i j edits made (edited edit graph) (λ next more. changed_anywhere (i + 1) (j + 1) edits next made more) is

append_on : (i : ℕ) (front back : List Edit) (middle made : PlainGraph) (answer : Result PlainGraph Refusal) → ((graph : PlainGraph) → changed_from (i + 1) front graph ≡ Ok middle → changed_from (i + 1) (front ++ back) graph ≡ Ok made) → then_edit i answer (changed_from (i + 1) front) ≡ Ok middle → then_edit i answer (changed_from (i + 1) (front ++ back)) ≡ Ok made
append_on i front back middle made (Ok graph) more is = more graph is
append_on i front back middle made (Err refusal) more is = cc

changed_append : (i : ℕ) (front back : List Edit) (graph middle made : PlainGraph) → changed_from i front graph ≡ Ok middle → changed_from 0 back middle ≡ Ok made → changed_from i (front ++ back) graph ≡ Ok made
changed_append i [] back graph middle made first second =
    let same : graph ≡ middle = cc in
    subst (λ (from : PlainGraph). changed_from i back from ≡ Ok made) (sym same) (changed_anywhere 0 i back middle made second)
changed_append i (edit ∷ front) back graph middle made first second =
    append_on i front back middle made (edited edit graph) (λ next more. changed_append (i + 1) front back next middle made more second) first

-- what was made, or another one
abbrev pub made_in : Made → Result Made MakingFault → Made
made_in other (Ok made) = made
made_in other (Err fault) = other

-- the edits so far lead from the graph to the one that they make
abbrev pub IsReached : PlainGraph → Made → Type 0
IsReached from made = changed_from 0 made.edits from ≡ Ok made.graph

with_own : (from : PlainGraph) (made next : Made) (own : List Edit) → IsReached from made → made_with made own ≡ Ok next → IsReached from next
unfolding changed
with_own from made next own reached is =
    let t = then_ok (refused_after (length made.edits) (changed own made.graph)) (made_at (made.edits ++ own)) next is in
    let taken : changed_from 0 own made.graph ≡ Ok t.0 = refused_ok (length made.edits) (changed own made.graph) t.0 t.1 in
    subst (λ (reached : Made). IsReached from reached) (ap (made_in next) t.2) (changed_append 0 made.edits own from made.graph t.0 reached taken)

by_change : (from : PlainGraph) (change : Change) (made next : Made) → IsReached from made → made_by change made ≡ Ok next → IsReached from next
by_change from change made next reached is =
    let t = then_ok (then_on (own_edits change (length made.edits) (stage_named made.graph.places change.name)) listed) (made_with made) next is in
    with_own from made next t.0 reached t.2

all_reached : (from : PlainGraph) (changes : List Change) (made last : Made) → IsReached from made → made_of changes made ≡ Ok last → IsReached from last
all_reached from [] made last reached is =
    let same : made ≡ last = cc in subst (λ (made : Made). IsReached from made) same reached
all_reached from (change ∷ changes) made last reached is =
    let t = then_ok (made_by change made) (made_of changes) last is in
    all_reached from changes t.0 last (by_change from change made t.0 reached t.1) t.2

-- ---- none moves a stage

abbrev pub IsStill : List Edit → Type 0
IsStill edits = (name : List ℕ) → list_any (moves name) edits ≡ false

still_append : (front back : List Edit) → IsStill front → IsStill back → IsStill (front ++ back)
still_append front back first second = λ name. rw (list_any-append (moves name) front back, first name, second name) refl

still_if : (b : Bool) (edit : Edit) → ((name : List ℕ) → moves name edit ≡ false) → IsStill (cond b (edit ∷ []) [])
still_if true edit still = λ name. rw (still name) refl
still_if false edit still = λ name. refl

still_outcome : (name : List ℕ) (outcome : Option Outcome) → IsStill (outcome_edits_of name outcome)
still_outcome name None = λ other. refl
still_outcome name (Some outcome) = λ other. refl

still_moment : (name : List ℕ) (moment : Option ℕ) → IsStill (moment_edits_of name moment)
still_moment name None = λ other. refl
still_moment name (Some tick) = λ other. refl

still_before : (change : Change) (stage : Stage) → IsStill (own_before_ends change stage)
still_before change stage =
    still_append (times_edits change stage ++ outcome_edits change) (moment_edits change)
    (still_append (times_edits change stage) (outcome_edits change) (still_if (sets_times change) (SetTimes change.name (amount_in change.queued stage.queued) (amount_in change.runs stage.runs)) (λ name. refl)) (still_outcome change.name change.outcome))
    (still_moment change.name change.moment)

still_set : (name : List ℕ) (made : Result (List End) ℕ) (more : List Edit) → set_ends name made ≡ Ok more → IsStill more
still_set name (Ok ends) more is = let same : SetEnds name ends ∷ [] ≡ more = cc in subst IsStill same (λ other. refl)
still_set name (Err count) more is = absurd (cc)

still_ends : (name : List ℕ) (limit : Option TimeLimit) (ends : List End) (more : List Edit) → ends_edits_of name limit ends ≡ Ok more → IsStill more
still_ends name None ends more is = let same : [] ≡ more = cc in subst IsStill same (λ other. refl)
still_ends name (Some limit) ends more is = still_set name (limited limit ends) more is

still_own_of : (at : ℕ) (front : List Edit) (r : Result (List Edit) ℕ) (own : List Edit) → IsStill front → ((more : List Edit) → r ≡ Ok more → IsStill more) → own_edits_of at front r ≡ Ok own → IsStill own
still_own_of at front (Ok more) own first second is =
    let same : front ++ more ≡ own = cc in subst IsStill same (still_append front more first (second more refl))
still_own_of at front (Err count) own first second is = absurd (cc)

still_own : (change : Change) (at : ℕ) (stage : Option Stage) (own : List Edit) → own_edits change at stage ≡ Ok own → IsStill own
still_own change at None own is = absurd (cc)
still_own change at (Some stage) own is =
    still_own_of at (own_before_ends change stage) (ends_edits change stage) own (still_before change stage)
    (λ more made. still_ends change.name change.limit stage.ends more made) is

still_with : (made next : Made) (own : List Edit) → IsStill made.edits → IsStill own → made_with made own ≡ Ok next → IsStill next.edits
still_with made next own first second is =
    let t = then_ok (refused_after (length made.edits) (changed own made.graph)) (made_at (made.edits ++ own)) next is in
    subst (λ (made : Made). IsStill made.edits) (ap (made_in next) t.2) (still_append made.edits own first second)

still_by : (change : Change) (made next : Made) → IsStill made.edits → made_by change made ≡ Ok next → IsStill next.edits
still_by change made next still is =
    let t = then_ok (then_on (own_edits change (length made.edits) (stage_named made.graph.places change.name)) listed) (made_with made) next is in
    let u = then_ok (own_edits change (length made.edits) (stage_named made.graph.places change.name)) listed t.0 t.1 in
    let own : IsStill t.0 = subst IsStill (listed_same u.0 t.0 u.2) (still_own change (length made.edits) (stage_named made.graph.places change.name) u.0 u.1) in
    still_with made next t.0 still own t.2

all_still : (changes : List Change) (made last : Made) → IsStill made.edits → made_of changes made ≡ Ok last → IsStill last.edits
all_still [] made last still is =
    let same : made ≡ last = cc in subst (λ (made : Made). IsStill made.edits) same still
all_still (change ∷ changes) made last still is =
    let t = then_ok (made_by change made) (made_of changes) last is in
    all_still changes t.0 last (still_by change made t.0 still t.1) t.2

-- ---- the edits of all changes

made_ok : (b : Bool) (r : Result (List Edit) MakingFault) (edits : List Edit) (fault : MakingFault) → cond b r (Err fault) ≡ Ok edits → r ≡ Ok edits
made_ok true r edits fault is = is
made_ok false r edits fault is = cc

pub accepted : (changes : List Change) (graph : PlainGraph) (edits : List Edit) → edits_of changes graph ≡ Ok edits → (made : PlainGraph) × (changed edits graph ≡ Ok made)
unfolding changed
accepted changes graph edits is =
    let t = then_ok (made_of changes (record { edits = []; graph = graph })) listed_of edits (made_ok _ _ edits _ is) in
    (t.0.graph, subst (λ (edits : List Edit). changed_from 0 edits graph ≡ Ok t.0.graph) (listed_same t.0.edits edits t.2) (all_reached graph changes (record { edits = []; graph = graph }) t.0 refl t.1))

pub unmoved : (changes : List Change) (graph : PlainGraph) (edits : List Edit) → edits_of changes graph ≡ Ok edits → IsStill edits
unmoved changes graph edits is =
    let t = then_ok (made_of changes (record { edits = []; graph = graph })) listed_of edits (made_ok _ _ edits _ is) in
    subst IsStill (listed_same t.0.edits edits t.2) (all_still changes (record { edits = []; graph = graph }) t.0 (λ name. refl) t.1)
