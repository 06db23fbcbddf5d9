-- What changes make of a graph, one after the other.
use Rattle.std.proofs.Common.{◌≡◌, ◌∙◌, ℕ, ◌+◌, ◌-◌, ◌<◌, ◌≤◌, ◌^◌, ◌++◌, min, List, [], ◌∷◌, length, take, drop, get_or, leb, Bool, true, false, cond, Option, Some, None, Result, Ok, Err, refl, sym, ap, subst, inl, inr, arith}
use Rattle.std.specs.Prelude.{IfOk, IfSome, IsOk, Vec, is_ok, sum_by}
use Rattle.std.specs.Global.{Global}
use Rattle.std.specs.List.{list_any}
use Rattle.std.specs.Borrow.{Bor}
use Rattle.std.proofs.lemmas.Bool.{cases_lt, le-leb, lt-leb}
use Rattle.std.proofs.lemmas.List.{append_assoc, at_drop_more, at_drop_all, length-append}
use Rattle.std.proofs.lemmas.List.Sums.{sum_by_more}
use Rattle.act_expr.specs.declared.outcome.Outcome.{Outcome}
use Rattle.stage_graph.specs.declared.edit.Edit.{Edit}
use Rattle.stage_graph.specs.declared.edit.Edit.TheVariants.{SetTimes}
use Rattle.stage_graph.specs.declared.fault.Fault.{Fault as GraphFault}
use Rattle.stage_graph.specs.declared.fault.Fault.TheVariants as graph_fault
use Rattle.stage_graph.specs.declared.fault.Refused.{Refused as RefusedEdit}
use Rattle.stage_graph.specs.declared.fault.Refusal.{Refusal}
use Rattle.stage_graph.specs.declared.stage.Stage.{Stage}
use Rattle.stage_graph.specs.Changes.{IsChanged, changed, changed_from, moves, then_on as then_edit}
use Rattle.stage_graph.specs.Edits.{edited}
use Rattle.stage_graph.specs.Plain.{PlainGraph, stage_named}
use Rattle.stage_graph.specs.Sound.{IsLawful, IsSoundStage}
use Rattle.change_words.specs.declared.change.Change.{Change}
use Rattle.change_words.specs.declared.fault.MakingFault.{MakingFault}
use Rattle.change_words.specs.declared.fault.MakingFault.TheVariants.{Refused, NotOneTimeout, ListSize, Memory}
use Rattle.change_words.specs.declared.timeouts.LimitFault.{LimitFault}
use Rattle.change_words.specs.declared.timeouts.LimitFault.TheVariants as limit
use Rattle.change_words.specs.Amounts.{amount_in}
use Rattle.change_words.specs.Changes.{edit_count, sets_times}
use Rattle.change_words.specs.Making.{IsMade, IsMadeOf, IsStep, Made, MadeWith, edits_of, listed, listed_of, made_at, made_by, made_of, made_with, own_edits, own_edits_of, refused_after}
use Rattle.change_words.specs.OwnEdits.{IsPushed, ends_edits, moment_edits_of, outcome_edits_of, own_before_ends}
use Rattle.change_words.specs.Results.{then_on}
use Rattle.change_words.proofs.Accepted.{accepted, listed_same, then_ok, unmoved}

-- ---- how many edits

pub total_more : (changes : List Change) (i : ℕ) (change : Change) (total next : ℕ) → i < length changes → change ≡ get_or changes i change → total ≡ min (sum_by edit_count (take i changes)) (2 ^ 64 - 1) → next ≡ min (total + edit_count change) (2 ^ 64 - 1) → next ≡ min (sum_by edit_count (take (i + 1) changes)) (2 ^ 64 - 1)
total_more changes i change total next low here so_far is =
    let more : sum_by edit_count (take (i + 1) changes) ≡ sum_by edit_count (take i changes) + edit_count (get_or changes i change) = sum_by_more edit_count changes i change low in
    let same : edit_count change ≡ edit_count (get_or changes i change) = ap edit_count here in
    omega arith

pub few_told : (total sum : ℕ) → total ≡ min sum (2 ^ 64 - 1) → leb total 64 ≡ leb sum 64
few_told total sum is = elim (cases_lt 64 sum) as (λ v. leb total 64 ≡ leb sum 64) [
  | inl many ↦ lt-leb total 64 (omega arith) ∙ sym (lt-leb sum 64 many)
  | inr few ↦ le-leb total 64 (omega arith) ∙ sym (le-leb sum 64 few)
]

times_short : (b : Bool) (edit : Edit) → length (cond b (edit ∷ []) []) ≤ 1
times_short true edit = omega arith
times_short false edit = omega arith

outcome_short : (name : List ℕ) (outcome : Option Outcome) → length (outcome_edits_of name outcome) ≤ 1
outcome_short name None = omega arith
outcome_short name (Some outcome) = omega arith

moment_short : (name : List ℕ) (moment : Option ℕ) → length (moment_edits_of name moment) ≤ 1
moment_short name None = omega arith
moment_short name (Some tick) = omega arith

-- a change is no more than three edits before that of the ends
pub own_short : (change : Change) (stage : Stage) → length (own_before_ends change stage) ≤ 3
own_short change stage =
    let times = times_short (sets_times change) (SetTimes change.name (amount_in change.queued stage.queued) (amount_in change.runs stage.runs)) in
    let outcome = outcome_short change.name change.outcome in
    let moment = moment_short change.name change.moment in
    simp length-append (omega arith)

-- ---- the stage of a name

pub lawful_from_sound : (places : List (Option Stage)) (place : ℕ) (stage : Option (Bor Stage)) → IfSome stage (λ stage. IsSoundStage places place stage.now) → IfSome stage (λ stage. IsLawful stage.now)
lawful_from_sound places place None sound = tt
lawful_from_sound places place (Some stage) sound = sound.lawful

-- ---- the edits of one change

pub is_itself : {A : Type 0} (r answer : Result A MakingFault) → r ≡ answer → IsMade r answer
is_itself (Ok x) answer is = sym is
is_itself (Err (Refused refused)) answer is = sym is
is_itself (Err (NotOneTimeout at count)) answer is = sym is
is_itself (Err ListSize) answer is = sym is
is_itself (Err Memory) answer is = tt

own_pushed : (at : ℕ) (front new : List Edit) (answer : Result (List Edit) ℕ) → IsPushed (Ok tt) answer front new → own_edits_of at front answer ≡ Ok new
own_pushed at front new (Ok more) pushed = ap Ok (sym pushed)
own_pushed at front new (Err count) pushed = absurd pushed

-- the edits that are added behind none are all
pub own_is : (before : ℕ) (change : Change) (stage : Stage) (none new : List Edit) → none ≡ [] → IsPushed (Ok tt) (ends_edits change stage) (none ++ own_before_ends change stage) new → own_edits change before (Some stage) ≡ Ok new
own_is before change stage none new is pushed =
    own_pushed before (own_before_ends change stage) new (ends_edits change stage)
    (subst (λ (front : List Edit). IsPushed (Ok tt) (ends_edits change stage) (front ++ own_before_ends change stage) new) is pushed)

pub own_listed : (before : ℕ) (change : Change) (stage : Stage) (none new : List Edit) → none ≡ [] → IsPushed (Ok tt) (ends_edits change stage) (none ++ own_before_ends change stage) new → then_on (own_edits change before (Some stage)) listed ≡ listed new
own_listed before change stage none new is pushed = ap (λ (own : Result (List Edit) MakingFault). then_on own listed) (own_is before change stage none new is pushed)

abbrev timeouts_at : ℕ → ℕ → Result (List Edit) MakingFault
timeouts_at count at = Err (NotOneTimeout at count)

pub timeouts_told : (before count at : ℕ) (change : Change) (stage : Stage) (none new : List Edit) → none ≡ [] → (ends_edits change stage ≡ Err count) × (new ≡ none ++ own_before_ends change stage) → at ≡ before + length new → then_on (own_edits change before (Some stage)) listed ≡ Err (NotOneTimeout at count)
timeouts_told before count at change stage none new is pushed at_is =
    let front : List Edit = own_before_ends change stage in
    let long : length new ≡ length front = ap length (pushed.1 ∙ ap (λ (first : List Edit). first ++ front) is) in
    ap (λ (ends : Result (List Edit) ℕ). then_on (own_edits_of before front ends) listed) pushed.0
    ∙ ap (timeouts_at count) (sym (at_is ∙ ap (λ (n : ℕ). before + n) long))

-- the same edits behind others
again_of : (front old new : List Edit) (answer : Result (List Edit) ℕ) (at : ℕ) (own : List Edit) → own_edits_of at front answer ≡ Ok own → IsPushed (Ok tt) answer (old ++ front) new → new ≡ old ++ own
again_of front old new (Ok more) at own is pushed =
    let same : front ++ more ≡ own = cc in
    pushed ∙ append_assoc old front more ∙ ap (λ (l : List Edit). old ++ l) same
again_of front old new (Err count) at own is pushed = absurd pushed

pub pushed_again : (change : Change) (stage : Stage) (before : ℕ) (own old new : List Edit) → own_edits change before (Some stage) ≡ Ok own → IsPushed (Ok tt) (ends_edits change stage) (old ++ own_before_ends change stage) new → new ≡ old ++ own
pushed_again change stage before own old new is pushed = again_of (own_before_ends change stage) old new (ends_edits change stage) before own is pushed

timeouts_never : (front : List Edit) (answer : Result (List Edit) ℕ) (at count : ℕ) (own : List Edit) → own_edits_of at front answer ≡ Ok own → answer ≡ Err count → ⊥
timeouts_never front (Ok more) at count own is told = cc
timeouts_never front (Err other) at count own is told = cc

-- where they were made, there is one timeout
pub never_again : (change : Change) (stage : Stage) (before count : ℕ) (own : List Edit) → own_edits change before (Some stage) ≡ Ok own → ends_edits change stage ≡ Err count → ⊥
never_again change stage before count own is told = timeouts_never (own_before_ends change stage) (ends_edits change stage) before count own is told

-- how many timeouts there are, where that is the fault
pub timeouts_counted : (fault : LimitFault) (count : ℕ) (answer : Result (List Edit) ℕ) (front new : List Edit) → fault ≡ limit.Timeouts count → IsPushed (Err fault) answer front new → (answer ≡ Err count) × (new ≡ front)
timeouts_counted fault count answer front new is pushed = subst (λ (fault : LimitFault). IsPushed (Err fault) answer front new) is pushed

-- ---- the graph that they make

-- the index in a refusal
abbrev refused_at : Result PlainGraph RefusedEdit → ℕ
refused_at (Ok graph) = 0
refused_at (Err refused) = refused.at

low_on : (i : ℕ) (edits : List Edit) (answer : Result PlainGraph Refusal) (refused : RefusedEdit) → ((graph : PlainGraph) → changed_from (i + 1) edits graph ≡ Err refused → refused.at < i + 1 + length edits) → then_edit i answer (changed_from (i + 1) edits) ≡ Err refused → refused.at < i + 1 + length edits
low_on i edits (Ok graph) refused more is = more graph is
low_on i edits (Err refusal) refused more is =
    let at : i ≡ refused.at = ap refused_at is in
    omega arith

low_from : (i : ℕ) (edits : List Edit) (graph : PlainGraph) (refused : RefusedEdit) → changed_from i edits graph ≡ Err refused → refused.at < i + length edits
low_from i [] graph refused is = absurd (cc)
low_from i (edit ∷ edits) graph refused is =
    let low : refused.at < i + 1 + length edits = low_on i edits (edited edit graph) refused (λ next more. low_from (i + 1) edits next refused more) is in
    let one : length (edit ∷ edits) ≡ length edits + 1 = omega arith in
    omega arith

-- the refused edit, where that is the fault
pub edit_refused : (fault : GraphFault) (refused : RefusedEdit) (answer : Result PlainGraph RefusedEdit) → fault ≡ graph_fault.Refused refused → IsChanged (Err fault) answer → answer ≡ Err refused
edit_refused fault refused answer is told = subst (λ (fault : GraphFault). IsChanged (Err fault) answer) is told

-- the index of a refused edit is one of the list's
pub refused_low : (edits : List Edit) (graph : PlainGraph) (refused : RefusedEdit) → changed edits graph ≡ Err refused → refused.at < length edits
unfolding changed
refused_low edits graph refused is =
    let low : refused.at < 0 + length edits = low_from 0 edits graph refused is in
    omega arith

-- ---- one change

pub step_refused : {A : Type 0} (fault : MakingFault) (answer : Result A MakingFault) (next : A → Result Made MakingFault) (edits : List Edit) → IsMade (Err fault) answer → IsStep (Err fault) (then_on answer next) edits
step_refused (Refused refused) answer next edits is = ap (λ r. then_on r next) is
step_refused (NotOneTimeout at count) answer next edits is = ap (λ r. then_on r next) is
step_refused ListSize answer next edits is = ap (λ r. then_on r next) is
step_refused Memory answer next edits is = tt

-- where the own edits are made, and refused by the graph
pub step_not_taken : (fault : MakingFault) (change : Change) (made : Made) (own edits : List Edit) → then_on (own_edits change (length made.edits) (stage_named made.graph.places change.name)) listed ≡ Ok own → IsMade (Err fault) (refused_after (length made.edits) (changed own made.graph)) → IsStep (Err fault) (made_by change made) edits
step_not_taken fault change made own edits is refused =
    subst (λ (answer : Result Made MakingFault). IsStep (Err fault) answer edits) (sym (ap (λ (r : Result (List Edit) MakingFault). then_on r (made_with made)) is))
    (step_refused fault (refused_after (length made.edits) (changed own made.graph)) (made_at (made.edits ++ own)) edits refused)

pub step_made : (change : Change) (made : Made) (own edits : List Edit) (graph : PlainGraph) → then_on (own_edits change (length made.edits) (stage_named made.graph.places change.name)) listed ≡ Ok own → refused_after (length made.edits) (changed own made.graph) ≡ Ok graph → edits ≡ made.edits ++ own → made_by change made ≡ made_at edits graph
step_made change made own edits graph is taken added =
    ap (λ (r : Result (List Edit) MakingFault). then_on r (made_with made)) is
    ∙ ap (λ (r : Result PlainGraph MakingFault). then_on r (made_at (made.edits ++ own))) taken
    ∙ ap (λ (l : List Edit). made_at l graph) (sym added)

-- the own edits, before they are listed
pub own_before_listed : (change : Change) (before : ℕ) (stage : Option Stage) (own : List Edit) → then_on (own_edits change before stage) listed ≡ Ok own → own_edits change before stage ≡ Ok own
own_before_listed change before stage own is =
    let t = then_ok (own_edits change before stage) listed own is in
    t.1 ∙ ap Ok (listed_same t.0 own t.2)

-- ---- changes one after the other

pub changes_turn : (changes : List Change) (i : ℕ) (change : Change) (made : Made) → i < length changes → change ≡ get_or changes i change → made_of (drop i changes) made ≡ then_on (made_by change made) (made_of (drop (i + 1) changes))
changes_turn changes i change made low here =
    at_drop_more (λ (left : List Change). made_of left made) changes i change low
    ∙ ap (λ (first : Change). then_on (made_by first made) (made_of (drop (i + 1) changes))) (sym here)

pub change_on : (changes : List Change) (i : ℕ) (change : Change) (made next : Made) → i < length changes → change ≡ get_or changes i change → made_by change made ≡ Ok next → made_of (drop i changes) made ≡ made_of (drop (i + 1) changes) next
change_on changes i change made next low here is =
    changes_turn changes i change made low here ∙ ap (λ (r : Result Made MakingFault). then_on r (made_of (drop (i + 1) changes))) is

of_refused : (fault : MakingFault) (answer : Result Made MakingFault) (next : Made → Result Made MakingFault) (edits : List Edit) → IsStep (Err fault) answer edits → IsMadeOf (Err fault) (then_on answer next)
of_refused (Refused refused) answer next edits is = ap (λ r. then_on r next) is
of_refused (NotOneTimeout at count) answer next edits is = ap (λ r. then_on r next) is
of_refused ListSize answer next edits is = ap (λ r. then_on r next) is
of_refused Memory answer next edits is = tt

pub change_refused : (whole : Result Made MakingFault) (changes : List Change) (i : ℕ) (change : Change) (made : Made) (fault : MakingFault) (edits : List Edit) → whole ≡ made_of (drop i changes) made → i < length changes → change ≡ get_or changes i change → IsStep (Err fault) (made_by change made) edits → IsMadeOf (Err fault) whole
change_refused whole changes i change made fault edits so_far low here refused =
    subst (λ (answer : Result Made MakingFault). IsMadeOf (Err fault) answer) (sym (so_far ∙ changes_turn changes i change made low here))
    (of_refused fault (made_by change made) (made_of (drop (i + 1) changes)) edits refused)

pub changes_done : (changes : List Change) (i : ℕ) (made : Made) → length changes ≤ i → made_of (drop i changes) made ≡ Ok made
changes_done changes i made done = at_drop_all (λ (left : List Change). made_of left made) changes i done

-- the first, and then the others
pub first_refused : (fault : MakingFault) (first : Change) (others : List Change) (made : Made) (edits : List Edit) → IsStep (Err fault) (made_by first made) edits → IsMadeOf (Err fault) (made_of (first ∷ others) made)
first_refused fault first others made edits refused = of_refused fault (made_by first made) (made_of others) edits refused

pub first_made : (first : Change) (others : List Change) (made next : Made) → made_by first made ≡ Ok next → made_of others next ≡ made_of (first ∷ others) made
first_made first others made next is = sym (ap (λ (r : Result Made MakingFault). then_on r (made_of others)) is)

-- ---- the list of them all

pub all_listed : (edits : List Edit) (answer : Result Made MakingFault) → MadeWith edits answer → then_on answer listed_of ≡ listed edits
all_listed edits answer made = ap (λ (r : Result Made MakingFault). then_on r listed_of) made.1

pub all_refused : (fault : MakingFault) (answer : Result Made MakingFault) → answer ≡ Err fault → then_on answer listed_of ≡ Err fault
all_refused fault answer is = ap (λ (r : Result Made MakingFault). then_on r listed_of) is

pub refused_is_told : (fault : MakingFault) (answer : Result Made MakingFault) → IsMadeOf (Err fault) answer → IsMade (Err fault) (then_on answer listed_of)
refused_is_told (Refused refused) answer is = all_refused (Refused refused) answer is
refused_is_told (NotOneTimeout at count) answer is = all_refused (NotOneTimeout at count) answer is
refused_is_told ListSize answer is = all_refused ListSize answer is
refused_is_told Memory answer is = tt

-- no change makes no edit
pub none_listed : (changes : List Change) (graph : PlainGraph) → length changes ≡ 0 → then_on (made_of changes (record { edits = []; graph = graph })) listed_of ≡ Err ListSize
none_listed [] graph none = refl
none_listed (change ∷ changes) graph none = absurd (omega (arith, none))

pub few_made : (few : Bool) (made : Result (List Edit) MakingFault) (r : Result (List Edit) MakingFault) → few ≡ true → IsMade r made → IsMade r (cond few made (Err ListSize))
few_made few made r are is = rw are is

pub too_many : (few : Bool) (made : Result (List Edit) MakingFault) → few ≡ false → cond few made (Err ListSize) ≡ Err ListSize
too_many few made are = rw are refl

-- ---- as the code has them

-- the own edits, where those before are counted and the stage is looked up
pub own_at : (r : Result (List Edit) MakingFault) (change : Change) (graph : PlainGraph) (edits : List Edit) (before : ℕ) (stage : Option Stage) (name : List ℕ) → before ≡ length edits → stage ≡ stage_named graph.places name → name ≡ change.name → IsMade r (then_on (own_edits change before stage) listed) → IsMade r (then_on (own_edits change (length edits) (stage_named graph.places change.name)) listed)
own_at r change graph edits before stage name counted found named is =
    let there : stage ≡ stage_named graph.places change.name = found ∙ ap (stage_named graph.places) named in
    subst (λ (stage : Option Stage). IsMade r (then_on (own_edits change (length edits) stage) listed)) there
    (subst (λ (n : ℕ). IsMade r (then_on (own_edits change n stage) listed)) counted is)

pub taken_at : (r : Result PlainGraph MakingFault) (graph : PlainGraph) (own edits : List Edit) (before : ℕ) → before ≡ length edits → IsMade r (refused_after before (changed own graph)) → IsMade r (refused_after (length edits) (changed own graph))
taken_at r graph own edits before counted is = subst (λ (n : ℕ). IsMade r (refused_after n (changed own graph))) counted is

pub first_on : (r : Result (Vec Edit Global) MakingFault) (first : Change) (others : List Change) (graph : PlainGraph) (none : List Edit) (next : Made) → none ≡ [] → made_by first (record { edits = none; graph = graph }) ≡ Ok next → IsMadeOf r (made_of others next) → IsMadeOf r (made_of (first ∷ others) (record { edits = []; graph = graph }))
first_on r first others graph none next is made more =
    let from_none : made_by first (record { edits = []; graph = graph }) ≡ Ok next = subst (λ (none : List Edit). made_by first (record { edits = none; graph = graph }) ≡ Ok next) is made in
    subst (λ (answer : Result Made MakingFault). IsMadeOf r answer) (first_made first others (record { edits = []; graph = graph }) next from_none) more

pub first_told : (fault : MakingFault) (first : Change) (others : List Change) (graph : PlainGraph) (none edits : List Edit) → none ≡ [] → IsStep (Err fault) (made_by first (record { edits = none; graph = graph })) edits → IsMadeOf (Err fault) (made_of (first ∷ others) (record { edits = []; graph = graph }))
first_told fault first others graph none edits is refused =
    first_refused fault first others (record { edits = []; graph = graph }) edits
    (subst (λ (none : List Edit). IsStep (Err fault) (made_by first (record { edits = none; graph = graph })) edits) is refused)

pub split_listed : (changes : List Change) (first : Change) (others : List Change) (graph : PlainGraph) (edits : List Edit) → changes ≡ first ∷ others → MadeWith edits (made_of (first ∷ others) (record { edits = []; graph = graph })) → listed edits ≡ then_on (made_of changes (record { edits = []; graph = graph })) listed_of
split_listed changes first others graph edits split made =
    sym (all_listed edits (made_of changes (record { edits = []; graph = graph }))
    (subst (λ (changes : List Change). MadeWith edits (made_of changes (record { edits = []; graph = graph }))) (sym split) made))

pub split_refused : (fault : MakingFault) (changes : List Change) (first : Change) (others : List Change) (graph : PlainGraph) → changes ≡ first ∷ others → IsMadeOf (Err fault) (made_of (first ∷ others) (record { edits = []; graph = graph })) → IsMade (Err fault) (then_on (made_of changes (record { edits = []; graph = graph })) listed_of)
split_refused fault changes first others graph split refused =
    refused_is_told fault (made_of changes (record { edits = []; graph = graph }))
    (subst (λ (changes : List Change). IsMadeOf (Err fault) (made_of changes (record { edits = []; graph = graph }))) (sym split) refused)

pub accepted_if : (r : Result (List Edit) MakingFault) (changes : List Change) (graph : PlainGraph) → IsMade r (edits_of changes graph) → IfOk r (λ edits. IsOk (changed edits graph))
accepted_if (Ok edits) changes graph is = ap is_ok (accepted changes graph edits is).1
accepted_if (Err fault) changes graph is = tt

pub unmoved_if : (r : Result (List Edit) MakingFault) (changes : List Change) (graph : PlainGraph) → IsMade r (edits_of changes graph) → IfOk r (λ edits. (name : List ℕ) → list_any (moves name) edits ≡ false)
unmoved_if (Ok edits) changes graph is = unmoved changes graph edits is
unmoved_if (Err fault) changes graph is = tt
