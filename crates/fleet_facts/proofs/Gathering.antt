-- What groups had to do with a reply, group by group.
use Rattle.std.proofs.Common.{◌≡◌, ℕ, zero, suc, ◌+◌, ◌<◌, ◌≤◌, Bool, List, [], ◌∷◌, ◌++◌, Some, None, length, length-append, refl, ap, sym, ◌∙◌, arith, ⊎_elim}
use Rattle.std.specs.Prelude.{slice_get}
use Rattle.std.proofs.lemmas.Bool.{cases_lt}
use Rattle.std.proofs.lemmas.Option.{same_Some, slice_get_past}
use Rattle.stage_graph.specs.Plain.{PlainGraph}
use Rattle.fleet_summary.specs.declared.facts.GroupFacts.{GroupFacts}
use Rattle.span_groups.specs.declared.grouping.Group.{Group}
use Rattle.span_groups.specs.declared.grouping.Grouping.{Grouping}
use Rattle.fleet_facts.specs.GroupFacts.{group_facts, AreFactsOfGroups}

-- ---- one group

abbrev facts : List ℕ → ℕ → Bool → ℕ → ℕ → ℕ → GroupFacts
facts name spans on ran queued then = record { name = name; spans = spans; is_on_path = on; ran = ran; queued = queued; time_then = then }

pub same_facts : {name other_name : List ℕ} {spans : ℕ} {on other_on : Bool} {ran other_ran queued other_queued then other_then : ℕ}
    → name ≡ other_name → on ≡ other_on → ran ≡ other_ran → queued ≡ other_queued → then ≡ other_then → facts name spans on ran queued then ≡ facts other_name spans other_on other_ran other_queued other_then
same_facts {name} {other_name} {spans} {on} {other_on} {ran} {other_ran} {queued} {other_queued} {then} {other_then} names ons rans queues thens =
    ap (λ (it : List ℕ). facts it spans on ran queued then) names
    ∙ ap (λ (it : Bool). facts other_name spans it ran queued then) ons
    ∙ ap (λ (it : ℕ). facts other_name spans other_on it queued then) rans
    ∙ ap (λ (it : ℕ). facts other_name spans other_on other_ran it then) queues
    ∙ ap (λ (it : ℕ). facts other_name spans other_on other_ran other_queued it) thens

-- ---- one after the other

pushed_get : {A : Type 0} (list : List A) (k : ℕ) (item : A) → k < length list → slice_get (list ++ item ∷ []) k ≡ slice_get list k
pushed_get [] k item within = absurd (omega arith)
pushed_get (first ∷ list) zero item within = refl
pushed_get (first ∷ list) (suc k) item within = pushed_get list k item (omega arith)

pushed_last : {A : Type 0} (list : List A) (k : ℕ) (item : A) → k ≡ length list → slice_get (list ++ item ∷ []) k ≡ Some item
pushed_last [] zero item here = refl
pushed_last [] (suc k) item here = absurd (omega (arith, here))
pushed_last (first ∷ list) zero item here = absurd (omega (arith, here))
pushed_last (first ∷ list) (suc k) item here = pushed_last list k item (omega (arith, here))

-- those of the groups of the first numbers
pub record AreFirstFacts (graph : PlainGraph) (grouping : Grouping) (reply time count : ℕ) (facts : List GroupFacts) : Type 0 where
  pub count_is : length facts ≡ count
  pub each : (number : ℕ) (group : Group) → number < count → slice_get grouping.groups.items number ≡ Some group
      → slice_get facts number ≡ Some (group_facts graph grouping.stages.items reply time number group)

module _ (graph : PlainGraph) (grouping : Grouping) (reply time : ℕ) where
  pub none_first : (facts : List GroupFacts) → facts ≡ [] → AreFirstFacts graph grouping reply time 0 facts
  none_first facts none = record { count_is = ap length none; each = λ number group below here. absurd (omega (arith, below)) }

  pub one_more : (count : ℕ) (facts facts_then : List GroupFacts) (own : Group) → AreFirstFacts graph grouping reply time count facts → slice_get grouping.groups.items count ≡ Some own
      → facts_then ≡ facts ++ group_facts graph grouping.stages.items reply time count own ∷ [] → AreFirstFacts graph grouping reply time (count + 1) facts_then
  one_more count facts facts_then own first here added =
      let made : GroupFacts = group_facts graph grouping.stages.items reply time count own in
      record {
        count_is = let long = ap length added in let grown = length-append facts (made ∷ []) in omega (arith, long, grown, first.count_is);
        each = λ number group below there.
            ⊎_elim
            (λ (before : number < count).
            let within : number < length facts = omega (arith, before, first.count_is) in
            ap (λ (list : List GroupFacts). slice_get list number) added ∙ pushed_get facts number made within ∙ first.each number group before there)
            (λ (past : count ≤ number).
            let same : number ≡ count = omega (arith, past, below) in
            let is : group ≡ own = same_Some group own (sym there ∙ ap (slice_get grouping.groups.items) same ∙ here) in
            ap (λ (list : List GroupFacts). slice_get list number) added
            ∙ pushed_last facts number made (omega (arith, same, first.count_is))
            ∙ ap (λ (group : Group). Some (group_facts graph grouping.stages.items reply time count group)) (sym is)
            ∙ ap (λ (k : ℕ). Some (group_facts graph grouping.stages.items reply time k group)) (sym same))
            (cases_lt number count);
      }

  pub all_first : (count : ℕ) (facts : List GroupFacts) → AreFirstFacts graph grouping reply time count facts → count ≡ length grouping.groups.items → AreFactsOfGroups graph grouping reply time facts
  all_first count facts first all = record {
    count = first.count_is ∙ all;
    each = λ number group here.
        ⊎_elim
        (λ within. first.each number group (omega (arith, within, all)) here)
        (λ past. absurd (nothing (sym (slice_get_past grouping.groups.items number past) ∙ here)))
        (cases_lt number (length grouping.groups.items));
  } where
    nothing : {group : Group} → None ≡ Some group → ⊥
    nothing e = cc
