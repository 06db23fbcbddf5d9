-- Commits that are prepared and finished.
use Rattle.std.proofs.Common.{◌≡◌, ℕ, ◌<◌, ◌==◌, true, false, not, nat_le, inr, List, [], ◌∷◌, ◌++◌, length, take, Option, Some, IfSome, IsSome, slice_get, refl, ap, subst, sym, ◌∙◌, arith, rules, Ok}
use Rattle.std.proofs.lemmas.Bool.Decides.{nat_tests}
use Rattle.std.proofs.lemmas.Option.{slice_get_within}
use Rattle.stage_graph.specs.declared.edit.Edit.{Edit}
use Rattle.stage_graph.specs.Plain.{PlainGraph}
use Rattle.version_store.specs.Plain.{PlainVersion, PlainDraft, Origin, numbered, parent_of}
use Rattle.version_store.specs.Drafts.{IsMadeBy}
use Rattle.session_core.specs.declared.event.Reply.TheVariants.{Committed, Refused}
use Rattle.session_core.specs.declared.event.Reply.{Reply}
use Rattle.session_core.specs.declared.event.Event.TheVariants.{Commit}
use Rattle.session_core.specs.declared.refusal.Refusal.TheVariants.{Foreign}
use Rattle.session_core.specs.Applied.{applied}
use Rattle.session_core.specs.Adding.{IsAtBase, IsOfState}
use Rattle.session_core.specs.Ready.{PlainReady, IsReady}
use Rattle.session_core.specs.TableView.{TableView, IsForeignDraft}
use Rattle.session_core.specs.Log.{Enters, entry, opening_of}
use Rattle.session_core.specs.Machine.{State, Numbers, numbers_at, in_session, at_version, commit_at, commit_applied, book_commit, added, from_base, next}
use Rattle.session_core.proofs.Booked.{found, if_false}
use Rattle.session_core.proofs.Cycles.{applied_ok}

pub booked_at : (s : State) (session base : ℕ) (edits : List Edit) (v : PlainVersion) (graph : PlainGraph) (at : IsAtBase s session base)
    → slice_get s.versions base ≡ Some v → applied edits v.graph ≡ Ok graph
    → book_commit s session base edits ≡ Some (Committed (length s.versions), added s session at.numbers (next s (from_base base v.graph edits) graph))
booked_at s session base edits v graph at is made =
    let here : (at.numbers.head == base) ≡ true = let e = at.head in grind (arith, nat_tests) in
    let few : nat_le s.most (length s.versions) ≡ false = let e = at.few in grind (arith, nat_tests) in
    ap (λ (o : Option Numbers). in_session o s (λ n. at_version (slice_get s.versions base) s (λ x. commit_at s session n base edits x))) at.stands
    ∙ ap (λ (o : Option PlainVersion). at_version o s (λ x. commit_at s session at.numbers base edits x)) is
    ∙ if_false (not (at.numbers.head == base)) _ _ (ap not here)
    ∙ if_false (nat_le s.most (length s.versions)) _ _ few
    ∙ ap (commit_applied s session at.numbers (from_base base v.graph edits)) made

some_of : {X : Type 0} (o : Option X) (x : X) → o ≡ Some x → IsSome o
some_of o x e = subst IsSome (sym e) (search rules)

-- a draft of the state's own version, at which the session stands, is ready
pub ready : (t : TableView) (r : PlainReady) (draft : PlainDraft) → 0 < t.room → IsAtBase t.state r.session r.base → IsOfState t.state r.session draft → IsMadeBy draft.origin draft.graph
    → r.base ≡ draft.origin.number → r.edits ≡ draft.origin.edits → r.version ≡ numbered draft (length t.state.versions) → IsReady t r
ready t r draft room at own made base edits version =
    let the = found t.state.versions r.base at.there in
    let graph : the.0.graph ≡ draft.origin.graph =
    subst (λ (o : Option PlainVersion). IfSome o (λ x. x.graph ≡ draft.origin.graph)) (subst (λ k. slice_get t.state.versions k ≡ Some the.0) base the.1) (own (some_of (numbers_at t.state r.session) at.numbers at.stands)) in
    let done : applied r.edits the.0.graph ≡ Ok draft.graph =
    ap (λ (es : List Edit). applied es the.0.graph) edits ∙ ap (applied draft.origin.edits) graph ∙ applied_ok draft.origin.edits draft.origin.graph draft.graph made.changed made.ranked in
    let from : from_base r.base the.0.graph r.edits ≡ draft.origin =
    ap (λ k. from_base k the.0.graph r.edits) base ∙ ap (λ (g : PlainGraph). from_base draft.origin.number g r.edits) graph ∙ ap (from_base draft.origin.number draft.origin.graph) edits in
    let same : next t.state (from_base r.base the.0.graph r.edits) draft.graph ≡ r.version = ap (λ (o : Origin). next t.state o draft.graph) from ∙ sym version in
    record {
      room = room;
      may = record {
        numbers = at.numbers;
        stands = at.stands;
        number = ap (λ (v : PlainVersion). v.number) version;
        parent = ap parent_of version ∙ ap Some (sym (at.head ∙ base));
      };
      booked = booked_at t.state r.session r.base r.edits the.0 draft.graph at the.1 done ∙ ap (λ (v : PlainVersion). Some (Committed (length t.state.versions), added t.state r.session at.numbers v)) same;
    }

take_one : (xs : List PlainVersion) (v : PlainVersion) → 0 < length xs → take 1 (xs ++ v ∷ []) ≡ take 1 xs
take_one [] v some = absurd (omega (arith, some))
take_one (x ∷ xs) v some = refl

abbrev opened : ℕ → List PlainVersion → State
opened most versions = record { versions = versions; most = most; sessions = [] }

pub opening-added : (s : State) (session : ℕ) (numbers : Numbers) (v : PlainVersion) → 0 < length s.versions → opening_of (added s session numbers v) ≡ opening_of s
opening-added s session numbers v some = ap (opened s.most) (take_one s.versions v some)

-- a commit answered "of another graph"
pub enters_foreign : (s : State) (who session base : ℕ) (edits : List Edit) (reply : Reply) (draft : PlainDraft) → IsForeignDraft s session draft → base ≡ draft.origin.number → reply ≡ Refused (Foreign base) → Enters s (entry who (Commit session base edits) reply) s
enters_foreign s who session base edits reply draft f same is =
    inr ((f.0, subst (λ k. k < length s.versions) (sym same) (slice_get_within s.versions draft.origin.number f.1 f.2), is), refl)
