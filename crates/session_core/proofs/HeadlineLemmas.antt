-- Where the events of a run lead.
use Rattle.std.proofs.Common.{◌≡◌, ℕ, zero, suc, ◌+◌, ◌==◌, ◌^◌, Bool, true, false, not, ◌&&◌, nat_le, nat_lt, ◌⊎◌, inl, inr, if◌then◌else◌, List, [], ◌∷◌, ◌++◌, length, take, Option, Some, None, is_some, slice_get, Ok, Err, refl, ap, sym, subst, ◌∙◌, arith}
use Rattle.std.proofs.lemmas.Bool.Decides.{nat_tests}
use Rattle.std.specs.Prelude.{Result, IfSome}
use Rattle.std.specs.Option.{option_map}
use Rattle.std.specs.Ordering.{nat_cmp}
use Rattle.std.specs.BTreeMap.{is_at}
use Rattle.std.proofs.lemmas.Option.{slice_get_within}
use Rattle.stage_graph.specs.declared.edit.Edit.{Edit}
use Rattle.stage_graph.specs.Plain.{PlainGraph, feeds_of}
use Rattle.stage_graph.specs.Sound.{IsSound}
use Rattle.stage_graph.specs.Walk.{IsRanked, rank_step}
use Rattle.stage_graph.proofs.Following.{found_alone}
use Rattle.stage_ops.specs.States.{pending}
use Rattle.stage_ops.specs.Evaluation.{on_states}
use Rattle.stage_ops.specs.Java.{java_step}
use Rattle.stage_ops.specs.JavaLaws.{java_reads_decide, java_blames_read}
use Rattle.scratch_eval.proofs.Evaluating.{asks_feeds, same_above}
use Rattle.scratch_eval.proofs.Pathing.{path_unfolds}
use Rattle.scratch_eval.proofs.Querying.{chains_follow, chains_alone}
use Rattle.version_store.specs.Plain.{PlainVersion, opening_version}
use Rattle.session_core.specs.declared.event.Event.{Event}
use Rattle.session_core.specs.declared.event.Event.TheVariants.{Open, Head, Commit, Undo, Close}
use Rattle.session_core.specs.declared.event.Reply.{Reply}
use Rattle.session_core.specs.declared.event.Reply.TheVariants.{At, Committed, Refused, Memory}
use Rattle.session_core.specs.declared.refusal.Refusal.{Refusal}
use Rattle.session_core.specs.Applied.{applied}
use Rattle.session_core.specs.Machine.{State, Numbers, Booked, numbers_at, alone, with_head, opening, in_session, at_version, without_head, commit_applied, from_base, next, book_open, book_head, book_commit, book_undo, book_close, book, rejection, unless_rejected, step}
use Rattle.session_core.specs.TableView.{TableView}
use Rattle.session_core.specs.Runs.{Runs}
use Rattle.session_core.proofs.Runs.{replies_step}
use Rattle.session_core.specs.Headline.{session_of, headed, without, after, led_to, IsEdited, IsInOrder, AreInOrder, IsMade, all_made, HasOneAnswer, LeadsTo, LeadsFromOpening}
use Rattle.session_core.proofs.Cycles.{ranked_from_applied}
use Rattle.session_core.proofs.Sound.{sound_from_applied}
use Rattle.session_core.proofs.NewVersionLemmas.{left, Making, one_making, still_made}
use Rattle.session_core.proofs.Maps.{Sorted, find-insert, find-remove, Sorted-insert, Sorted-remove}

-- what one step does to the sessions and the versions
record Step (s : State) (session : ℕ) (reply : Reply) (t : State) : Type 0 where
  sorted : Sorted t.sessions
  follows : (q : ℕ) → numbers_at t q ≡ (if q == session then after reply (numbers_at s q) else numbers_at s q)
  versions : AreInOrder s.versions → AreInOrder t.versions
  stay : (k : ℕ) (v : PlainVersion) → slice_get s.versions k ≡ Some v → slice_get t.versions k ≡ Some v

abbrev Steps : State → ℕ → Booked → Type 0
Steps s session None = Unit {0}
Steps s session (Some p) = Step s session p.0 p.1

both : {A : Type 0} (b : Bool) (x : A) → x ≡ (if b then x else x)
both true x = refl
both false x = refl

module _ (s : State) (session : ℕ) (sorted : Sorted s.sessions) where
  stays : (reply : Reply) → ((list : Option Numbers) → after reply list ≡ list) → Step s session reply s
  stays reply same = record { sorted = sorted; follows = λ q. both (q == session) (numbers_at s q) ∙ ap (λ (o : Option Numbers). if q == session then o else numbers_at s q) (sym (same (numbers_at s q))); versions = λ h. h; stay = λ k v h. h }

  refuses : (refusal : Refusal) → Step s session (Refused refusal) s
  refuses refusal = stays (Refused refusal) (λ list. refl)

  in_list : (o : Option Numbers) (go : Numbers → Booked) → ((list : Numbers) → o ≡ Some list → Steps s session (go list)) → Steps s session (in_session o s go)
  in_list None go each = refuses _
  in_list (Some list) go each = each list refl

  in_version : (o : Option PlainVersion) (go : PlainVersion → Booked) → ((v : PlainVersion) → o ≡ Some v → Steps s session (go v)) → Steps s session (at_version o s go)
  in_version None go each = refuses _
  in_version (Some v) go each = each v refl

  steps_if : (b : Bool) (x y : Booked) → Steps s session x → Steps s session y → Steps s session (if b then x else y)
  steps_if true x y p q = p
  steps_if false x y p q = q

  -- the list that is put in place of another one
  replaced : (q : ℕ) (new : Numbers) (list : Numbers) (change : Option Numbers → Option Numbers) → numbers_at s session ≡ Some list → change (Some list) ≡ Some new
      → (if q == session then Some new else numbers_at s q) ≡ (if q == session then change (numbers_at s q) else numbers_at s q)
  replaced q new list change is changed = by_test (q == session) refl
    where
      by_test : (b : Bool) → (q == session) ≡ b → (if b then Some new else numbers_at s q) ≡ (if b then change (numbers_at s q) else numbers_at s q)
      by_test true e = let same : q ≡ session = grind (arith, nat_tests) in sym (ap change (ap (numbers_at s) same ∙ is) ∙ changed)
      by_test false e = refl

  opens : (version : ℕ) → Steps s session (book_open s session version)
  opens version =
      steps_if (not (nat_le 1 session && nat_lt session (2 ^ 16))) _ _ (refuses _)
      (steps_if (is_some (numbers_at s session)) _ _ (refuses _)
      (steps_if (nat_le 1024 (length s.sessions)) _ _ (refuses _)
      (steps_if (nat_le (length s.versions) version) _ _ (refuses _)
      (record { sorted = Sorted-insert session (alone version) s.sessions sorted; follows = λ q. find-insert q session (alone version) s.sessions; versions = λ h. h; stay = λ k v h. h }))))

  heads : Steps s session (book_head s session)
  heads = in_list (numbers_at s session) _ (λ list is. stays (At list.head) (λ l. refl))

  without_steps : (below : List ℕ) (list : Numbers) → list.below ≡ below → numbers_at s session ≡ Some list → Steps s session (without_head s session below)
  without_steps [] list e is = refuses _
  without_steps (k ∷ ks) list e is =
      let new : Numbers = record { head = k; below = ks } in
      record { sorted = Sorted-insert session new s.sessions sorted; follows = λ q. find-insert q session new s.sessions ∙ replaced q new list (option_map without) is (ap (λ (l : List ℕ). Some (headed l list)) e); versions = λ h. h; stay = λ k v h. h }

  undoes : Steps s session (book_undo s session)
  undoes = in_list (numbers_at s session) _ (λ list is. without_steps list.below list refl is)

  closes : Steps s session (book_close s session)
  closes = in_list (numbers_at s session) _ (λ list is. record { sorted = Sorted-remove (is_at (nat_cmp session)) s.sessions sorted; follows = λ q. find-remove q session s.sessions sorted; versions = λ h. h; stay = λ k v h. h })

  last_or : (xs : List PlainVersion) (v : PlainVersion) (k : ℕ) (x : PlainVersion) → slice_get (xs ++ v ∷ []) k ≡ Some x → (slice_get xs k ≡ Some x) ⊎ ((k ≡ length xs) × (x ≡ v))
  last_or [] v zero x is = inr (refl, cc is)
  last_or [] v (suc k) x is = absurd (cc is)
  last_or (y ∷ xs) v zero x is = inl is
  last_or (y ∷ xs) v (suc k) x is = shift (last_or xs v k x is)
    where
      shift : (slice_get xs k ≡ Some x) ⊎ ((k ≡ length xs) × (x ≡ v)) → (slice_get xs k ≡ Some x) ⊎ ((suc k ≡ suc (length xs)) × (x ≡ v))
      shift (inl a) = inl a
      shift (inr b) = inr (ap suc b.0, b.1)

  more : (v : PlainVersion) (k : ℕ) (x : PlainVersion) → IsEdited s.versions k x → IsEdited (s.versions ++ v ∷ []) k x
  more v k x e = record { origin = e.origin; parent = e.parent; from = e.from; earlier = e.earlier; there = left s.versions v e.origin.number e.parent e.there; graph = e.graph; edited = e.edited }

  or_more : (v : PlainVersion) (k : ℕ) (x : PlainVersion) → (k ≡ 0) ⊎ IsEdited s.versions k x → (k ≡ 0) ⊎ IsEdited (s.versions ++ v ∷ []) k x
  or_more v k x (inl a) = inl a
  or_more v k x (inr b) = inr (more v k x b)

  commits_applied : (list : Numbers) (base : ℕ) (edits : List Edit) (v : PlainVersion) (r : Result PlainGraph Refusal) → numbers_at s session ≡ Some list → slice_get s.versions base ≡ Some v → applied edits v.graph ≡ r
      → Steps s session (commit_applied s session list (from_base base v.graph edits) r)
  commits_applied list base edits v (Err refusal) is there done = tt
  commits_applied list base edits v (Ok graph) is there done =
      let n = length s.versions in
      let w : PlainVersion = next s (from_base base v.graph edits) graph in
      let new : Numbers = with_head n list in
      record {
        sorted = Sorted-insert session new s.sessions sorted;
        follows = λ q. find-insert q session new s.sessions ∙ replaced q new list (option_map (with_head n)) is refl;
        versions = λ ordered k x found. each ordered k x (last_or s.versions w k x found);
        stay = λ k x h. left s.versions w k x h;
      }
    where
      top : AreInOrder s.versions → IsInOrder (s.versions ++ next s (from_base base v.graph edits) graph ∷ []) (length s.versions) (next s (from_base base v.graph edits) graph)
      top ordered = record {
        numbered = refl;
        sound = sound_from_applied edits v.graph graph (ordered base v there).sound done;
        ranked = ranked_from_applied edits v.graph graph done;
        edited = inr (record {
          origin = from_base base v.graph edits;
          parent = v;
          from = refl;
          earlier = slice_get_within s.versions base v there;
          there = left s.versions (next s (from_base base v.graph edits) graph) base v there;
          graph = refl;
          edited = done;
        });
      }

      each : AreInOrder s.versions → (k : ℕ) (x : PlainVersion) → (slice_get s.versions k ≡ Some x) ⊎ ((k ≡ length s.versions) × (x ≡ next s (from_base base v.graph edits) graph))
          → IsInOrder (s.versions ++ next s (from_base base v.graph edits) graph ∷ []) k x
      each ordered k x (inl a) = let old = ordered k x a in record { numbered = old.numbered; sound = old.sound; ranked = old.ranked; edited = or_more (next s (from_base base v.graph edits) graph) k x old.edited }
      each ordered k x (inr b) =
          subst (λ j. IsInOrder (s.versions ++ next s (from_base base v.graph edits) graph ∷ []) j x) (sym b.0)
          (subst (IsInOrder (s.versions ++ next s (from_base base v.graph edits) graph ∷ []) (length s.versions)) (sym b.1) (top ordered))

  commits : (base : ℕ) (edits : List Edit) → Steps s session (book_commit s session base edits)
  commits base edits = in_list (numbers_at s session) _ (λ list is. in_version (slice_get s.versions base) _ (λ v there.
      steps_if (not (list.head == base)) _ _ (refuses _) (steps_if (nat_le s.most (length s.versions)) _ _ (refuses _) (commits_applied list base edits v (applied edits v.graph) is there refl))))

  rejects : (r : Option Refusal) (booked : Booked) → Steps s session booked → Steps s session (unless_rejected r s booked)
  rejects None booked h = h
  rejects (Some refusal) booked h = refuses refusal

books : (s : State) (event : Event) → Sorted s.sessions → Steps s (session_of event) (book s event)
books s (Open session version) sorted = opens s session sorted version
books s (Head session) sorted = heads s session sorted
books s (Commit session base edits) sorted = commits s session sorted base edits
books s (Undo session) sorted = undoes s session sorted
books s (Close session) sorted = closes s session sorted

steps : (s : State) (event : Event) → Sorted s.sessions → Steps s (session_of event) (step s event)
steps s event sorted = rejects s (session_of event) sorted (rejection s event) (book s event) (books s event sorted)

one_step : (s : State) (event : Event) (reply : Reply) (t : State) → Sorted s.sessions → (step s event ≡ Some (reply, t)) ⊎ ((reply ≡ Memory) × (t ≡ s)) → Step s (session_of event) reply t
one_step s event reply t sorted (inl is) = subst (Steps s (session_of event)) is (steps s event sorted)
one_step s event reply t sorted (inr is) = subst (λ r. Step s (session_of event) r t) (sym is.0) (subst (Step s (session_of event) Memory) (sym is.1) (stays s (session_of event) sorted Memory (λ list. refl)))

record Led (s : State) (events : List Event) (replies : List Reply) (t : State) : Type 0 where
  sessions : (session : ℕ) → numbers_at t session ≡ led_to session events replies (numbers_at s session)
  versions : AreInOrder s.versions → AreInOrder t.versions
  stay : (k : ℕ) (v : PlainVersion) → slice_get s.versions k ≡ Some v → slice_get t.versions k ≡ Some v
  committed : (i number : ℕ) → slice_get replies i ≡ Some (Committed number)
      → IsMade (slice_get events i) (λ session. led_to session (take i events) (take i replies) (numbers_at s session)) t.versions number
  numbers : (i number : ℕ) → slice_get replies i ≡ Some (Committed number) → number ≡ length s.versions + all_made (take i replies)
  count : length t.versions ≡ length s.versions + all_made replies

led : (s : TableView) (events : List Event) (replies : List Reply) (t : TableView) → Sorted s.state.sessions → Runs s events replies t → Led s.state events replies t.state
led s [] [] t sorted is = subst (Led s.state [] []) (sym is.0) (record {
  sessions = λ q. refl;
  versions = λ h. h;
  stay = λ k v h. h;
  committed = λ i number h. absurd (cc h);
  numbers = λ i number h. absurd (cc h);
  count = omega arith;
})
led s [] (r ∷ replies) t sorted is = absurd is
led s (e ∷ events) [] t sorted is = absurd is
led s (e ∷ events) (r ∷ replies) t sorted is =
    let one : Step s.state (session_of e) r is.0.state = one_step s.state e r is.0.state sorted (replies_step s e r is.0 is.1) in
    let making : Making s.state e r is.0.state = one_making s.state e r is.0.state (replies_step s e r is.0 is.1) in
    let rest : Led is.0.state events replies t.state = led is.0 events replies t one.sorted is.2 in
    record {
      sessions = λ q. rest.sessions q ∙ ap (led_to q events replies) (one.follows q);
      versions = λ h. rest.versions (one.versions h);
      stay = λ k v h. rest.stay k v (one.stay k v h);
      committed = committed one making rest;
      numbers = numbers making rest;
      count = let now = making.count in let later = rest.count in omega (arith, now, later);
    }
  where
    committed : Step s.state (session_of e) r is.0.state → Making s.state e r is.0.state → Led is.0.state events replies t.state
        → (i number : ℕ) → slice_get (r ∷ replies) i ≡ Some (Committed number)
        → IsMade (slice_get (e ∷ events) i) (λ session. led_to session (take i (e ∷ events)) (take i (r ∷ replies)) (numbers_at s.state session)) t.state.versions number
    committed one making rest zero number h = still_made (Some e) (numbers_at s.state) _ is.0.state.versions t.state.versions number (λ q. refl) rest.stay (making.commit number (cc h))
    committed one making rest (suc i) number h =
        still_made (slice_get events i) _ _ t.state.versions t.state.versions number (λ q. ap (led_to q (take i events) (take i replies)) (one.follows q)) (λ k v there. there) (rest.committed i number h)

    numbers : Making s.state e r is.0.state → Led is.0.state events replies t.state
        → (i number : ℕ) → slice_get (r ∷ replies) i ≡ Some (Committed number) → number ≡ length s.state.versions + all_made (take i (r ∷ replies))
    numbers making rest zero number h = let first = making.number number (cc h) in omega (arith, first)
    numbers making rest (suc i) number h = let now = making.count in let later = rest.numbers i number h in omega (arith, now, later)

first_in_order : (graph : PlainGraph) → IsSound graph → IsRanked graph.places → AreInOrder (opening_version graph ∷ [])
first_in_order graph sound ranked zero v is =
    let same : opening_version graph ≡ v = cc is in
    subst (IsInOrder (opening_version graph ∷ []) 0) same (record { numbered = refl; sound = sound; ranked = ranked; edited = inl refl })
first_in_order graph sound ranked (suc k) v is = absurd (cc is)

one_answer : (graph : PlainGraph) → IsSound graph → IsRanked graph.places → HasOneAnswer graph
one_answer graph sound ranked = record {
  states = λ states meets place. sym (found_alone pending (on_states (java_step graph.mode)) graph.places (asks_feeds (java_step graph.mode) (java_reads_decide graph.mode)) ranked states meets place);
  ranks = λ ranks meets place. sym (found_alone 0 rank_step graph.places (λ stage inputs others same. same_above inputs others (feeds_of stage) same) ranked ranks meets place);
  chains = λ place. chains_follow (java_step graph.mode) (java_reads_decide graph.mode) (java_blames_read graph.mode) graph sound ranked place;
  chains_alone = λ chains goes place. chains_alone (java_step graph.mode) (java_reads_decide graph.mode) (java_blames_read graph.mode) graph sound ranked chains goes place;
  paths = path_unfolds graph sound ranked;
}

pub leads : (graph : PlainGraph) (most : ℕ) (events : List Event) (replies : List Reply) (t u : TableView) → IsSound graph → IsRanked graph.places → t.state ≡ opening (opening_version graph) most → Runs t events replies u
    → LeadsTo graph events replies u.state
leads graph most events replies t u sound ranked opens is =
    let all : Led (opening (opening_version graph) most) events replies u.state = subst (λ (s : State). Led s events replies u.state) opens (led t events replies u (subst (λ (s : State). Sorted s.sessions) (sym opens) tt) is) in
    let versions : AreInOrder u.state.versions = all.versions (first_in_order graph sound ranked) in
    record { sessions = all.sessions; versions = versions; answers = λ k v is. let own = versions k v is in one_answer v.graph own.sound own.ranked; opening = all.stay 0 (opening_version graph) refl; committed = all.committed; numbers = λ i number h. let is = all.numbers i number h in omega (arith, is); count = let is = all.count in omega (arith, is) }

-- a first version whose graph is sound and ranked is all that is asked of the opening
pub leads_from_opening : (t u : TableView) (events : List Event) (replies : List Reply)
    → IfSome (slice_get t.state.versions 0) (λ (version : PlainVersion). IsSound version.graph × IsRanked version.graph.places) → Runs t events replies u → LeadsFromOpening t events replies u
leads_from_opening t u events replies first is graph most opens =
    let own : IsSound graph × IsRanked graph.places =
    subst (λ (s : State). IfSome (slice_get s.versions 0) (λ (version : PlainVersion). IsSound version.graph × IsRanked version.graph.places)) opens first in
    leads graph most events replies t u own.0 own.1 opens is
