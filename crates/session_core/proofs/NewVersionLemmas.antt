-- A commit makes a version, and nothing else does.
use Rattle.std.proofs.Common.{◌≡◌, ℕ, zero, suc, ◌+◌, ◌==◌, ◌^◌, Bool, true, false, not, ◌&&◌, nat_le, nat_lt, ◌⊎◌, inl, inr, if◌then◌else◌, List, [], ◌∷◌, ◌++◌, length, Option, Some, None, is_some, slice_get, Ok, Err, refl, ap, sym, subst, ◌∙◌, arith}
use Rattle.std.proofs.lemmas.Bool.Decides.{nat_tests}
use Rattle.std.specs.Prelude.{Result}
use Rattle.stage_graph.specs.declared.edit.Edit.{Edit}
use Rattle.stage_graph.specs.Plain.{PlainGraph}
use Rattle.version_store.specs.Plain.{PlainVersion}
use Rattle.session_core.specs.declared.event.Event.{Event}
use Rattle.session_core.specs.declared.event.Event.TheVariants.{Open, Head, Commit, Undo, Close}
use Rattle.session_core.specs.declared.event.Reply.{Reply}
use Rattle.session_core.specs.declared.event.Reply.TheVariants.{Opened, At, Committed, Undone, Closed, Refused, Memory}
use Rattle.session_core.specs.declared.refusal.Refusal.{Refusal}
use Rattle.session_core.specs.declared.refusal.Refusal.TheVariants.{Moved}
use Rattle.session_core.specs.Applied.{applied}
use Rattle.session_core.specs.Machine.{State, Numbers, Booked, numbers_at, refuse, in_session, at_version, without_head, commit_applied, from_base, book, book_open, book_head, book_commit, book_undo, book_close, rejection, unless_rejected, step}
use Rattle.session_core.specs.Headline.{IsMade, made}

pub left : (xs : List PlainVersion) (v : PlainVersion) (k : ℕ) (x : PlainVersion) → slice_get xs k ≡ Some x → slice_get (xs ++ v ∷ []) k ≡ Some x
left [] v k x is = absurd (cc is)
left (y ∷ xs) v zero x is = is
left (y ∷ xs) v (suc k) x is = left xs v k x is

last : (xs : List PlainVersion) (v : PlainVersion) → slice_get (xs ++ v ∷ []) (length xs) ≡ Some v
last [] v = refl
last (x ∷ xs) v = last xs v

longer : (xs : List PlainVersion) (v : PlainVersion) → length (xs ++ v ∷ []) ≡ suc (length xs)
longer [] v = refl
longer (x ∷ xs) v = ap suc (longer xs v)

-- what a reply says of the versions
abbrev Tells : State → Event → Reply → State → Type 0
Tells s event (Committed number) t = IsMade (Some event) (numbers_at s) t.versions number × (number ≡ length s.versions) × (length t.versions ≡ suc (length s.versions))
Tells s event (Opened number) t = length t.versions ≡ length s.versions
Tells s event (At number) t = length t.versions ≡ length s.versions
Tells s event (Undone number) t = length t.versions ≡ length s.versions
Tells s event Closed t = length t.versions ≡ length s.versions
Tells s event (Refused refusal) t = length t.versions ≡ length s.versions
Tells s event Memory t = length t.versions ≡ length s.versions

abbrev Makes : State → Event → Booked → Type 0
Makes s event None = Unit {0}
Makes s event (Some p) = Tells s event p.0 p.1

module _ (s : State) (event : Event) where
  in_list : (o : Option Numbers) (go : Numbers → Booked) → ((list : Numbers) → o ≡ Some list → Makes s event (go list)) → Makes s event (in_session o s go)
  in_list None go each = refl
  in_list (Some list) go each = each list refl

  in_version : (o : Option PlainVersion) (go : PlainVersion → Booked) → ((v : PlainVersion) → o ≡ Some v → Makes s event (go v)) → Makes s event (at_version o s go)
  in_version None go each = refl
  in_version (Some v) go each = each v refl

  makes_if : (b : Bool) (x y : Booked) → Makes s event x → Makes s event y → Makes s event (if b then x else y)
  makes_if true x y p q = p
  makes_if false x y p q = q

  rejects : (r : Option Refusal) (booked : Booked) → Makes s event booked → Makes s event (unless_rejected r s booked)
  rejects None booked h = h
  rejects (Some refusal) booked h = refl

  opens : (session version : ℕ) → Makes s event (book_open s session version)
  opens session version =
      makes_if (not (nat_le 1 session && nat_lt session (2 ^ 16))) _ _ refl
      (makes_if (is_some (numbers_at s session)) _ _ refl
      (makes_if (nat_le 1024 (length s.sessions)) _ _ refl
      (makes_if (nat_le (length s.versions) version) _ _ refl refl)))

  heads : (session : ℕ) → Makes s event (book_head s session)
  heads session = in_list (numbers_at s session) _ (λ list is. refl)

  without_makes : (session : ℕ) (below : List ℕ) → Makes s event (without_head s session below)
  without_makes session [] = refl
  without_makes session (k ∷ ks) = refl

  undoes : (session : ℕ) → Makes s event (book_undo s session)
  undoes session = in_list (numbers_at s session) _ (λ list is. without_makes session list.below)

  closes : (session : ℕ) → Makes s event (book_close s session)
  closes session = in_list (numbers_at s session) _ (λ list is. refl)

module _ (s : State) (session base : ℕ) (edits : List Edit) where
  applied_makes : (list : Numbers) (v : PlainVersion) (r : Result PlainGraph Refusal) → numbers_at s session ≡ Some list → list.head ≡ base → slice_get s.versions base ≡ Some v → applied edits v.graph ≡ r
      → Makes s (Commit session base edits) (commit_applied s session list (from_base base v.graph edits) r)
  applied_makes list v (Err refusal) stood at there done = tt
  applied_makes list v (Ok graph) stood at there done = (
    record {
      session = session;
      base = base;
      edits = edits;
      list = list;
      version = record { number = length s.versions; graph = graph; origin = Some (from_base base v.graph edits) };
      parent = v;
      asked = refl;
      stood = stood;
      at_head = at;
      stands = last s.versions _;
      there = left s.versions _ base v there;
      from = refl;
      edited = done;
    },
    refl,
    longer s.versions _,
  )

  -- past the test of the head, the base is the head
  on_head : (list : Numbers) (b : Bool) (y : Booked) → (list.head == base) ≡ b → (list.head ≡ base → Makes s (Commit session base edits) y)
      → Makes s (Commit session base edits) (if not b then refuse (Moved list.head) s else y)
  on_head list true y e each = each (grind (arith, nat_tests))
  on_head list false y e each = refl

  commits : Makes s (Commit session base edits) (book_commit s session base edits)
  commits = in_list s (Commit session base edits) (numbers_at s session) _ (λ list stood. in_version s (Commit session base edits) (slice_get s.versions base) _ (λ v there.
      on_head list (list.head == base) _ refl (λ at. makes_if s (Commit session base edits) (nat_le s.most (length s.versions)) _ _ refl (applied_makes list v (applied edits v.graph) stood at there refl))))

book_makes : (s : State) (event : Event) → Makes s event (book s event)
book_makes s (Open session version) = opens s (Open session version) session version
book_makes s (Head session) = heads s (Head session) session
book_makes s (Commit session base edits) = commits s session base edits
book_makes s (Undo session) = undoes s (Undo session) session
book_makes s (Close session) = closes s (Close session) session

tells : (s : State) (event : Event) (reply : Reply) (t : State) → (step s event ≡ Some (reply, t)) ⊎ ((reply ≡ Memory) × (t ≡ s)) → Tells s event reply t
tells s event reply t (inl is) = subst (Makes s event) is (rejects s event (rejection s event) (book s event) (book_makes s event))
tells s event reply t (inr is) = subst (λ r. Tells s event r t) (sym is.0) (ap (λ (x : State). length x.versions) is.1)

counted : (s : State) (event : Event) (reply : Reply) (t : State) → Tells s event reply t → length t.versions ≡ length s.versions + made reply
counted s event (Committed number) t h = let more = h.2 in omega (arith, more)
counted s event (Opened number) t h = omega (arith, h)
counted s event (At number) t h = omega (arith, h)
counted s event (Undone number) t h = omega (arith, h)
counted s event Closed t h = omega (arith, h)
counted s event (Refused refusal) t h = omega (arith, h)
counted s event Memory t h = omega (arith, h)

-- what one step does to the number of versions, and what a commit makes
pub record Making (s : State) (event : Event) (reply : Reply) (t : State) : Type 0 where
  pub commit : (number : ℕ) → reply ≡ Committed number → IsMade (Some event) (numbers_at s) t.versions number
  pub number : (number : ℕ) → reply ≡ Committed number → number ≡ length s.versions
  pub count : length t.versions ≡ length s.versions + made reply

pub one_making : (s : State) (event : Event) (reply : Reply) (t : State) → (step s event ≡ Some (reply, t)) ⊎ ((reply ≡ Memory) × (t ≡ s)) → Making s event reply t
one_making s event reply t is =
    let told : Tells s event reply t = tells s event reply t is in
    record {
      commit = λ number e. (subst (λ r. Tells s event r t) e told).0;
      number = λ number e. (subst (λ r. Tells s event r t) e told).1;
      count = counted s event reply t told;
    }

-- what was made is still there, and each version is still in its place, whichever way the earlier lists are described
pub still_made : (event : Option Event) (before same : ℕ → Option Numbers) (versions later : List PlainVersion) (number : ℕ) → ((q : ℕ) → before q ≡ same q)
    → ((k : ℕ) (v : PlainVersion) → slice_get versions k ≡ Some v → slice_get later k ≡ Some v) → IsMade event before versions number → IsMade event same later number
still_made event before same versions later number lists stay m = record {
  session = m.session;
  base = m.base;
  edits = m.edits;
  list = m.list;
  version = m.version;
  parent = m.parent;
  asked = m.asked;
  stood = sym (lists m.session) ∙ m.stood;
  at_head = m.at_head;
  stands = stay number m.version m.stands;
  there = stay m.base m.parent m.there;
  from = m.from;
  edited = m.edited;
}
