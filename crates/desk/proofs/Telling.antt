-- How one event of the machine changes the versions, and which version its reply names.
use Rattle.std.proofs.Common.{◌≡◌, ◌≢◌, ℕ, ◌<◌, ◌==◌, ◌^◌, Bool, true, false, not, ◌&&◌, nat_le, nat_lt, inl, inr, if◌then◌else◌, List, [], ◌∷◌, length, Option, Some, None, IfSome, is_some, slice_get, Ok, Err, refl, sym, subst, ◌∙◌, arith, true≢false, eq-eqb, length-append}
use Rattle.std.proofs.lemmas.Bool.Decides.{nat_tests}
use Rattle.std.specs.Prelude.{Result, All}
use mathlib.Core.List.{IsPrefix}
use Rattle.stage_graph.specs.declared.edit.Edit.{Edit}
use Rattle.stage_graph.specs.Plain.{PlainGraph}
use Rattle.version_store.specs.Plain.{PlainVersion}
use Rattle.session_core.specs.declared.event.Event.{Event}
use Rattle.session_core.specs.declared.event.Event.TheVariants.{Open, Head, Commit, Undo, Close}
use Rattle.session_core.specs.declared.event.Reply.{Reply}
use Rattle.session_core.specs.declared.event.Reply.TheVariants.{Opened, At, Committed, Undone, Closed, Refused, Memory}
use Rattle.session_core.specs.declared.refusal.Refusal.{Refusal}
use Rattle.session_core.specs.Applied.{applied}
use Rattle.session_core.specs.Kept.{StandAtVersions}
use Rattle.session_core.specs.declared.refusal.Refusal.TheVariants.{BadSession, SessionOpen, TooManySessions, NoSession, NoVersion, Moved, AtBottom, Full}
use Rattle.session_core.specs.Machine.{State, Numbers, Booked, numbers_at, alone, put, refuse, in_session, at_version, without_head, from_base, next, commit_applied, commit_at, book_open, book_head, book_commit, book_undo, book_close, book}
use Rattle.desk.specs.Clients.{head_in, named}
use Rattle.desk.specs.Committing.{RefusesCommit}
use Rattle.desk.proofs.Fronts.{prefix_self}

-- the versions stay, except for an added one, and the reply names one of them
pub record Tells (s : State) (reply : Reply) (t : State) : Type 0 where
  pub grows : IsPrefix s.versions t.versions
  pub most : t.most ≡ s.most
  pub names : StandAtVersions s → IfSome (named reply) (λ k. k < length t.versions)
  pub keeps : (refusal : Refusal) → reply ≡ Refused refusal → t.versions ≡ s.versions

abbrev TellsOf : State → Booked → Type 0
TellsOf s None = Unit {0}
TellsOf s (Some p) = Tells s p.0 p.1

module _ (s : State) (session : ℕ) where
  refuses : (refusal : Refusal) → head_in refusal ≡ None → Tells s (Refused refusal) s
  refuses refusal is = record { grows = prefix_self s.versions; most = refl; names = λ standing. subst (λ (o : Option ℕ). IfSome o (λ k. k < length s.versions)) (sym is) tt; keeps = λ r e. refl }

  in_list : (o : Option Numbers) (go : Numbers → Booked) → ((list : Numbers) → o ≡ Some list → TellsOf s (go list)) → TellsOf s (in_session o s go)
  in_list None go each = refuses NoSession refl
  in_list (Some list) go each = each list refl

  in_version : (o : Option PlainVersion) (go : PlainVersion → Booked) → ((v : PlainVersion) → TellsOf s (go v)) → TellsOf s (at_version o s go)
  in_version None go each = refuses NoVersion refl
  in_version (Some v) go each = each v

  tells_if : (b : Bool) (x y : Booked) → TellsOf s x → TellsOf s y → TellsOf s (if b then x else y)
  tells_if true x y p q = p
  tells_if false x y p q = q

  head_below : (list : Numbers) → numbers_at s session ≡ Some list → StandAtVersions s → list.head < length s.versions
  head_below list is standing = (subst (λ (o : Option Numbers). IfSome o (λ numbers. (numbers.head < length s.versions) × All (λ number. number < length s.versions) numbers.below)) is (standing session)).0

  rest_below : (list : Numbers) → numbers_at s session ≡ Some list → StandAtVersions s → All (λ number. number < length s.versions) list.below
  rest_below list is standing = (subst (λ (o : Option Numbers). IfSome o (λ numbers. (numbers.head < length s.versions) × All (λ number. number < length s.versions) numbers.below)) is (standing session)).1

  opens_at : (version : ℕ) (b : Bool) → nat_le (length s.versions) version ≡ b → TellsOf s (if b then refuse NoVersion s else Some (Opened version, put s session (alone version)))
  opens_at version true is = refuses NoVersion refl
  opens_at version false is = record { grows = prefix_self s.versions; most = refl; names = λ standing. grind (arith, nat_tests); keeps = λ r e. refl }

  opens : (version : ℕ) → TellsOf s (book_open s session version)
  opens version =
      tells_if (not (nat_le 1 session && nat_lt session (2 ^ 16))) _ _ (refuses BadSession refl)
      (tells_if (is_some (numbers_at s session)) _ _ (refuses SessionOpen refl)
      (tells_if (nat_le 1024 (length s.sessions)) _ _ (refuses TooManySessions refl)
      (opens_at version (nat_le (length s.versions) version) refl)))

  heads : TellsOf s (book_head s session)
  heads = in_list (numbers_at s session) _ (λ list is. record { grows = prefix_self s.versions; most = refl; names = head_below list is; keeps = λ r e. refl })

  undoes_to : (below : List ℕ) → (StandAtVersions s → All (λ number. number < length s.versions) below) → TellsOf s (without_head s session below)
  undoes_to [] under = refuses AtBottom refl
  undoes_to (number ∷ below) under = record { grows = prefix_self s.versions; most = refl; names = λ standing. first (under standing); keeps = λ r e. refl }
    where
      first : All (λ k. k < length s.versions) (number ∷ below) → number < length s.versions
      first all = all 0 0 (omega arith)

  undoes : TellsOf s (book_undo s session)
  undoes = in_list (numbers_at s session) _ (λ list is. undoes_to list.below (rest_below list is))

  closes : TellsOf s (book_close s session)
  closes = in_list (numbers_at s session) _ (λ list is. record { grows = prefix_self s.versions; most = refl; names = λ standing. tt; keeps = λ r e. refl })

  adds : (list : Numbers) (base : ℕ) (edits : List Edit) (v : PlainVersion) (r : Result PlainGraph Refusal) → TellsOf s (commit_applied s session list (from_base base v.graph edits) r)
  adds list base edits v (Err refusal) = tt
  adds list base edits v (Ok graph) =
      let w : PlainVersion = next s (from_base base v.graph edits) graph in
      record { grows = (w ∷ [], refl); most = refl; names = λ standing. omega (arith, length-append s.versions (w ∷ [])); keeps = λ r e. absurd (cc e) }

  moves : (list : Numbers) → numbers_at s session ≡ Some list → Tells s (Refused (Moved list.head)) s
  moves list is = record { grows = prefix_self s.versions; most = refl; names = head_below list is; keeps = λ r e. refl }

  commits : (base : ℕ) (edits : List Edit) → TellsOf s (book_commit s session base edits)
  commits base edits =
      in_list (numbers_at s session) _ (λ list is. in_version (slice_get s.versions base) _ (λ v.
      tells_if (not (list.head == base)) _ _ (moves list is)
      (tells_if (nat_le s.most (length s.versions)) _ _ (refuses Full refl) (adds list base edits v (applied edits v.graph)))))

tells : (s : State) (event : Event) → TellsOf s (book s event)
tells s (Open session version) = opens s session version
tells s (Head session) = heads s session
tells s (Commit session base edits) = commits s session base edits
tells s (Undo session) = undoes s session
tells s (Close session) = closes s session

pub told : (s : State) (event : Event) (reply : Reply) (t : State) → book s event ≡ Some (reply, t) → Tells s reply t
told s event reply t is = subst (TellsOf s) is (tells s event)

-- ---- why a commit is refused

abbrev Declines : ℕ → Reply → Type 0
Declines base (Refused refusal) = RefusesCommit base refusal
Declines base (Opened number) = Unit {0}
Declines base (At number) = Unit {0}
Declines base (Committed number) = Unit {0}
Declines base (Undone number) = Unit {0}
Declines base Closed = Unit {0}
Declines base Memory = Unit {0}

abbrev DeclinesOf : ℕ → Booked → Type 0
DeclinesOf base None = Unit {0}
DeclinesOf base (Some p) = Declines base p.0

module _ (s : State) (session base : ℕ) (edits : List Edit) where
  applied_declines : (list : Numbers) (v : PlainVersion) (r : Result PlainGraph Refusal) → DeclinesOf base (commit_applied s session list (from_base base v.graph edits) r)
  applied_declines list v (Ok graph) = tt
  applied_declines list v (Err refusal) = tt

  full_declines : (list : Numbers) (v : PlainVersion) (b : Bool) → DeclinesOf base (if b then refuse Full s else commit_applied s session list (from_base base v.graph edits) (applied edits v.graph))
  full_declines list v true = inr (inr (inr refl))
  full_declines list v false = applied_declines list v (applied edits v.graph)

  moved_declines : (list : Numbers) (v : PlainVersion) (b : Bool) → (list.head == base) ≡ b
      → DeclinesOf base (if not b then refuse (Moved list.head) s else (if nat_le s.most (length s.versions) then refuse Full s else commit_applied s session list (from_base base v.graph edits) (applied edits v.graph)))
  moved_declines list v true is = full_declines list v (nat_le s.most (length s.versions))
  moved_declines list v false is = inr (inr (inl (list.head, refl, λ same. true≢false (sym (eq-eqb list.head base same) ∙ is))))

  version_declines : (list : Numbers) (o : Option PlainVersion) → DeclinesOf base (at_version o s (λ v. commit_at s session list base edits v))
  version_declines list None = inr (inl refl)
  version_declines list (Some v) = moved_declines list v (list.head == base) refl

  commit_declines : (o : Option Numbers) → DeclinesOf base (in_session o s (λ list. at_version (slice_get s.versions base) s (λ v. commit_at s session list base edits v)))
  commit_declines None = inl refl
  commit_declines (Some list) = version_declines list (slice_get s.versions base)

-- a refused commit is refused for one of the four reasons
pub declines : (s : State) (session base : ℕ) (edits : List Edit) (refusal : Refusal) (t : State) → book s (Commit session base edits) ≡ Some (Refused refusal, t) → RefusesCommit base refusal
declines s session base edits refusal t is = subst (DeclinesOf base) is (commit_declines s session base edits (numbers_at s session))
