-- What the machine records, by the spans that are kept.
use Rattle.std.proofs.Common.{◌≡◌, ℕ, zero, suc, ◌<◌, ◌≤◌, ◌==◌, ◌^◌, Bool, true, false, not, ◌&&◌, nat_le, nat_lt, if◌then◌else◌, List, [], ◌∷◌, length, Option, Some, None, is_some, slice_get, refl, ap, sym, subst, ◌∙◌, arith, true≢false}
use Rattle.std.proofs.lemmas.Bool.Decides.{nat_tests}
use Rattle.std.proofs.lemmas.List.{length-map}
use Rattle.std.proofs.lemmas.Option.{slice_get_past}
use Rattle.std.specs.Option.{option_map}
use Rattle.std.specs.Ordering.{nat_cmp}
use Rattle.std.specs.Map.{remove_entry}
use Rattle.std.specs.BTreeMap.{is_at, insert_entry}
use Rattle.stage_graph.specs.declared.edit.Edit.{Edit}
use Rattle.version_store.specs.Plain.{PlainVersion}
use Rattle.session_core.specs.declared.machine.Span.{Span}
use Rattle.session_core.specs.declared.event.Reply.TheVariants.{Opened, At, Undone, Closed, Refused}
use Rattle.session_core.specs.declared.refusal.Refusal.TheVariants.{SessionOpen, NoSession, NoVersion, Moved, AtBottom, Full, TooManySessions}
use Rattle.session_core.specs.Machine.{State, Numbers, numbers_at, alone, put, refuse, in_session, at_version, without_head, book_open, book_head, book_commit, commit_at, book_undo, book_close}
use Rattle.session_core.specs.Adding.{IsAtBase}
use Rattle.session_core.specs.Standing.{parent_at, numbers_of}
use Rattle.session_core.specs.MachineView.{Parts, sessions_of, state_of, IsSound}
use Rattle.session_core.proofs.Standing.{insert-map, remove-map, numbers_of-bottom, numbers_of-orphan, numbers_of-parent}
use Rattle.session_core.proofs.Spans.{span_at, with_spans, numbers, same_spans, number_is}

-- ---- close

pub close_none : (m : Parts) (x : List (ℕ × Span)) (session : ℕ) → span_at m session ≡ None → x ≡ m.spans → book_close (state_of m) session ≡ Some (Refused NoSession, state_of (with_spans m x))
close_none m x session is e =
    ap (λ (o : Option Numbers). in_session o (state_of m) (λ _. Some (Closed, record (state_of m) { sessions = remove_entry (is_at (nat_cmp session)) (state_of m).sessions }))) (numbers m session None is)
    ∙ ap (λ (t : State). Some (Refused NoSession, t)) (sym (same_spans m x e))

pub close_some : (m : Parts) (x : List (ℕ × Span)) (session : ℕ) (at : Span) → span_at m session ≡ Some at → x ≡ remove_entry (is_at (nat_cmp session)) m.spans → book_close (state_of m) session ≡ Some (Closed, state_of (with_spans m x))
close_some m x session at is e =
    ap (λ (o : Option Numbers). in_session o (state_of m) (λ _. Some (Closed, record (state_of m) { sessions = remove_entry (is_at (nat_cmp session)) (state_of m).sessions }))) (numbers m session (Some at) is)
    ∙ ap (λ (es : List (ℕ × Numbers)). Some (Closed, record (state_of m) { sessions = es })) (remove-map m.versions (is_at (nat_cmp session)) m.spans ∙ ap (sessions_of m.versions) (sym e))

-- ---- head

pub head_none : (m : Parts) (session : ℕ) → span_at m session ≡ None → book_head (state_of m) session ≡ Some (Refused NoSession, state_of m)
head_none m session is = ap (λ (o : Option Numbers). in_session o (state_of m) (λ n. Some (At n.head, state_of m))) (numbers m session None is)

pub head_some : (m : Parts) (session : ℕ) (at : Span) (v : PlainVersion) → IsSound m → span_at m session ≡ Some at → slice_get m.versions at.head ≡ Some v
    → (book_head (state_of m) session ≡ Some (At v.number, state_of m)) × (slice_get m.versions v.number ≡ Some v)
head_some m session at v sound is found =
    let number : v.number ≡ at.head = number_is m at.head v sound found in (
      ap (λ (o : Option Numbers). in_session o (state_of m) (λ n. Some (At n.head, state_of m))) (numbers m session (Some at) is) ∙ ap (λ k. Some (At k, state_of m)) (sym number),
      subst (λ k. slice_get m.versions k ≡ Some v) (sym number) found,
    )

-- ---- undo

pub undo_none : (m : Parts) (session : ℕ) → span_at m session ≡ None → book_undo (state_of m) session ≡ Some (Refused NoSession, state_of m)
undo_none m session is = ap (λ (o : Option Numbers). in_session o (state_of m) (λ n. without_head (state_of m) session n.below)) (numbers m session None is)

undo_some : (m : Parts) (session : ℕ) (at : Span) (below : List ℕ) → span_at m session ≡ Some at → (numbers_of m.versions at).below ≡ below → book_undo (state_of m) session ≡ without_head (state_of m) session below
undo_some m session at below is e =
    ap (λ (o : Option Numbers). in_session o (state_of m) (λ n. without_head (state_of m) session n.below)) (numbers m session (Some at) is) ∙ ap (without_head (state_of m) session) e

pub undo_bottom : (m : Parts) (session : ℕ) (at : Span) → span_at m session ≡ Some at → at.head ≡ at.bottom → book_undo (state_of m) session ≡ Some (Refused AtBottom, state_of m)
undo_bottom m session at is e = undo_some m session at [] is (numbers_of-bottom m.versions at e)

pub undo_orphan : (m : Parts) (session : ℕ) (at : Span) → span_at m session ≡ Some at → parent_at m.versions at.head ≡ None → book_undo (state_of m) session ≡ Some (Refused AtBottom, state_of m)
undo_orphan m session at is e = undo_some m session at [] is (numbers_of-orphan m.versions at e)

pub undo_parent : (m : Parts) (x : List (ℕ × Span)) (session : ℕ) (at : Span) (parent : ℕ) → IsSound m → span_at m session ≡ Some at → (at.head == at.bottom) ≡ false → parent_at m.versions at.head ≡ Some parent
    → x ≡ insert_entry nat_cmp m.spans session (record { bottom = at.bottom; head = parent })
    → book_undo (state_of m) session ≡ Some (Undone parent, state_of (with_spans m x))
undo_parent m x session at parent sound is apart e entries =
    let to : Span = record { bottom = at.bottom; head = parent } in
    undo_some m session at (parent ∷ (numbers_of m.versions to).below) is (numbers_of-parent m.versions at.bottom at.head parent sound.parents apart e)
    ∙ ap (λ (es : List (ℕ × Numbers)). Some (Undone parent, record (state_of m) { sessions = es })) (insert-map m.versions m.spans session to ∙ ap (sessions_of m.versions) (sym entries))

-- ---- open

pub if_true : {A : Type 0} (b : Bool) (x y : A) → b ≡ true → (if b then x else y) ≡ x
if_true true x y e = refl
if_true false x y e = absurd (true≢false (sym e))

pub if_false : {A : Type 0} (b : Bool) (x y : A) → b ≡ false → (if b then x else y) ≡ y
if_false true x y e = absurd (true≢false e)
if_false false x y e = refl

pub is_some-numbers : (m : Parts) (session : ℕ) (o : Option Span) → span_at m session ≡ o → is_some (numbers_at (state_of m) session) ≡ is_some o
is_some-numbers m session None is = ap is_some (numbers m session None is)
is_some-numbers m session (Some at) is = ap is_some (numbers m session (Some at) is)

length-sessions : (m : Parts) → length (state_of m).sessions ≡ length m.spans
length-sessions m = length-map m.spans (λ (e : ℕ × Span). (e.0, numbers_of m.versions e.1))

in_range : (session : ℕ) → 1 ≤ session → session < 2 ^ 16 → not (nat_le 1 session && nat_lt session (2 ^ 16)) ≡ false
in_range session a b =
    let p : nat_le 1 session ≡ true = grind (arith, nat_tests) in
    let q : nat_lt session (2 ^ 16) ≡ true = grind (arith, nat_tests) in
    ap (λ (x : Bool). not (x && nat_lt session (2 ^ 16))) p ∙ ap not q

module _ (m : Parts) (session version : ℕ) (least : 1 ≤ session) (small : session < 2 ^ 16) where
  pub open_open : is_some (span_at m session) ≡ true → book_open (state_of m) session version ≡ Some (Refused SessionOpen, state_of m)
  open_open is =
      if_false (not (nat_le 1 session && nat_lt session (2 ^ 16))) _ _ (in_range session least small)
      ∙ if_true (is_some (numbers_at (state_of m) session)) _ _ (is_some-numbers m session (span_at m session) refl ∙ is)

  module _ (free : is_some (span_at m session) ≡ false) where
    past : book_open (state_of m) session version ≡ (if nat_le 1024 (length (state_of m).sessions) then refuse TooManySessions (state_of m) else if nat_le (length m.versions) version then refuse NoVersion (state_of m) else Some (Opened version, put (state_of m) session (alone version)))
    past =
        if_false (not (nat_le 1 session && nat_lt session (2 ^ 16))) _ _ (in_range session least small)
        ∙ if_false (is_some (numbers_at (state_of m) session)) _ _ (is_some-numbers m session (span_at m session) refl ∙ free)

    pub open_many : 1024 ≤ length m.spans → book_open (state_of m) session version ≡ Some (Refused TooManySessions, state_of m)
    open_many many =
        let same = length-sessions m in
        let test : nat_le 1024 (length (state_of m).sessions) ≡ true = grind (arith, nat_tests) in
        past ∙ if_true (nat_le 1024 (length (state_of m).sessions)) _ _ test

    module _ (few : length m.spans < 1024) where
      not_many : nat_le 1024 (length (state_of m).sessions) ≡ false
      not_many = let same = length-sessions m in grind (arith, nat_tests)

      pub open_nowhere : length m.versions ≤ version → book_open (state_of m) session version ≡ Some (Refused NoVersion, state_of m)
      open_nowhere high =
          let test : nat_le (length m.versions) version ≡ true = grind (arith, nat_tests) in
          past ∙ if_false (nat_le 1024 (length (state_of m).sessions)) _ _ not_many ∙ if_true (nat_le (length m.versions) version) _ _ test

      pub open_there : (x : List (ℕ × Span)) → version < length m.versions → x ≡ insert_entry nat_cmp m.spans session (record { bottom = version; head = version })
          → book_open (state_of m) session version ≡ Some (Opened version, state_of (with_spans m x))
      open_there x low entries =
          let at : Span = record { bottom = version; head = version } in
          let test : nat_le (length m.versions) version ≡ false = grind (arith, nat_tests) in
          let one : alone version ≡ numbers_of m.versions at = ap (λ (below : List ℕ). record { head = version; below = below }) (sym (numbers_of-bottom m.versions at refl)) in
          past ∙ if_false (nat_le 1024 (length (state_of m).sessions)) _ _ not_many ∙ if_false (nat_le (length m.versions) version) _ _ test
          ∙ ap (λ (n : Numbers). Some (Opened version, put (state_of m) session n)) one
          ∙ ap (λ (es : List (ℕ × Numbers)). Some (Opened version, record (state_of m) { sessions = es })) (insert-map m.versions m.spans session at ∙ ap (sessions_of m.versions) (sym entries))

-- ---- commit

in_commit : (m : Parts) (session base : ℕ) (edits : List Edit) (o : Option Span) → span_at m session ≡ o
    → book_commit (state_of m) session base edits ≡ in_session (option_map (numbers_of m.versions) o) (state_of m) (λ n. at_version (slice_get m.versions base) (state_of m) (λ v. commit_at (state_of m) session n base edits v))
in_commit m session base edits o is = ap (λ (x : Option Numbers). in_session x (state_of m) (λ n. at_version (slice_get m.versions base) (state_of m) (λ v. commit_at (state_of m) session n base edits v))) (numbers m session o is)

pub commit_none : (m : Parts) (session base : ℕ) (edits : List Edit) → span_at m session ≡ None → book_commit (state_of m) session base edits ≡ Some (Refused NoSession, state_of m)
commit_none m session base edits is = in_commit m session base edits None is

pub commit_nowhere : (m : Parts) (session base : ℕ) (edits : List Edit) (at : Span) → span_at m session ≡ Some at → length m.versions ≤ base → book_commit (state_of m) session base edits ≡ Some (Refused NoVersion, state_of m)
commit_nowhere m session base edits at is high =
    in_commit m session base edits (Some at) is
    ∙ ap (λ (x : Option PlainVersion). at_version x (state_of m) (λ v. commit_at (state_of m) session (numbers_of m.versions at) base edits v)) (slice_get_past m.versions base high)

pub found : (vs : List PlainVersion) (k : ℕ) → k < length vs → (v : PlainVersion) × (slice_get vs k ≡ Some v)
found [] k low = absurd (omega (arith, low))
found (v ∷ vs) zero low = (v, refl)
found (v ∷ vs) (suc k) low = found vs k (omega (arith, low))

module _ (m : Parts) (session base : ℕ) (edits : List Edit) (at : Span) (is : span_at m session ≡ Some at) (low : base < length m.versions) where
  there : (v : PlainVersion) × (slice_get m.versions base ≡ Some v)
  there = found m.versions base low

  in_there : book_commit (state_of m) session base edits ≡ commit_at (state_of m) session (numbers_of m.versions at) base edits there.0
  in_there = in_commit m session base edits (Some at) is
      ∙ ap (λ (x : Option PlainVersion). at_version x (state_of m) (λ v. commit_at (state_of m) session (numbers_of m.versions at) base edits v)) there.1

  pub commit_moved : (at.head == base) ≡ false → book_commit (state_of m) session base edits ≡ Some (Refused (Moved at.head), state_of m)
  commit_moved apart = in_there ∙ if_true (not (at.head == base)) _ _ (ap not apart)

  pub commit_full : (at.head == base) ≡ true → m.most ≤ length m.versions → book_commit (state_of m) session base edits ≡ Some (Refused Full, state_of m)
  commit_full here many =
      let test : nat_le m.most (length m.versions) ≡ true = grind (arith, nat_tests) in
      in_there ∙ if_false (not (at.head == base)) _ _ (ap not here) ∙ if_true (nat_le m.most (length m.versions)) _ _ test

  pub at_base : at.head ≡ base → length m.versions < m.most → IsAtBase (state_of m) session base
  at_base here few = record { numbers = numbers_of m.versions at; stands = numbers m session (Some at) is; head = here; there = low; few = few }
