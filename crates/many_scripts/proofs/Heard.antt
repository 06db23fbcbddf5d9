-- Which versions a client knows of, and how its answers are assembled.
use Rattle.std.proofs.Common.{◌≡◌, ℕ, ◌<◌, ◌≤◌, Bool, false, inl, inr, List, [], ◌∷◌, ◌++◌, length, refl, sym, ap, ◌∙◌, subst, arith, append-nil, Option, Some, None, IfSome, Result, Ok, Err, OnOk}
use Rattle.std.proofs.lemmas.List.Elements.{All-push, All-same, All-weaker}
use Rattle.std.specs.Io.KnownBytes.{Appends}
use Rattle.stage_graph.specs.declared.edit.Edit.{Edit}
use Rattle.version_store.specs.Plain.{PlainVersion}
use Rattle.session_core.specs.Log.{entry}
use Rattle.session_core.specs.declared.event.Entry.{Entry}
use Rattle.session_core.specs.declared.event.Event.{Event}
use Rattle.session_core.specs.declared.event.Event.TheVariants.{Commit}
use Rattle.session_core.specs.declared.event.Reply.{Reply}
use Rattle.report_form.specs.declared.form.Form.{Form}
use Rattle.serve_script.specs.Told.{reply_told}
use Rattle.desk.specs.Clients.{ClientView, HasSeen, IsSameClient, SeesOn, named}
use Rattle.many_scripts.specs.Played.{IsBooked, IsCommit, IsUnheardOf}
use Rattle.many_scripts.specs.Playing.{Answers, Books, Commits, HasHeard}
use Rattle.many_scripts.proofs.Beginnings.{prefix_length}

-- ---- what has been seen stays seen

below : (o : Option ℕ) (m n : ℕ) → m ≤ n → IfSome o (λ k. k < m) → IfSome o (λ k. k < n)
below None m n more less = tt
below (Some k) m n more less = omega arith

seen_still : (c d : ClientView) → SeesOn c d → (e : Entry) → HasSeen c e.reply → HasSeen d e.reply
seen_still c d later e seen = below (named e.reply) (length c.seen) (length d.seen) (prefix_length c.seen d.seen later) seen

-- no further call
pub hears_on : (c d : ClientView) → HasHeard c → SeesOn c d → d.calls ≡ c.calls → HasHeard d
hears_on c d heard later same = record {
  some = let more = prefix_length c.seen d.seen later in let some = heard.some in omega (arith, more, some);
  named = All-same (λ e. HasSeen d e.reply) d.calls c.calls same
      (All-weaker (λ e. HasSeen c e.reply) (λ e. HasSeen d e.reply) (seen_still c d later) c.calls heard.named);
}

-- one more call
pub hears_more : (c d : ClientView) (e : Entry) → HasHeard c → SeesOn c d → d.calls ≡ c.calls ++ e ∷ [] → HasSeen d e.reply → HasHeard d
hears_more c d e heard later more seen = record {
  some = let longer = prefix_length c.seen d.seen later in let some = heard.some in omega (arith, longer, some);
  named = All-same (λ x. HasSeen d x.reply) d.calls (c.calls ++ e ∷ []) more
      (All-push (λ x. HasSeen d x.reply) c.calls e (All-weaker (λ x. HasSeen c x.reply) (λ x. HasSeen d x.reply) (seen_still c d later) c.calls heard.named) seen);
}

-- a version after all that have been seen is not known
pub unheard_of : (d : ClientView) (number : ℕ) → HasHeard d → length d.seen ≤ number → IsUnheardOf d.calls number
unheard_of d number heard past = record {
  above_the_first = let some = heard.some in omega (arith, some, past);
  above_all = All-weaker (λ e. HasSeen d e.reply) (λ e. IfSome (named e.reply) (λ k. k < number)) (λ e seen. below (named e.reply) (length d.seen) number past seen) d.calls heard.named;
}

-- ---- answers

pub answers_weaker : (P Q : List PlainVersion → List Entry → List Entry → List ℕ → Type 0) (c d : ClientView) (held holds : Option (List ℕ))
    → ((entries : List Entry) (text : List ℕ) → P d.seen c.calls entries text → Q d.seen c.calls entries text) → Answers P c d held holds → Answers Q c d held holds
answers_weaker P Q c d held holds weaker a = record {
  entries = a.entries;
  text = a.text;
  number = a.number;
  calls = a.calls;
  later = a.later;
  heard = a.heard;
  printed = a.printed;
  answers = weaker a.entries a.text a.answers;
}

-- the table was not asked, and a line was printed
pub prints : (P : List PlainVersion → List Entry → List Entry → List ℕ → Type 0) (c d : ClientView) (held holds : Option (List ℕ)) (text : List ℕ)
    → HasHeard c → SeesOn c d → IsSameClient c d → Appends held holds text → P d.seen c.calls [] text → Answers P c d held holds
prints P c d held holds text heard later same printed answers = record {
  entries = [];
  text = text;
  number = same.0;
  calls = same.1 ∙ sym (append-nil c.calls);
  later = later;
  heard = hears_on c d heard later same.1;
  printed = printed;
  answers = answers;
}

-- one event was recorded, and its reply was printed
pub books : (P : List PlainVersion → List Entry → List Entry → List ℕ → Type 0) (c d : ClientView) (event : Event) (reply : Reply) (held holds : Option (List ℕ)) (text : List ℕ)
    → HasHeard c → SeesOn c d → Books c event reply d → Appends held holds text → P d.seen c.calls (entry c.number event reply ∷ []) text → Answers P c d held holds
books P c d event reply held holds text heard later booked printed answers = record {
  entries = entry c.number event reply ∷ [];
  text = text;
  number = booked.0.0;
  calls = booked.0.1;
  later = later;
  heard = hears_more c d (entry c.number event reply) heard later booked.0.1 booked.1;
  printed = printed;
  answers = answers;
}

module _ (form : Form) where
  pub answers_event : {T E : Type 0} (r : Result T E) (c d : ClientView) (event : Event) (reply : Reply) (held holds : Option (List ℕ))
      → HasHeard c → SeesOn c d → Books c event reply d → OnOk r (Appends held holds (reply_told form None event false reply))
      → OnOk r (Answers (λ seen earlier. IsBooked form c.number None event false) c d held holds)
  answers_event (Err e) c d event reply held holds heard later booked printed = tt
  answers_event (Ok x) c d event reply held holds heard later booked printed =
      books (λ seen earlier. IsBooked form c.number None event false) c d event reply held holds (reply_told form None event false reply) heard later booked printed
      (record { reply = reply; entry = refl; printed = refl })

  pub answers_commit : {T E : Type 0} (r : Result T E) (c d : ClientView) (session : ℕ) (base : PlainVersion) (edits given : List Edit) (listed : Bool) (reply : Reply) (held holds : Option (List ℕ))
      → HasHeard c → SeesOn c d → Commits c session base given reply d → given ≡ edits → OnOk r (Appends held holds (reply_told form (Some base) (Commit session base.number given) listed reply))
      → OnOk r (Answers (λ seen earlier. IsCommit form c.number session base.number edits listed base) c d held holds)
  answers_commit (Err e) c d session base edits given listed reply held holds heard later commits same printed = tt
  answers_commit (Ok x) c d session base edits given listed reply held holds heard later commits same printed =
      subst (λ es. Answers (λ seen earlier. IsCommit form c.number session base.number es listed base) c d held holds) same (by_cases commits)
    where
      by_cases : Commits c session base given reply d → Answers (λ seen earlier. IsCommit form c.number session base.number given listed base) c d held holds
      by_cases (inl (kept, refusal, refused, is)) =
          prints (λ seen earlier. IsCommit form c.number session base.number given listed base) c d held holds (reply_told form (Some base) (Commit session base.number given) listed reply) heard later kept printed
          (inl (record { refusal = refusal; refused = refused; printed = (refl, ap (reply_told form (Some base) (Commit session base.number given) listed) is) }))
      by_cases (inr booked) =
          books (λ seen earlier. IsCommit form c.number session base.number given listed base) c d (Commit session base.number given) reply held holds (reply_told form (Some base) (Commit session base.number given) listed reply) heard later booked printed
          (inr (record { reply = reply; entry = refl; printed = refl }))

  -- the same, where the version was looked at before
  pub answers_commit_at : {T E : Type 0} (r : Result T E) (c d : ClientView) (session number : ℕ) (base known : PlainVersion) (edits given : List Edit) (listed : Bool) (reply : Reply) (held holds : Option (List ℕ))
      → HasHeard c → SeesOn c d → Commits c session base given reply d → given ≡ edits → known ≡ base → number ≡ base.number
      → OnOk r (Appends held holds (reply_told form (Some known) (Commit session number given) listed reply))
      → OnOk r (Answers (λ seen earlier. IsCommit form c.number session base.number edits listed base) c d held holds)
  answers_commit_at r c d session number base known edits given listed reply held holds heard later commits same is numbered printed =
      answers_commit r c d session base edits given listed reply held holds heard later commits same
      (subst (λ v. OnOk r (Appends held holds (reply_told form (Some v) (Commit session base.number given) listed reply))) is
      (subst (λ n. OnOk r (Appends held holds (reply_told form (Some known) (Commit session n given) listed reply))) numbered printed))
