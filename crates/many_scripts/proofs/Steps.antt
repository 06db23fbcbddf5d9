-- How the answers to a step are assembled.
use Rattle.std.proofs.Common.{◌≡◌, ℕ, ◌≤◌, Bool, false, inl, inr, List, [], ◌∷◌, ◌++◌, length, slice_get, refl, sym, ap, ◌∙◌, subst, append_assoc, Option, Some, None, Result, Ok, Err, OnOk}
use Rattle.std.specs.Io.KnownBytes.{Appends}
use Rattle.stage_graph.specs.declared.edit.Edit.{Edit}
use Rattle.version_store.specs.Plain.{PlainVersion}
use Rattle.recording.specs.declared.step.Asked.{Asked}
use Rattle.recording.specs.declared.step.Subject.TheVariants as subject
use Rattle.session_core.specs.Log.{entry}
use Rattle.session_core.specs.declared.event.Entry.{Entry}
use Rattle.session_core.specs.declared.event.Event.TheVariants.{Head}
use Rattle.session_core.specs.declared.event.Reply.TheVariants.{At, Refused}
use Rattle.session_core.specs.declared.refusal.Refusal.{Refusal}
use Rattle.report_form.specs.declared.form.Form.{Form}
use Rattle.serve_script.specs.Answers.{report_asked}
use Rattle.serve_script.specs.Told.{no_version_told, reply_told}
use Rattle.desk.specs.Clients.{ClientView, HasSeen, IsSameClient, IsSeen, Keeps, SeesOn}
use Rattle.many_scripts.specs.Played.{AtVersion, IsChange, IsCommit, IsPrinted, IsReport, IsReportAgainst, IsReportOf, IsUnheardOf}
use Rattle.many_scripts.specs.Playing.{Answers, HasHeard}
use Rattle.many_scripts.proofs.Beginnings.{prefix_get, prefix_self, prefix_trans}
use Rattle.many_scripts.proofs.Heard.{books, hears_on, prints, unheard_of}

-- the version that was seen under its number stands at that number
stands_at : (d : ClientView) (number : ℕ) (version : PlainVersion) → version.number ≡ number → IsSeen d version → slice_get d.seen number ≡ Some version
stands_at d number version numbered seen = subst (λ n. slice_get d.seen n ≡ Some version) numbered seen

unheard : (c d : ClientView) (number : ℕ) → HasHeard c → SeesOn c d → IsSameClient c d → length d.seen ≤ number → IsUnheardOf c.calls number
unheard c d number heard later same past = subst (λ calls. IsUnheardOf calls number) same.1 (unheard_of d number (hears_on c d heard later same.1) past)

-- ---- reports

-- the table was not asked before
after_reading : {T E : Type 0} (r : Result T E) (P Q : List PlainVersion → List Entry → List Entry → List ℕ → Type 0) (c m d : ClientView) (held holds : Option (List ℕ))
    → SeesOn c m → IsSameClient c m → ((entries : List Entry) (text : List ℕ) → SeesOn m d → P d.seen c.calls entries text → Q d.seen c.calls entries text)
    → OnOk r (Answers P m d held holds) → OnOk r (Answers Q c d held holds)
after_reading (Err e) P Q c m d held holds later same weaker answers = tt
after_reading (Ok x) P Q c m d held holds later same weaker a = record {
  entries = a.entries;
  text = a.text;
  number = a.number ∙ same.0;
  calls = a.calls ∙ ap (λ calls. calls ++ a.entries) same.1;
  later = prefix_trans c.seen m.seen d.seen later a.later;
  heard = a.heard;
  printed = a.printed;
  answers = weaker a.entries a.text a.later (subst (λ calls. P d.seen calls a.entries a.text) same.1 a.answers);
}

module _ (form : Form) where
  -- there is no version of the number
  prints_none : {T E : Type 0} (r : Result T E) (Found : PlainVersion → List Entry → List ℕ → Type 0) (c d : ClientView) (number : ℕ) (held holds : Option (List ℕ))
      → HasHeard c → SeesOn c d → IsSameClient c d → length d.seen ≤ number → OnOk r (Appends held holds (no_version_told form))
      → OnOk r (Answers (λ seen earlier entries text. AtVersion seen earlier number (λ version. Found version entries text) (IsPrinted (no_version_told form) entries text)) c d held holds)
  prints_none (Err e) Found c d number held holds heard later same past printed = tt
  prints_none (Ok x) Found c d number held holds heard later same past printed =
      prints (λ seen earlier entries text. AtVersion seen earlier number (λ version. Found version entries text) (IsPrinted (no_version_told form) entries text)) c d held holds (no_version_told form) heard later same printed
      (inr (unheard c d number heard later same past, (refl, refl)))

  -- a report that is compared with none
  pub reports : {T E : Type 0} (r : Result T E) (c : ClientView) (version : PlainVersion) (asked : Asked) (against : Option ℕ) (held holds : Option (List ℕ))
      → HasHeard c → against ≡ None → OnOk r (Appends held holds (report_asked form version None asked)) → OnOk r (Answers (λ seen earlier. IsReportAgainst form seen earlier version asked against) c c held holds)
  reports (Err e) c version asked against held holds heard is printed = tt
  reports (Ok x) c version asked against held holds heard is printed =
      subst (λ number. Answers (λ seen earlier. IsReportAgainst form seen earlier version asked number) c c held holds) (sym is)
      (prints (λ seen earlier. IsReportAgainst form seen earlier version asked None) c c held holds (report_asked form version None asked) heard (prefix_self c.seen) (refl, refl) printed (refl, refl))

  -- a report that is compared with the version of a number
  pub reports_against : {T E : Type 0} (r : Result T E) (c d : ClientView) (version : PlainVersion) (asked : Asked) (number : ℕ) (against : PlainVersion) (held holds : Option (List ℕ))
      → HasHeard c → SeesOn c d → IsSameClient c d → against.number ≡ number → IsSeen d against
      → OnOk r (Appends held holds (report_asked form version (Some against) asked)) → OnOk r (Answers (λ seen earlier. IsReportAgainst form seen earlier version asked (Some number)) c d held holds)
  reports_against (Err e) c d version asked number against held holds heard later same numbered seen printed = tt
  reports_against (Ok x) c d version asked number against held holds heard later same numbered seen printed =
      prints (λ seen earlier. IsReportAgainst form seen earlier version asked (Some number)) c d held holds (report_asked form version (Some against) asked) heard later same printed
      (inl (against, stands_at d number against numbered seen, (refl, refl)))

  pub reports_against_none : {T E : Type 0} (r : Result T E) (c d : ClientView) (version : PlainVersion) (asked : Asked) (number : ℕ) (held holds : Option (List ℕ))
      → HasHeard c → SeesOn c d → IsSameClient c d → length d.seen ≤ number → OnOk r (Appends held holds (no_version_told form))
      → OnOk r (Answers (λ seen earlier. IsReportAgainst form seen earlier version asked (Some number)) c d held holds)
  reports_against_none r c d version asked number held holds heard later same past printed =
      prints_none r (λ against. IsPrinted (report_asked form version (Some against) asked)) c d number held holds heard later same past printed

  -- a report of the version of a number
  pub reports_version : {T E : Type 0} (r : Result T E) (c m d : ClientView) (number : ℕ) (version shown : PlainVersion) (asked : Asked) (held holds : Option (List ℕ))
      → SeesOn c m → IsSameClient c m → version.number ≡ number → IsSeen m version → shown ≡ version
      → OnOk r (Answers (λ seen earlier. IsReportOf form seen earlier shown asked) m d held holds) → OnOk r (Answers (λ seen earlier. IsReport form c.number seen earlier (subject.Version number) asked) c d held holds)
  reports_version r c m d number version shown asked held holds later same numbered seen is answers =
      after_reading r (λ seen earlier. IsReportOf form seen earlier version asked) (λ seen earlier. IsReport form c.number seen earlier (subject.Version number) asked) c m d held holds later same
      (λ entries text on report. inl (version, prefix_get m.seen d.seen number version on (stands_at m number version numbered seen), report))
      (subst (λ v. OnOk r (Answers (λ seen earlier. IsReportOf form seen earlier v asked) m d held holds)) is answers)

  pub reports_none : {T E : Type 0} (r : Result T E) (c d : ClientView) (number : ℕ) (asked : Asked) (held holds : Option (List ℕ))
      → HasHeard c → SeesOn c d → IsSameClient c d → length d.seen ≤ number → OnOk r (Appends held holds (no_version_told form))
      → OnOk r (Answers (λ seen earlier. IsReport form c.number seen earlier (subject.Version number) asked) c d held holds)
  reports_none (Err e) c d number asked held holds heard later same past printed = tt
  reports_none (Ok x) c d number asked held holds heard later same past printed =
      prints (λ seen earlier. IsReport form c.number seen earlier (subject.Version number) asked) c d held holds (no_version_told form) heard later same printed
      (inr (unheard c d number heard later same past, (refl, refl)))

  -- the head was asked for, and then reported
  pub reports_head : {T E : Type 0} (r : Result T E) (c m d : ClientView) (session : ℕ) (version shown : PlainVersion) (asked : Asked) (held holds : Option (List ℕ))
      → SeesOn c m → Keeps c (Head session) (At version.number) m → IsSeen m version → shown ≡ version
      → OnOk r (Answers (λ seen earlier. IsReportOf form seen earlier shown asked) m d held holds)
      → OnOk r (Answers (λ seen earlier. IsReport form c.number seen earlier (subject.Head session) asked) c d held holds)
  reports_head (Err e) c m d session version shown asked held holds later kept seen is answers = tt
  reports_head (Ok x) c m d session version shown asked held holds later kept seen is a = record {
    entries = entry c.number (Head session) (At version.number) ∷ a.entries;
    text = a.text;
    number = a.number ∙ kept.0;
    calls = a.calls ∙ ap (λ calls. calls ++ a.entries) kept.1 ∙ append_assoc c.calls (entry c.number (Head session) (At version.number) ∷ []) a.entries;
    later = prefix_trans c.seen m.seen d.seen later a.later;
    heard = a.heard;
    printed = a.printed;
    answers = inr (record {
      head = version.number;
      version = version;
      found = prefix_get m.seen d.seen version.number version a.later seen;
      later = a.entries;
      entry = refl;
      report =
          subst (λ calls. IsReportOf form d.seen calls version asked a.entries a.text) kept.1
          (subst (λ v. IsReportOf form d.seen m.calls v asked a.entries a.text) is a.answers);
    });
  }

  -- the head was refused
  pub reports_refused : {T E : Type 0} (r : Result T E) (c d : ClientView) (session : ℕ) (refusal : Refusal) (asked : Asked) (held holds : Option (List ℕ))
      → HasHeard c → SeesOn c d → Keeps c (Head session) (Refused refusal) d → HasSeen d (Refused refusal)
      → OnOk r (Appends held holds (reply_told form None (Head session) false (Refused refusal)))
      → OnOk r (Answers (λ seen earlier. IsReport form c.number seen earlier (subject.Head session) asked) c d held holds)
  reports_refused (Err e) c d session refusal asked held holds heard later kept seen printed = tt
  reports_refused (Ok x) c d session refusal asked held holds heard later kept seen printed =
      books (λ seen earlier. IsReport form c.number seen earlier (subject.Head session) asked) c d (Head session) (Refused refusal) held holds (reply_told form None (Head session) false (Refused refusal)) heard later (kept, seen) printed
      (inl (record { refusal = refusal; entry = refl; printed = refl }))

  -- ---- edits

  pub edits_none : {T E : Type 0} (r : Result T E) (c d : ClientView) (session number : ℕ) (edits : List Edit) (listed : Bool) (held holds : Option (List ℕ))
      → HasHeard c → SeesOn c d → IsSameClient c d → length d.seen ≤ number
      → OnOk r (Appends held holds (no_version_told form)) → OnOk r (Answers (λ seen earlier. IsChange form c.number seen earlier session (Some number) edits listed) c d held holds)
  edits_none (Err e) c d session number edits listed held holds heard later same past printed = tt
  edits_none (Ok x) c d session number edits listed held holds heard later same past printed =
      prints (λ seen earlier. IsChange form c.number seen earlier session (Some number) edits listed) c d held holds (no_version_told form) heard later same printed
      (inr (unheard c d number heard later same past, (refl, refl)))

  -- a version was read, and then edited
  pub edits_read : {T E : Type 0} (r : Result T E) (c m d : ClientView) (session number : ℕ) (version base : PlainVersion) (edits : List Edit) (listed : Bool) (held holds : Option (List ℕ))
      → SeesOn c m → IsSameClient c m → version.number ≡ number → IsSeen m version → base ≡ version
      → OnOk r (Answers (λ seen earlier. IsCommit form m.number session base.number edits listed base) m d held holds)
      → OnOk r (Answers (λ seen earlier. IsChange form c.number seen earlier session (Some number) edits listed) c d held holds)
  edits_read (Err e) c m d session number version base edits listed held holds later same numbered seen is answers = tt
  edits_read (Ok x) c m d session number version base edits listed held holds later same numbered seen is a = record {
    entries = a.entries;
    text = a.text;
    number = a.number ∙ same.0;
    calls = a.calls ∙ ap (λ calls. calls ++ a.entries) same.1;
    later = prefix_trans c.seen m.seen d.seen later a.later;
    heard = a.heard;
    printed = a.printed;
    answers = inl (
      version,
      prefix_get m.seen d.seen number version a.later (stands_at m number version numbered seen),
      subst (λ n. IsCommit form c.number session n edits listed version a.entries a.text) numbered
          (subst (λ v. IsCommit form c.number session v.number edits listed v a.entries a.text) is
          (subst (λ who. IsCommit form who session base.number edits listed base a.entries a.text) same.0 a.answers)),
    );
  }

  -- the head was asked for, and then edited
  pub edits_head : {T E : Type 0} (r : Result T E) (c m d : ClientView) (session : ℕ) (version base : PlainVersion) (edits : List Edit) (listed : Bool) (held holds : Option (List ℕ))
      → SeesOn c m → Keeps c (Head session) (At version.number) m → IsSeen m version → base ≡ version
      → OnOk r (Answers (λ seen earlier. IsCommit form m.number session base.number edits listed base) m d held holds)
      → OnOk r (Answers (λ seen earlier. IsChange form c.number seen earlier session None edits listed) c d held holds)
  edits_head (Err e) c m d session version base edits listed held holds later kept seen is answers = tt
  edits_head (Ok x) c m d session version base edits listed held holds later kept seen is a = record {
    entries = entry c.number (Head session) (At version.number) ∷ a.entries;
    text = a.text;
    number = a.number ∙ kept.0;
    calls = a.calls ∙ ap (λ calls. calls ++ a.entries) kept.1 ∙ append_assoc c.calls (entry c.number (Head session) (At version.number) ∷ []) a.entries;
    later = prefix_trans c.seen m.seen d.seen later a.later;
    heard = a.heard;
    printed = a.printed;
    answers = inr (record {
      head = version.number;
      version = version;
      found = prefix_get m.seen d.seen version.number version a.later seen;
      later = a.entries;
      entry = refl;
      commit =
          subst (λ v. IsCommit form c.number session v.number edits listed v a.entries a.text) is
          (subst (λ who. IsCommit form who session base.number edits listed base a.entries a.text) kept.0 a.answers);
    });
  }

  -- the head was refused
  pub edits_refused : {T E : Type 0} (r : Result T E) (c d : ClientView) (session : ℕ) (refusal : Refusal) (edits : List Edit) (listed : Bool) (held holds : Option (List ℕ))
      → HasHeard c → SeesOn c d → Keeps c (Head session) (Refused refusal) d → HasSeen d (Refused refusal)
      → OnOk r (Appends held holds (reply_told form None (Head session) listed (Refused refusal)))
      → OnOk r (Answers (λ seen earlier. IsChange form c.number seen earlier session None edits listed) c d held holds)
  edits_refused (Err e) c d session refusal edits listed held holds heard later kept seen printed = tt
  edits_refused (Ok x) c d session refusal edits listed held holds heard later kept seen printed =
      books (λ seen earlier. IsChange form c.number seen earlier session None edits listed) c d (Head session) (Refused refusal) held holds (reply_told form None (Head session) listed (Refused refusal)) heard later (kept, seen) printed
      (inl (record { refusal = refusal; entry = refl; printed = refl }))
