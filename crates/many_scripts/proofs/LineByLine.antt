-- How the answers to lines are put together.
use Rattle.std.proofs.Common.{◌≡◌, ℕ, ◌+◌, inl, inr, arith, length, List, [], ◌∷◌, ◌++◌, refl, sym, ap, ◌∙◌, subst, append_assoc, append-nil, Bool, Option, Some, None, Result, Ok, Err, OnOk}
use Rattle.std.specs.Io.KnownBytes.{Appends}
use Rattle.std.proofs.KnownBytes.{Appends-nil, Appends-trans}
use mathlib.Core.List.{IsPrefix}
use Rattle.stage_graph.specs.declared.edit.Edit.{Edit}
use Rattle.version_store.specs.Plain.{PlainVersion}
use Rattle.recording.specs.Reads.{IsRead}
use Rattle.recording.specs.StepOf.{step_of}
use Rattle.recording.specs.declared.fault.Fault.{Fault}
use Rattle.recording.specs.declared.step.Asked.{Asked}
use Rattle.recording.specs.declared.step.Subject.{Subject}
use Rattle.recording.specs.declared.step.Subject.TheVariants as subject
use Rattle.recording.specs.declared.step.Step.{Step}
use Rattle.recording.specs.declared.step.Step.TheVariants as step
use Rattle.script_lines.specs.Lines.{ScriptLine, kept, too_long}
use Rattle.session_core.specs.declared.event.Entry.{Entry}
use Rattle.report_form.specs.Forms.{form_of}
use Rattle.report_form.specs.declared.form.Form.{Form}
use Rattle.report_form.specs.declared.form.Format.{Format}
use Rattle.serve_script.specs.Answers.{against_in}
use Rattle.serve_script.specs.Told.{fault_told}
use Rattle.desk.specs.Clients.{ClientView}
use Rattle.many_scripts.specs.Played.{AtVersion, IsChange, IsLine, IsNamed, IsPlayed, IsReport, IsReportAgainst, IsStep}
use Rattle.many_scripts.specs.Playing.{Answers, HasHeard}
use Rattle.many_scripts.proofs.Beginnings.{prefix_get, prefix_self, prefix_trans}
use Rattle.many_scripts.proofs.Heard.{answers_weaker, prints}

-- ---- a line

-- the desk was not asked
pub tells : (P : List PlainVersion → List Entry → List Entry → List ℕ → Type 0) (c : ClientView) (held holds : Option (List ℕ)) (text : List ℕ)
    → HasHeard c → Appends held holds text → P c.seen c.calls [] text → Answers P c c held holds
tells P c held holds text heard printed answers = prints P c c held holds text heard (prefix_self c.seen) (refl, refl) printed answers

module _ (form : Form) where
  -- the step that was read
  pub names_step : {T E : Type 0} (r : Result T E) (c d : ClientView) (s : Step) (meant : Result Step Fault) (held holds : Option (List ℕ)) → meant ≡ Ok s
      → OnOk r (Answers (λ seen earlier. IsStep form c.number seen earlier s) c d held holds)
      → OnOk r (Answers (λ seen earlier. IsNamed form c.number seen earlier meant) c d held holds)
  names_step r c d s meant held holds is answers =
      subst (λ m. OnOk r (Answers (λ seen earlier. IsNamed form c.number seen earlier m) c d held holds)) (sym is) answers

  -- the fault that was found
  pub names_fault : {T E : Type 0} (r : Result T E) (c : ClientView) (fault : Fault) (meant : Result Step Fault) (held holds : Option (List ℕ)) → HasHeard c → IsRead (Err fault) meant
      → OnOk r (((m : Result Step Fault) → IsRead (Err fault) m → m ≡ Err fault) × Appends held holds (fault_told form fault))
      → OnOk r (Answers (λ seen earlier. IsNamed form c.number seen earlier meant) c c held holds)
  names_fault (Err e) c fault meant held holds heard read told = tt
  names_fault (Ok x) c fault meant held holds heard read (only, printed) =
      subst (λ m. Answers (λ seen earlier. IsNamed form c.number seen earlier m) c c held holds) (sym (only meant read))
      (tells (λ seen earlier. IsNamed form c.number seen earlier (Err fault)) c held holds (fault_told form fault) heard printed (refl, refl))

pub tells_fault : {T E : Type 0} (r : Result T E) (P : List PlainVersion → List Entry → List Entry → List ℕ → Type 0) (c : ClientView) (held holds : Option (List ℕ)) (text : List ℕ)
    → HasHeard c → P c.seen c.calls [] text → OnOk r (Appends held holds text) → OnOk r (Answers P c c held holds)
tells_fault (Err e) P c held holds text heard is printed = tt
tells_fault (Ok x) P c held holds text heard is printed = tells P c held holds text heard printed is

-- ---- lines

-- one line
pub played_line : (format : Format) (number who : ℕ) (seen : List PlainVersion) (earlier : List Entry) (line : Option ScriptLine) (entries : List Entry) (text : List ℕ)
    → IsLine (form_of format (Some number)) who seen earlier line entries text → IsPlayed format number who seen earlier (line ∷ []) entries text
played_line format number who seen earlier line entries text is = record {
  here = entries;
  told = text;
  later = [];
  rest = [];
  first = is;
  entries_are = sym (append-nil entries);
  text_is = sym (append-nil text);
  others = (refl, refl);
}

pub plays_line : (format : Format) (number : ℕ) (c d : ClientView) (line : Option ScriptLine) (held holds : Option (List ℕ))
    → Answers (λ known earlier. IsLine (form_of format (Some number)) c.number known earlier line) c d held holds
    → Answers (λ known earlier. IsPlayed format number c.number known earlier (line ∷ [])) c d held holds
plays_line format number c d line held holds answers =
    answers_weaker (λ known earlier. IsLine (form_of format (Some number)) c.number known earlier line) (λ known earlier. IsPlayed format number c.number known earlier (line ∷ [])) c d held holds
    (λ entries text. played_line format number c.number d.seen c.calls line entries text) answers

pub plays_none : (format : Format) (number : ℕ) (c : ClientView) (held : Option (List ℕ)) → HasHeard c → Answers (λ known earlier. IsPlayed format number c.number known earlier []) c c held held
plays_none format number c held heard = tells (λ known earlier. IsPlayed format number c.number known earlier []) c held held [] heard (Appends-nil held) (refl, refl)

-- a blank line
pub plays_blank : (form : Form) (c : ClientView) (held : Option (List ℕ)) → HasHeard c → Answers (λ known earlier. IsLine form c.number known earlier None) c c held held
plays_blank form c held heard = tells (λ known earlier. IsLine form c.number known earlier None) c held held [] heard (Appends-nil held) (refl, refl)

-- ---- versions that are seen later

at_later : (seen more : List PlainVersion) (earlier : List Entry) (number : ℕ) (Found : PlainVersion → Type 0) (Missing : Type 0) → IsPrefix seen more
    → AtVersion seen earlier number Found Missing → AtVersion more earlier number Found Missing
at_later seen more earlier number Found Missing later (inl (version, found, is)) = inl (version, prefix_get seen more number version later found, is)
at_later seen more earlier number Found Missing later (inr missing) = inr missing

change_later : (form : Form) (who : ℕ) (seen more : List PlainVersion) (earlier : List Entry) (session : ℕ) (base : Option ℕ) (edits : List Edit) (listed : Bool) (entries : List Entry) (text : List ℕ) → IsPrefix seen more
    → IsChange form who seen earlier session base edits listed entries text → IsChange form who more earlier session base edits listed entries text
change_later form who seen more earlier session None edits listed entries text later (inl refused) = inl refused
change_later form who seen more earlier session None edits listed entries text later (inr at) = inr (record {
  head = at.head;
  version = at.version;
  found = prefix_get seen more at.head at.version later at.found;
  later = at.later;
  entry = at.entry;
  commit = at.commit;
})
change_later form who seen more earlier session (Some base) edits listed entries text later is = at_later seen more earlier base _ _ later is

against_later : (form : Form) (seen more : List PlainVersion) (earlier : List Entry) (version : PlainVersion) (asked : Asked) (number : Option ℕ) (entries : List Entry) (text : List ℕ) → IsPrefix seen more
    → IsReportAgainst form seen earlier version asked number entries text → IsReportAgainst form more earlier version asked number entries text
against_later form seen more earlier version asked None entries text later is = is
against_later form seen more earlier version asked (Some number) entries text later is = at_later seen more earlier number _ _ later is

report_later : (form : Form) (who : ℕ) (seen more : List PlainVersion) (earlier : List Entry) (s : Subject) (asked : Asked) (entries : List Entry) (text : List ℕ) → IsPrefix seen more
    → IsReport form who seen earlier s asked entries text → IsReport form who more earlier s asked entries text
report_later form who seen more earlier (subject.Version number) asked entries text later (inl (version, found, is)) =
    inl (version, prefix_get seen more number version later found, against_later form seen more earlier version asked (against_in asked) entries text later is)
report_later form who seen more earlier (subject.Version number) asked entries text later (inr missing) = inr missing
report_later form who seen more earlier (subject.Head session) asked entries text later (inl refused) = inl refused
report_later form who seen more earlier (subject.Head session) asked entries text later (inr at) = inr (record {
  head = at.head;
  version = at.version;
  found = prefix_get seen more at.head at.version later at.found;
  later = at.later;
  entry = at.entry;
  report = against_later form seen more _ at.version asked (against_in asked) at.later text later at.report;
})

step_later : (form : Form) (who : ℕ) (seen more : List PlainVersion) (earlier : List Entry) (s : Step) (entries : List Entry) (text : List ℕ) → IsPrefix seen more
    → IsStep form who seen earlier s entries text → IsStep form who more earlier s entries text
step_later form who seen more earlier (step.Open session version) entries text later is = is
step_later form who seen more earlier (step.Head session) entries text later is = is
step_later form who seen more earlier (step.Undo session) entries text later is = is
step_later form who seen more earlier (step.Close session) entries text later is = is
step_later form who seen more earlier (step.Change session base edits listed) entries text later is = change_later form who seen more earlier session base edits listed entries text later is
step_later form who seen more earlier (step.Report subject asked) entries text later is = report_later form who seen more earlier subject asked entries text later is

named_later : (form : Form) (who : ℕ) (seen more : List PlainVersion) (earlier : List Entry) (meant : Result Step Fault) (entries : List Entry) (text : List ℕ) → IsPrefix seen more
    → IsNamed form who seen earlier meant entries text → IsNamed form who more earlier meant entries text
named_later form who seen more earlier (Ok s) entries text later is = step_later form who seen more earlier s entries text later is
named_later form who seen more earlier (Err fault) entries text later is = is

line_later : (form : Form) (who : ℕ) (seen more : List PlainVersion) (earlier : List Entry) (line : Option ScriptLine) (entries : List Entry) (text : List ℕ) → IsPrefix seen more
    → IsLine form who seen earlier line entries text → IsLine form who more earlier line entries text
line_later form who seen more earlier (Some (kept bytes)) entries text later is = named_later form who seen more earlier (step_of bytes) entries text later is
line_later form who seen more earlier None entries text later is = is
line_later form who seen more earlier (Some too_long) entries text later is = is

pub played_later : (format : Format) (number who : ℕ) (seen more : List PlainVersion) (lines : List (Option ScriptLine)) (earlier entries : List Entry) (text : List ℕ) → IsPrefix seen more
    → IsPlayed format number who seen earlier lines entries text → IsPlayed format number who more earlier lines entries text
played_later format number who seen more [] earlier entries text later is = is
played_later format number who seen more (line ∷ lines) earlier entries text later is = record {
  here = is.here;
  told = is.told;
  later = is.later;
  rest = is.rest;
  first = line_later (form_of format (Some number)) who seen more earlier line is.here is.told later is.first;
  entries_are = is.entries_are;
  text_is = is.text_is;
  others = played_later format (number + 1) who seen more lines (earlier ++ is.here) is.later is.rest later is.others;
}

-- ---- lines after lines

pub played_on : (format : Format) (number who : ℕ) (seen : List PlainVersion) (lines others : List (Option ScriptLine)) (earlier entries more : List Entry) (text rest : List ℕ)
    → IsPlayed format number who seen earlier lines entries text → IsPlayed format (number + length lines) who seen (earlier ++ entries) others more rest → IsPlayed format number who seen earlier (lines ++ others) (entries ++ more) (text ++ rest)
played_on format number who seen [] others earlier entries more text rest (none, nothing) is =
    let here = subst (λ n. IsPlayed format n who seen earlier others more rest) (let same : number + 0 ≡ number = omega arith in same)
    (subst (λ es. IsPlayed format (number + 0) who seen es others more rest) (ap (λ es. earlier ++ es) none ∙ append-nil earlier) is) in
    subst (λ es. IsPlayed format number who seen earlier others (es ++ more) (text ++ rest)) (sym none)
    (subst (λ t. IsPlayed format number who seen earlier others more (t ++ rest)) (sym nothing) here)
played_on format number who seen (line ∷ lines) others earlier entries more text rest is next = record {
  here = is.here;
  told = is.told;
  later = is.later ++ more;
  rest = is.rest ++ rest;
  first = is.first;
  entries_are = ap (λ es. es ++ more) is.entries_are ∙ append_assoc is.here is.later more;
  text_is = ap (λ t. t ++ rest) is.text_is ∙ append_assoc is.told is.rest rest;
  others = played_on format (number + 1) who seen lines others (earlier ++ is.here) is.later more is.rest rest is.others
      (subst (λ n. IsPlayed format n who seen ((earlier ++ is.here) ++ is.later) others more rest) (let same : number + length (line ∷ lines) ≡ (number + 1) + length lines = omega arith in same)
      (subst (λ es. IsPlayed format (number + length (line ∷ lines)) who seen es others more rest) (ap (λ es. earlier ++ es) is.entries_are ∙ sym (append_assoc earlier is.here is.later)) next));
}

pub plays_on : (format : Format) (number : ℕ) (c m d : ClientView) (lines others : List (Option ScriptLine)) (a b e : Option (List ℕ))
    → Answers (λ known earlier. IsPlayed format number c.number known earlier lines) c m a b → Answers (λ known earlier. IsPlayed format (number + length lines) m.number known earlier others) m d b e
    → Answers (λ known earlier. IsPlayed format number c.number known earlier (lines ++ others)) c d a e
plays_on format number c m d lines others a b e first next = record {
  entries = first.entries ++ next.entries;
  text = first.text ++ next.text;
  number = next.number ∙ first.number;
  calls = next.calls ∙ ap (λ calls. calls ++ next.entries) first.calls ∙ append_assoc c.calls first.entries next.entries;
  later = prefix_trans c.seen m.seen d.seen first.later next.later;
  heard = next.heard;
  printed = Appends-trans a b e first.text next.text first.printed next.printed;
  answers = played_on format number c.number d.seen lines others c.calls first.entries next.entries first.text next.text
      (played_later format number c.number m.seen d.seen lines c.calls first.entries first.text next.later first.answers)
      (subst (λ calls. IsPlayed format (number + length lines) c.number d.seen calls others next.entries next.text) first.calls
      (subst (λ who. IsPlayed format (number + length lines) who d.seen m.calls others next.entries next.text) first.number next.answers));
}
