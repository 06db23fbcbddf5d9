-- What was written in answer.
use Rattle.std.proofs.Common.{◌≡◌, ◌⊎◌, inl, inr, ◌∙◌, ℕ, ◌+◌, Bool, false, List, [], ◌∷◌, ◌++◌, Option, Some, None, unwrap_or, Result, Ok, Err, OnOk, OnErr, ap, sym, subst, refl}
use Rattle.std.specs.Io.KnownBytes.{Appends}
use Rattle.text_io.specs.Sink.{AppendsPrefix, Advances, StopsShort}
use Rattle.text_io.proofs.Written.{AppendsPrefix-after, AppendsPrefix-longer}
use Rattle.std.proofs.KnownBytes.{Appends-nil, Appends-trans}
use Rattle.script_lines.specs.Lines.{ScriptLine}
use Rattle.stage_graph.specs.declared.edit.Edit.{Edit}
use Rattle.version_store.specs.Plain.{PlainVersion}
use Rattle.session_core.specs.Machine.{State, step}
use Rattle.session_core.specs.declared.event.Event.{Event}
use Rattle.session_core.specs.declared.event.Event.TheVariants.{Head, Commit}
use Rattle.session_core.specs.declared.event.Reply.{Reply}
use Rattle.session_core.specs.declared.event.Reply.TheVariants.{Opened, At, Committed, Undone, Closed, Refused, Memory as OutOfMemory}
use Rattle.serve_script.specs.Answers.{IsAnswered, Answered, answered, answer_event, answer_head, answer_line, answer_stand, answers_from, or_no_stage, report_among, report_asked, told, told_asked, on_head, on_stand, after_head, after_stand}
use Rattle.recording.specs.Reads.{IsRead}
use Rattle.recording.specs.declared.fault.Fault.{Fault}
use Rattle.recording.specs.declared.fault.Fault.TheVariants.{Memory}
use Rattle.recording.specs.declared.fault.Fault.TheVariants as fault
use Rattle.recording.specs.declared.step.Asked.{Asked}
use Rattle.recording.specs.declared.step.Asked.TheVariants as asked
use Rattle.recording.specs.declared.step.Step.{Step}
use Rattle.report_form.specs.Forms.{form_of}
use Rattle.report_form.specs.declared.form.Form.{Form}
use Rattle.report_form.specs.declared.form.Format.{Format}
use Rattle.serve_script.specs.Replies.{base_in}
use Rattle.serve_script.specs.Told.{reply_told}

-- ---- one line

pub advances : {T E : Type 0} (r : Result T E) (format : Format) (number : ℕ) (form : Form) (s t : State) (line : Option ScriptLine) (a b : Option (List ℕ))
    → form ≡ form_of format (Some number) → OnOk r (IsAnswered (answer_line form s line) t a b)
    → OnOk r (Advances (λ lines. answers_from format number s (line ∷ lines)) (answers_from format (number + 1) t) a b)
advances (Err e) format number form s t line a b formed answered = tt
advances (Ok x) format number form s t line a b formed (is, appends) = record {
  written = (answer_line form s line).0;
  appends = appends;
  left = λ lines.
      ap (λ f. (answer_line f s line).0 ++ answers_from format (number + 1) (answer_line f s line).1 lines) (sym formed)
      ∙ ap (λ u. (answer_line form s line).0 ++ answers_from format (number + 1) u lines) (sym is);
}

pub stops_short : {T E : Type 0} (r : Result T E) (format : Format) (number : ℕ) (form : Form) (s : State) (line : Option ScriptLine) (a b : Option (List ℕ))
    → form ≡ form_of format (Some number) → OnErr r (AppendsPrefix a b (answer_line form s line).0)
    → OnErr r (StopsShort (λ lines. answers_from format number s (line ∷ lines)) a b)
stops_short (Ok x) format number form s line a b formed stop = tt
stops_short (Err e) format number form s line a b formed stop = λ lines.
    AppendsPrefix-longer a b _ (answers_from format (number + 1) (answer_line (form_of format (Some number)) s line).1 lines)
    (subst (λ f. AppendsPrefix a b (answer_line f s line).0) formed stop)

-- nothing is written of a blank line
pub skips : (format : Format) (number : ℕ) (s : State) (line : Option ScriptLine) (a : Option (List ℕ)) → line ≡ None
    → Advances (λ lines. answers_from format number s (line ∷ lines)) (answers_from format (number + 1) s) a a
skips format number s line a none = record {
  written = [];
  appends = Appends-nil a;
  left = λ lines. ap (λ l. answers_from format number s (l ∷ lines)) none;
}

-- ---- a line that names no step

pub fault_read : (fault : Fault) (meant : Result Step Fault) → IsRead (Err fault) meant → (fault ≡ Memory → ⊥) → meant ≡ Err fault
fault_read (fault.Refused refused) meant read none = absurd read
fault_read (fault.Cycle path) meant read none = absurd read
fault_read Memory meant read none = absurd (none refl)
fault_read fault.TooLong meant read none = read
fault_read fault.Json meant read none = read
fault_read (fault.Shape member) meant read none = read
fault_read fault.ListSize meant read none = read

-- ---- the reply to an event

pub event_told : (form : Form) (s t : State) (event : Event) (listed : Bool) (reply : Reply) → step s event ≡ Some (reply, t)
    → answer_event form s event listed ≡ answered (reply_told form (base_in t event) event listed reply) t
event_told form s t event listed reply is = ap (told form s event listed) is

-- ---- the reply to edits of the head

pub head_edited : (form : Form) (s t : State) (session base : ℕ) (edits given : List Edit) (listed : Bool) (reply : Reply) → step s (Head session) ≡ Some (reply, t) → reply ≡ At base → given ≡ edits
    → answer_head form s session edits listed ≡ answer_event form t (Commit session base given) listed
head_edited form s t session base edits given listed reply is at same =
    ap (after_head form session edits listed s) is ∙ ap (on_head form session edits listed t) at ∙ ap (λ e. answer_event form t (Commit session base e) listed) (sym same)

other_reply : (form : Form) (session : ℕ) (edits : List Edit) (listed : Bool) (t : State) (reply : Reply) → ((base : ℕ) → reply ≡ At base → ⊥)
    → on_head form session edits listed t reply ≡ answered (reply_told form None (Head session) listed reply) t
other_reply form session edits listed t (At base) none = absurd (none base refl)
other_reply form session edits listed t (Opened version) none = refl
other_reply form session edits listed t (Committed version) none = refl
other_reply form session edits listed t (Undone version) none = refl
other_reply form session edits listed t Closed none = refl
other_reply form session edits listed t (Refused refusal) none = refl
other_reply form session edits listed t OutOfMemory none = refl

pub head_refused : (form : Form) (s t : State) (session : ℕ) (edits : List Edit) (listed : Bool) (reply : Reply) → step s (Head session) ≡ Some (reply, t) → ((base : ℕ) → reply ≡ At base → ⊥)
    → answer_head form s session edits listed ≡ answered (reply_told form None (Head session) listed reply) t
head_refused form s t session edits listed reply is none = ap (after_head form session edits listed s) is ∙ other_reply form session edits listed t reply none

-- ---- a report of the version at which a session stands

pub stand_told : (form : Form) (s t : State) (session version : ℕ) (asked : Asked) (reply : Reply) → step s (Head session) ≡ Some (reply, t) → reply ≡ At version
    → answer_stand form s session asked ≡ answered (report_among form t.versions version asked) t
stand_told form s t session version asked reply is at = ap (after_stand form session asked s) is ∙ ap (on_stand form session asked t) at

not_standing : (form : Form) (session : ℕ) (asked : Asked) (t : State) (reply : Reply) → ((version : ℕ) → reply ≡ At version → ⊥)
    → on_stand form session asked t reply ≡ answered (reply_told form None (Head session) false reply) t
not_standing form session asked t (At version) none = absurd (none version refl)
not_standing form session asked t (Opened version) none = refl
not_standing form session asked t (Committed version) none = refl
not_standing form session asked t (Undone version) none = refl
not_standing form session asked t Closed none = refl
not_standing form session asked t (Refused refusal) none = refl
not_standing form session asked t OutOfMemory none = refl

pub stand_refused : (form : Form) (s t : State) (session : ℕ) (asked : Asked) (reply : Reply) → step s (Head session) ≡ Some (reply, t) → ((version : ℕ) → reply ≡ At version → ⊥)
    → answer_stand form s session asked ≡ answered (reply_told form None (Head session) false reply) t
stand_refused form s t session asked reply is none = ap (after_stand form session asked s) is ∙ not_standing form session asked t reply none

-- ---- parts of answers

pub all_of : {T E : Type 0} (r : Result T E) (x y : Answered) (t : State) (a b : Option (List ℕ)) → y ≡ x → OnOk r (IsAnswered x t a b) → OnOk r (IsAnswered y t a b)
all_of r x y t a b same all = subst (λ z. OnOk r (IsAnswered z t a b)) (sym same) all

pub whole_of : {T E : Type 0} (r : Result T E) (a b : Option (List ℕ)) (text more : List ℕ) → more ≡ text → OnOk r (Appends a b text) → OnOk r (Appends a b more)
whole_of r a b text more same whole = subst (λ l. OnOk r (Appends a b l)) (sym same) whole

pub part_of : {T E : Type 0} (r : Result T E) (a b : Option (List ℕ)) (text more : List ℕ) → more ≡ text → OnErr r (AppendsPrefix a b text) → OnErr r (AppendsPrefix a b more)
part_of r a b text more same part = subst (λ l. OnErr r (AppendsPrefix a b l)) (sym same) part

-- the state is what it was
pub stays : {T E : Type 0} (r : Result T E) (text : List ℕ) (t : State) (a b : Option (List ℕ)) → OnOk r (Appends a b text) → OnOk r (IsAnswered (answered text t) t a b)
stays (Ok x) text t a b written = (refl, written)
stays (Err e) text t a b written = tt

-- ---- a report of one version

pub is_told : (form : Form) (version : PlainVersion) (against : Option PlainVersion) (a : Asked)
    → (a ≡ asked.All) ⊎ ((name : List ℕ) × (a ≡ asked.One name)) ⊎ ((name : List ℕ) × (a ≡ asked.Blame name)) ⊎ ((name : List ℕ) × (a ≡ asked.Path name)) ⊎ (a ≡ asked.Times)
    → report_asked form version against a ≡ told_asked form version a
is_told form version against a (inl is) = subst (λ x. report_asked form version against x ≡ told_asked form version x) (sym is) refl
is_told form version against a (inr (inl (name, is))) = subst (λ x. report_asked form version against x ≡ told_asked form version x) (sym is) refl
is_told form version against a (inr (inr (inl (name, is)))) = subst (λ x. report_asked form version against x ≡ told_asked form version x) (sym is) refl
is_told form version against a (inr (inr (inr (inl (name, is))))) = subst (λ x. report_asked form version against x ≡ told_asked form version x) (sym is) refl
is_told form version against a (inr (inr (inr (inr is)))) = subst (λ x. report_asked form version against x ≡ told_asked form version x) (sym is) refl

-- ---- a report of no stage

no_front : (front rest : List ℕ) → [] ≡ front ++ rest → front ≡ []
no_front [] rest is = refl
no_front (byte ∷ bytes) rest is = cc

nothing_written : (o : Option (List ℕ)) (a b : Option (List ℕ)) → o ≡ None → AppendsPrefix a b (unwrap_or o []) → Appends a b []
nothing_written o a b none (rest, so_far) =
    subst (Appends a b) (no_front so_far.written rest (sym (ap (λ p. unwrap_or p []) none) ∙ so_far.whole)) so_far.appends

pub then_told : {T E : Type 0} (r : Result T E) (form : Form) (o : Option (List ℕ)) (a b c : Option (List ℕ)) → o ≡ None → AppendsPrefix a b (unwrap_or o [])
    → OnOk r (Appends b c (or_no_stage form None)) → OnOk r (Appends a c (or_no_stage form o))
then_told (Ok x) form o a b c none part all =
    subst (λ p. Appends a c (or_no_stage form p)) (sym none) (Appends-trans a b c [] (or_no_stage form None) (nothing_written o a b none part) all)
then_told (Err e) form o a b c none part all = tt

pub then_part_told : {T E : Type 0} (r : Result T E) (form : Form) (o : Option (List ℕ)) (a b c : Option (List ℕ)) → o ≡ None → AppendsPrefix a b (unwrap_or o [])
    → OnErr r (AppendsPrefix b c (or_no_stage form None)) → OnErr r (AppendsPrefix a c (or_no_stage form o))
then_part_told (Ok x) form o a b c none part all = tt
then_part_told (Err e) form o a b c none part all =
    subst (λ p. AppendsPrefix a c (or_no_stage form p)) (sym none) (AppendsPrefix-after a b c [] (or_no_stage form None) (nothing_written o a b none part) all)
