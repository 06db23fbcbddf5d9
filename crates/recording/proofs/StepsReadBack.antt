-- Reading the JSON values of edits and steps gives them back.
use Rattle.std.proofs.Common.{◌≡◌, ◌<◌, ◌≤◌, ◌^◌, ℕ, List, [], ◌∷◌, length, true, false, codes, Option, Some, None, option_map, Ok, All, IfSome, refl, ◌∙◌, arith}
use Rattle.std.specs.Str.{bytes_eq}
use Rattle.std.proofs.lemmas.List.Elements.{All-head, All-tail}
use Rattle.serde_json.specs.Data.{Data}
use Rattle.serde_json.specs.Find.{get, as_array}
use Rattle.stage_graph.specs.EditLists.{edit_list}
use Rattle.stage_graph.specs.declared.edit.Edit.{Edit}
use Rattle.stage_graph.specs.declared.edit.Edit.TheVariants.{PinResult, PinMoment, SetTimes, SetAction, SetEnds, Add, Remove, Rewire}
use Rattle.recording.proofs.ReadBack.{each_is_read_back}
use Rattle.recording.proofs.StagesReadBack.{look, found, or_later-none, required_back, optional_back, absent_back, pin_result_back, pin_moment_back, ends_back, names_back, stage_back}
use Rattle.recording.specs.Forms.{count32_in}
use Rattle.recording.specs.Members.{required}
use Rattle.recording.specs.StepOf.{edit_of, edits_of, with_list_size, step_name_in, session_member, base_member, listed_edit, edit_name_in, step_with, step_in}
use Rattle.recording.specs.WrittenStages.{object_of, items_of, count, stage_rows}
use Rattle.recording.specs.WrittenSteps.{edit_rows, written_edit, step_rows, written_step, IsAsked, IsEdit, IsSubject, EachStepIsReadBack}
use Rattle.recording.specs.declared.edits.EditName.{EditName}
use Rattle.recording.specs.declared.edits.EditName.TheVariants as name
use Rattle.recording.specs.declared.member.Member.TheVariants as member
use Rattle.recording.specs.declared.stage.FormNumber.TheVariants.{Two}
use Rattle.recording.specs.declared.step.Asked.{Asked}
use Rattle.recording.specs.declared.step.Asked.TheVariants.{All as AllStages, One, Blame, Path, Sweep, Changes, Drift, Times, Recording}
use Rattle.recording.specs.declared.step.StepName.TheVariants as step_name
use Rattle.recording.specs.declared.step.Step.TheVariants.{Open, Head, Undo, Close, Change, Report}
use Rattle.recording.specs.declared.step.Subject.{Subject}
use Rattle.recording.specs.declared.step.Subject.TheVariants as subject

-- ---- edits

abbrev edit_name : Edit → EditName
edit_name (PinResult stage result) = name.PinResult
edit_name (PinMoment stage moment) = name.PinMoment
edit_name (SetTimes stage queued runs) = name.SetTimes
edit_name (SetAction stage action) = name.SetAction
edit_name (SetEnds stage ends) = name.SetEnds
edit_name (Add stage) = name.Add
edit_name (Remove stage) = name.Remove
edit_name (Rewire stage sources inner) = name.Rewire

-- the object has the edit's members, beside a session and a base
HasRows : Edit → Data → Type 0
HasRows edit d = (text : List ℕ) → bytes_eq text (codes "session") ≡ false → bytes_eq text (codes "base") ≡ false → get text d ≡ look text (edit_rows edit)

edit_back : (edit : Edit) (d : Data) → IsEdit edit → HasRows edit d → edit_of (edit_name edit) d ≡ Ok edit
unfolding edit_of HasRows
edit_back (PinResult stage result) d h has = rw (has (codes "stage") refl refl, has (codes "result") refl refl, pin_result_back result h) refl
edit_back (PinMoment stage moment) d h has = rw (has (codes "stage") refl refl, has (codes "at") refl refl, pin_moment_back moment) refl
edit_back (SetTimes stage queued runs) d h has = rw (has (codes "stage") refl refl, has (codes "queued") refl refl, has (codes "runs") refl refl) refl
edit_back (SetAction stage action) d h has = rw (has (codes "stage") refl refl, has (codes "action") refl refl, each_is_read_back action h) refl
edit_back (SetEnds stage ends) d h has = rw (has (codes "stage") refl refl, has (codes "ends") refl refl, ends_back ends h) refl
edit_back (Add stage) d h has = rw (has (codes "new") refl refl, found (codes "queued") (stage_rows Two stage), stage_back Two stage h) refl
edit_back (Remove stage) d h has = rw (has (codes "stage") refl refl) refl
edit_back (Rewire stage sources inner) d h has = rw (has (codes "stage") refl refl, has (codes "sources") refl refl, has (codes "inner") refl refl, names_back sources, names_back inner) refl

listed_do : (edit : Edit) → required member.Do edit_name_in (written_edit edit) ≡ Ok (edit_name edit)
listed_do (PinResult stage result) = simp found refl
listed_do (PinMoment stage moment) = simp found refl
listed_do (SetTimes stage queued runs) = simp found refl
listed_do (SetAction stage action) = simp found refl
listed_do (SetEnds stage ends) = simp found refl
listed_do (Add stage) = simp found refl
listed_do (Remove stage) = simp found refl
listed_do (Rewire stage sources inner) = simp found refl

listed_back : (edit : Edit) → IsEdit edit → listed_edit (written_edit edit) ≡ Ok edit
unfolding HasRows
listed_back edit h = rw (listed_do edit, edit_back edit (written_edit edit) h (λ text session base. found text (edit_rows edit))) refl

edits_back : (edits : List Edit) → All IsEdit edits → edits_of (items_of written_edit edits) ≡ Ok edits
edits_back [] h = refl
edits_back (edit ∷ edits) h = rw (listed_back edit (All-head IsEdit edit edits h), edits_back edits (All-tail IsEdit edit edits h)) refl

-- ---- steps

count32_back : (n : ℕ) → n < 2 ^ 32 → count32_in (count n) ≡ Some n
count32_back n h = grind arith

base_back : (base : Option ℕ) (rows : List (List ℕ × Option Data)) → IfSome base (λ n. n < 2 ^ 32)
    → look (codes "base") rows ≡ option_map count base → base_member (object_of rows) ≡ Ok base
base_back None rows h is = absent_back member.Base None _ rows is
base_back (Some n) rows h is = optional_back member.Base None (λ d. option_map Some (count32_in d)) rows (count n) (Some n) is (rw (count32_back n h) refl)

sized : (edits : List Edit) → 1 ≤ length edits → length edits ≤ 64 → with_list_size (edit_list edits) ≡ Ok edits
sized edits some few = grind arith

change_do : (session : ℕ) (base : Option ℕ) (edit : Edit)
    → required member.Do step_name_in (written_step (Change session base (edit ∷ []) false)) ≡ Ok (step_name.Change (edit_name edit))
change_do session base (PinResult stage result) = simp found refl
change_do session base (PinMoment stage moment) = simp found refl
change_do session base (SetTimes stage queued runs) = simp found refl
change_do session base (SetAction stage action) = simp found refl
change_do session base (SetEnds stage ends) = simp found refl
change_do session base (Add stage) = simp found refl
change_do session base (Remove stage) = simp found refl
change_do session base (Rewire stage sources inner) = simp found refl

no_base : (edit : Edit) → look (codes "base") (edit_rows edit) ≡ None
no_base (PinResult stage result) = refl
no_base (PinMoment stage moment) = refl
no_base (SetTimes stage queued runs) = refl
no_base (SetAction stage action) = refl
no_base (SetEnds stage ends) = refl
no_base (Add stage) = refl
no_base (Remove stage) = refl
no_base (Rewire stage sources inner) = refl

-- the edit's members are those of the step, beside its session and its base
change_rows_kept : (session : ℕ) (base : Option ℕ) (edit : Edit) → HasRows edit (written_step (Change session base (edit ∷ []) false))
unfolding HasRows
change_rows_kept session base edit text no_session no_base =
    found text (step_rows (Change session base (edit ∷ []) false)) ∙ rw (no_session, no_base) refl

session_back : (rows : List (List ℕ × Option Data)) (session : ℕ) → session < 2 ^ 32 → look (codes "session") rows ≡ Some (count session) → session_member (object_of rows) ≡ Ok session
session_back rows session h is = required_back member.Session count32_in rows (count session) session is (count32_back session h)

version_report_back : (version : ℕ) (asked : Asked) → version < 2 ^ 32 → IsAsked asked → step_in (written_step (Report (subject.Version version) asked)) ≡ Ok (Report (subject.Version version) asked)
unfolding step_with
version_report_back version AllStages h is = simp (found, count32_back version h) refl
version_report_back version (One stage) h is = simp (found, count32_back version h) refl
version_report_back version (Blame stage) h is = simp (found, count32_back version h) refl
version_report_back version (Path stage) h is = simp (found, count32_back version h) refl
version_report_back version (Sweep stage) h is = simp (found, count32_back version h) refl
version_report_back version (Changes None) h is = simp (found, count32_back version h) refl
version_report_back version (Changes (Some n)) h is = simp (found, count32_back version h, count32_back n is) refl
version_report_back version (Drift None) h is = simp (found, count32_back version h) refl
version_report_back version (Drift (Some n)) h is = simp (found, count32_back version h, count32_back n is) refl
version_report_back version Times h is = simp (found, count32_back version h) refl
version_report_back version Recording h is = simp (found, count32_back version h) refl

session_report_back : (session : ℕ) (asked : Asked) → session < 2 ^ 32 → IsAsked asked → step_in (written_step (Report (subject.Head session) asked)) ≡ Ok (Report (subject.Head session) asked)
unfolding step_with
session_report_back session AllStages h is = simp (found, count32_back session h) refl
session_report_back session (One stage) h is = simp (found, count32_back session h) refl
session_report_back session (Blame stage) h is = simp (found, count32_back session h) refl
session_report_back session (Path stage) h is = simp (found, count32_back session h) refl
session_report_back session (Sweep stage) h is = simp (found, count32_back session h) refl
session_report_back session (Changes None) h is = simp (found, count32_back session h) refl
session_report_back session (Changes (Some n)) h is = simp (found, count32_back session h, count32_back n is) refl
session_report_back session (Drift None) h is = simp (found, count32_back session h) refl
session_report_back session (Drift (Some n)) h is = simp (found, count32_back session h, count32_back n is) refl
session_report_back session Times h is = simp (found, count32_back session h) refl
session_report_back session Recording h is = simp (found, count32_back session h) refl

report_back : (subject : Subject) (asked : Asked) → IsSubject subject → IsAsked asked → step_in (written_step (Report subject asked)) ≡ Ok (Report subject asked)
report_back (subject.Version version) asked h is = version_report_back version asked h is
report_back (subject.Head session) asked h is = session_report_back session asked h is

pub step_back : EachStepIsReadBack
unfolding step_with
step_back (Open session version) h = simp (found, count32_back session h.0, count32_back version h.1) refl
step_back (Head session) h = simp (found, count32_back session h) refl
step_back (Undo session) h = simp (found, count32_back session h) refl
step_back (Close session) h = simp (found, count32_back session h) refl
step_back (Change session base edits true) h =
    let rows = step_rows (Change session base edits true) in
    let is_do = required_back member.Do step_name_in rows _ step_name.Edits refl refl in
    let is_base = base_back base rows h.1 (or_later-none _) in
    let are_edits = required_back member.Edits as_array rows _ (items_of written_edit edits) refl refl in
    rw (is_do, session_back rows session h.0 refl, is_base, are_edits, edits_back edits h.3, sized edits h.2.0 h.2.1) refl
step_back (Change session base (edit ∷ []) false) h =
    let rows = step_rows (Change session base (edit ∷ []) false) in
    let is_base = base_back base rows h.1 (rw (no_base edit) (or_later-none _)) in
    rw (change_do session base edit, session_back rows session h.0 refl, is_base, edit_back edit (object_of rows) (All-head IsEdit edit [] h.3) (change_rows_kept session base edit)) refl
step_back (Change session base [] false) h = absurd (omega (arith, h.2))
step_back (Change session base (edit ∷ other ∷ edits) false) h = absurd (omega (arith, h.2))
step_back (Report subject asked) h = report_back subject asked h.0 h.1
