-- Reading the JSON values of stages and recordings gives them back.
use Rattle.std.proofs.Common.{◌≡◌, ℕ, List, [], ◌∷◌, Bool, true, false, true≢false, codes, if◌then◌else◌, Option, Some, None, option_map, Ok, All, IfSome, IsTrue, refl, sym, ap, ◌∙◌, rules}
use Rattle.std.specs.Str.{bytes_eq}
use Rattle.std.proofs.lemmas.Slice.Eq.{bytes_eq-Decides}
use Rattle.std.proofs.lemmas.List.Elements.{All-head, All-tail}
use Rattle.serde_json.specs.Data.{Data, string, Members}
use Rattle.serde_json.specs.Find.{get_member, get, as_str}
use Rattle.serde_json.proofs.Views.{get_member-put, get_member-put_other}
use Rattle.act_expr.specs.ExceptionName.{is_exception_name}
use Rattle.act_expr.specs.Expression.{Expression}
use Rattle.act_expr.specs.declared.outcome.Value.{Value}
use Rattle.act_expr.specs.declared.outcome.Value.TheVariants.{Null, Num as Long}
use Rattle.act_expr.specs.declared.outcome.Outcome.{Outcome}
use Rattle.act_expr.specs.declared.outcome.Outcome.TheVariants as outcome
use Rattle.act_expr.specs.declared.outcome.Mode.{Mode}
use Rattle.act_expr.specs.declared.outcome.Mode.TheVariants.{Computed, Literal}
use Rattle.stage_graph.specs.Texts.{op_text}
use Rattle.stage_graph.specs.declared.op.Op.{Op}
use Rattle.stage_graph.specs.declared.op.Op.TheVariants.{Async, Manual, Completed, Failed, ThenApply, ThenAccept, ThenRun, Copy, Handle, WhenComplete, Exceptionally, ThenCompose, ExceptionallyCompose, ThenCombine, ThenAcceptBoth, RunAfterBoth, ApplyToEither, AcceptEither, RunAfterEither, AllOf, AnyOf}
use Rattle.stage_graph.specs.declared.end.End.{End}
use Rattle.stage_graph.specs.declared.end.Act.{Act}
use Rattle.stage_graph.specs.declared.end.Act.TheVariants.{Complete, CompleteExceptionally, Cancel, OrTimeout, CompleteOnTimeout}
use Rattle.stage_graph.specs.declared.stage.Spec.{Spec}
use Rattle.recording.proofs.ReadBack.{number_read_back, each_is_read_back}
use Rattle.recording.specs.ExpressionOf.{exception_in}
use Rattle.recording.specs.Forms.{value_in, outcome_in, or_null, count_in, end_in, ends_of, ends_in, names_of, names_in}
use Rattle.recording.specs.Members.{required, optional}
use Rattle.recording.specs.MemberTexts.{member_text}
use Rattle.recording.specs.RecordingOf.{form_in, mode_in, stages_of, stages_member}
use Rattle.recording.specs.StageOf.{op_of, times_of, action_in, spec_of}
use Rattle.recording.specs.Written.{written, IsWellFormed}
use Rattle.recording.specs.WrittenStages.{with_member, members_of, object_of, items_of, count, null_or, written_value, written_outcome, written_end, value_of, throws_of, stage_rows, written_stage, form_number, mode_text, recording_rows, IsValue, IsOutcome, IsAct, AreEnds, IsOp, HasTimes, IsStage, EachRecordingIsReadBack}
use Rattle.recording.specs.declared.member.Member.{Member}
use Rattle.recording.specs.declared.member.Member.TheVariants as member
use Rattle.recording.specs.declared.recording.Recording.{Recording}
use Rattle.recording.specs.declared.stage.FormNumber.{FormNumber}
use Rattle.recording.specs.declared.stage.FormNumber.TheVariants.{One, Two}

-- ---- the value that an object with these members has at a name

abbrev pub or_later : Option Data → Option Data → Option Data
or_later None later = later
or_later (Some d) later = Some d

pub or_later-none : (o : Option Data) → or_later o None ≡ o
or_later-none None = refl
or_later-none (Some d) = refl

-- the first value that the members have at a name
abbrev pub look : List ℕ → List (List ℕ × Option Data) → Option Data
look name [] = None
look name (row ∷ rows) = if bytes_eq name row.0 then or_later row.1 (look name rows) else look name rows

found_beside : (b : Bool) (name other : List ℕ) (o : Option Data) (ms : Members) (later : Option Data)
    → bytes_eq name other ≡ b → get_member name ms ≡ later
    → get_member name (with_member other o ms) ≡ (if b then or_later o later else later)
found_beside true name other None ms later is rest = rest
found_beside false name other None ms later is rest = rest
found_beside true name other (Some d) ms later is rest = rw ((bytes_eq-Decides name other).0 is) (get_member-put other d ms)
found_beside false name other (Some d) ms later is rest =
    get_member-put_other name other d ms (λ same. true≢false (sym ((bytes_eq-Decides name other).1 same) ∙ is)) ∙ rest

pub found : (name : List ℕ) (rows : List (List ℕ × Option Data)) → get_member name (members_of rows) ≡ look name rows
unfolding members_of
found name [] = refl
found name (row ∷ rows) = found_beside (bytes_eq name row.0) name row.0 row.1 (members_of rows) (look name rows) refl (found name rows)

pub required_back : {A : Type 0} (m : Member) (form : Data → Option A) (rows : List (List ℕ × Option Data)) (d : Data) (a : A)
    → look (member_text m) rows ≡ Some d → form d ≡ Some a → required m form (object_of rows) ≡ Ok a
required_back m form rows d a there is = rw (found (member_text m) rows, there, is) refl

pub optional_back : {A : Type 0} (m : Member) (default : A) (form : Data → Option A) (rows : List (List ℕ × Option Data)) (d : Data) (a : A)
    → look (member_text m) rows ≡ Some d → form d ≡ Some a → optional m default form (object_of rows) ≡ Ok a
optional_back m default form rows d a there is = rw (found (member_text m) rows, there, is) refl

pub absent_back : {A : Type 0} (m : Member) (default : A) (form : Data → Option A) (rows : List (List ℕ × Option Data))
    → look (member_text m) rows ≡ None → optional m default form (object_of rows) ≡ Ok default
absent_back m default form rows absent = rw (found (member_text m) rows, absent) refl

-- ---- values, outcomes and ends

value_back : (value : Value) → IsValue value → value_in (written_value value) ≡ Some value
value_back Null h = refl
value_back (Long z) h = rw (number_read_back z h) refl

exception_back : (name : List ℕ) → IsTrue (is_exception_name name) → exception_in (string name) ≡ Some name
exception_back name h = search rules

outcome_back : (o : Outcome) → IsOutcome o → outcome_in (written_outcome o) ≡ Some o
outcome_back (outcome.Value value) h = simp (found, value_back value h) refl
outcome_back (outcome.Bare name) h = simp (found, exception_back name h) refl
outcome_back (outcome.Wrapped name) h = simp (found, exception_back name h) refl

pub pin_result_back : (o : Option Outcome) → IfSome o IsOutcome → or_null outcome_in (null_or written_outcome o) ≡ Some o
pin_result_back None h = refl
pin_result_back (Some (outcome.Value value)) h = ap (option_map Some) (outcome_back (outcome.Value value) h)
pin_result_back (Some (outcome.Bare name)) h = ap (option_map Some) (outcome_back (outcome.Bare name) h)
pin_result_back (Some (outcome.Wrapped name)) h = ap (option_map Some) (outcome_back (outcome.Wrapped name) h)

pub pin_moment_back : (o : Option ℕ) → or_null count_in (null_or count o) ≡ Some o
pin_moment_back None = refl
pin_moment_back (Some n) = refl

end_back : (at : ℕ) (act : Act) → IsAct act → end_in (written_end (record { at = at; act = act })) ≡ Some (record { at = at; act = act })
end_back at (Complete value) h = simp (found, value_back value h) refl
end_back at (CompleteExceptionally name) h = simp (found, exception_back name h) refl
end_back at Cancel h = simp found refl
end_back at (OrTimeout delay) h = simp found refl
end_back at (CompleteOnTimeout delay value) h = simp (found, value_back value h) refl

pub ends_back : (ends : List End) → AreEnds ends → ends_of (items_of written_end ends) ≡ Some ends
ends_back [] h = refl
ends_back (end ∷ ends) h = rw (end_back end.at end.act (All-head (λ (e : End). IsAct e.act) end ends h), ends_back ends (All-tail (λ (e : End). IsAct e.act) end ends h)) refl

pub names_back : (names : List (List ℕ)) → names_of (items_of string names) ≡ Some names
names_back [] = refl
names_back (name ∷ names) = rw (names_back names) refl

-- ---- stages and recordings

op_back : (op : Op) (d : Data) → IsOp op → get (codes "op") d ≡ Some (string (op_text op))
    → get (codes "value") d ≡ value_of op → get (codes "throws") d ≡ throws_of op → op_of d ≡ Ok op
op_back (Completed value) d h is v t = rw (is, v, value_back value h) refl
op_back (Failed name) d h is v t = rw (is, t, exception_back name h) refl
op_back Async d h is v t = rw is refl
op_back Manual d h is v t = rw is refl
op_back ThenApply d h is v t = rw is refl
op_back ThenAccept d h is v t = rw is refl
op_back ThenRun d h is v t = rw is refl
op_back Copy d h is v t = rw is refl
op_back Handle d h is v t = rw is refl
op_back WhenComplete d h is v t = rw is refl
op_back Exceptionally d h is v t = rw is refl
op_back ThenCompose d h is v t = rw is refl
op_back ExceptionallyCompose d h is v t = rw is refl
op_back ThenCombine d h is v t = rw is refl
op_back ThenAcceptBoth d h is v t = rw is refl
op_back RunAfterBoth d h is v t = rw is refl
op_back ApplyToEither d h is v t = rw is refl
op_back AcceptEither d h is v t = rw is refl
op_back RunAfterEither d h is v t = rw is refl
op_back AllOf d h is v t = rw is refl
op_back AnyOf d h is v t = rw is refl

action_back : (action : Option Expression) (rows : List (List ℕ × Option Data)) → IfSome action IsWellFormed
    → look (codes "action") rows ≡ option_map written action → optional member.Action None action_in (object_of rows) ≡ Ok action
action_back None rows h is = absent_back member.Action None action_in rows is
action_back (Some action) rows h is = optional_back member.Action None action_in rows (written action) (Some action) is (rw (each_is_read_back action h) refl)

times_back : (form : FormNumber) (stage : Spec) → HasTimes form stage → times_of form (written_stage form stage) ≡ Ok (record { queued = stage.queued; runs = stage.runs })
times_back One stage h = simp found (ap (λ queued. Ok (record { queued = queued; runs = stage.runs })) (sym h))
times_back Two stage h = simp found refl

pub stage_back : (form : FormNumber) (stage : Spec) → IsStage form stage → spec_of form (written_stage form stage) ≡ Ok stage
unfolding spec_of
stage_back form stage h =
    let rows = stage_rows form stage in
    let is_name = required_back member.Name as_str rows _ stage.name refl refl in
    let is_op = op_back stage.op (object_of rows) h.op (found (codes "op") rows)
    (found (codes "value") rows ∙ or_later-none _) (found (codes "throws") rows ∙ or_later-none _) in
    let are_sources = optional_back member.Sources [] names_in rows _ stage.sources refl (names_back stage.sources) in
    let are_inner = optional_back member.Inner [] names_in rows _ stage.inner refl (names_back stage.inner) in
    let is_created = optional_back member.Created 0 count_in rows _ stage.created refl refl in
    let is_action = action_back stage.action rows h.action (or_later-none _) in
    let is_result = optional_back member.PinResult None (or_null outcome_in) rows _ stage.pin_result refl (pin_result_back stage.pin_result h.pin_result) in
    let is_moment = optional_back member.PinMoment None (or_null count_in) rows _ stage.pin_moment refl (pin_moment_back stage.pin_moment) in
    let are_ends = optional_back member.Ends [] ends_in rows _ stage.ends refl (ends_back stage.ends h.ends) in
    rw (is_name, is_op, are_sources, are_inner, is_created, times_back form stage h.times, is_action, is_result, is_moment, are_ends) refl

stages_back : (form : FormNumber) (stages : List Spec) → All (IsStage form) stages → stages_of form (items_of (written_stage form) stages) ≡ Ok stages
stages_back form [] h = refl
stages_back form (stage ∷ stages) h =
    rw (stage_back form stage (All-head (IsStage form) stage stages h), stages_back form stages (All-tail (IsStage form) stage stages h)) refl

mode_back : (mode : Mode) → mode_in (string (mode_text mode)) ≡ Some mode
mode_back Computed = refl
mode_back Literal = refl

form_back : (form : FormNumber) → form_in (count (form_number form)) ≡ Some form
form_back One = refl
form_back Two = refl

member_back : (form : FormNumber) (recording : Recording) → All (IsStage form) recording.stages
    → stages_member form (object_of (recording_rows form recording)) ≡ Ok recording.stages
unfolding stages_member
member_back form recording h = rw (found (codes "stages") (recording_rows form recording)) (stages_back form recording.stages h)

pub recording_back : EachRecordingIsReadBack
recording_back form recording h =
    let rows = recording_rows form recording in
    let is_form = optional_back member.Form One form_in rows _ form refl (form_back form) in
    let is_mode = optional_back member.Wrap Computed mode_in rows _ recording.mode refl (mode_back recording.mode) in
    rw (is_form, is_mode, member_back form recording h) refl
