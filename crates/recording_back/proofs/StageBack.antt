-- A stage and a recording are what is read from their JSON, whatever labels stand beside them.
use Rattle.std.proofs.Common.{◌≡◌, ℕ, pos, Bool, true, false, List, [], ◌∷◌, ◌++◌, length, All, IfSome, IsTrue, Option, Some, None, option_map, option_and_then, unwrap_or, Ok, codes, nat_lt, if◌then◌else◌, refl, sym, ap, ◌∙◌, arith, rules, append-nil, le-ltb, ltb-false}
use Rattle.std.proofs.lemmas.Fmt.{decimal_digit}
use Rattle.std.proofs.lemmas.List.Elements.{All-cons, All-head, All-nil, All-tail}
use Rattle.json.specs.Json as json
use Rattle.json.specs.Tree.{json_tokens, HasNumbers}
use Rattle.json.proofs.Printed.Trees.{value-json_tokens}
use Rattle.serde_json.specs.Data.{Data, string, number, array}
use Rattle.serde_json.specs.Find.{get, as_str}
use Rattle.serde_json.specs.Read.{max_depth, number_of, of_json, read}
use Rattle.serde_json.proofs.Numbers.{number_of-decimal}
use Rattle.act_expr.specs.ExceptionName.{is_exception_name}
use Rattle.act_expr.specs.Expression.{Expression}
use Rattle.act_expr.specs.declared.outcome.Value.{Value}
use Rattle.act_expr.specs.declared.outcome.Value.TheVariants.{Null, Num as Long}
use Rattle.act_expr.specs.declared.outcome.Outcome.{Outcome}
use Rattle.act_expr.specs.declared.outcome.Mode.{Mode}
use Rattle.act_expr.specs.declared.outcome.Mode.TheVariants.{Computed, Literal}
use Rattle.stage_graph.specs.Texts.{op_text}
use Rattle.stage_graph.specs.declared.op.Op.{Op}
use Rattle.stage_graph.specs.declared.op.Op.TheVariants.{Async, Manual, Completed, Failed, ThenApply, ThenAccept, ThenRun, Copy, Handle, WhenComplete, Exceptionally, ThenCompose, ExceptionallyCompose, ThenCombine, ThenAcceptBoth, RunAfterBoth, ApplyToEither, AcceptEither, RunAfterEither, AllOf, AnyOf}
use Rattle.stage_graph.specs.declared.end.End.{End}
use Rattle.stage_graph.specs.declared.stage.Spec.{Spec}
use Rattle.recording.proofs.ReadBack.{number_read_back, each_is_read_back}
use Rattle.recording.proofs.StagesReadBack.{found, or_later-none, look, required_back, optional_back, absent_back, pin_result_back, pin_moment_back, ends_back, names_back}
use Rattle.recording.specs.ExpressionOf.{exception_in}
use Rattle.recording.specs.Forms.{value_in, outcome_in, or_null, count_in, ends_in, names_in}
use Rattle.recording.specs.Members.{optional}
use Rattle.recording.specs.MemberTexts.{member_text}
use Rattle.recording.specs.RecordingOf.{form_of_number, mode_in, stages_of, stages_member, recording_of, longest}
use Rattle.recording.specs.StageOf.{op_of, times_of, action_in, spec_of}
use Rattle.recording.specs.Written.{written, IsWellFormed}
use Rattle.recording.specs.WrittenStages as forms
use Rattle.recording.specs.WrittenStages.{AreEnds, IsOp, IsOutcome, IsValue, mode_text}
use Rattle.recording.specs.declared.member.Member.{Member}
use Rattle.recording.specs.declared.member.Member.TheVariants as member
use Rattle.recording_text.specs.Json.{Row, items_of, row, stage_rows}
use Rattle.recording_text.specs.Labels.{Labelled, PlainHead, PlainLabel, group_row, head_rows, json_in, json_with, label_rows, mode_row, recording_with}
use Rattle.recording_back.specs.ReadBack.{EachIsReadBack, IsBeside, IsLabel, IsLabelled, IsWritable, recording_members, specs_in, stage_members}
use Rattle.recording_back.proofs.Good.{IsGood, good_deeper, string_good, items_good}
use Rattle.recording_back.proofs.Passed.{each_other, labels_passed, past_one}
use Rattle.recording_back.proofs.StageRows.{IsGoodRow, beside_good, beside_onto, group_data, label_data, meant, onto, object_good, some_data, some_number, stage_data, stage_good}
use Rattle.recording_back.proofs.StageTexts.{text_utf8}
use Rattle.recording_back.proofs.TextTokens.{text_tokens, two}

-- ---- members that may be left out

abbrev IsFrom : {A : Type 0} → (Data → Option A) → A → Option Data → A → Type 0
IsFrom form default None a = default ≡ a
IsFrom form default (Some d) a = form d ≡ Some a

optional_from : {A : Type 0} (m : Member) (default : A) (form : Data → Option A) (rows : List (List ℕ × Option Data)) (o : Option Data) (a : A)
    → look (member_text m) rows ≡ o → IsFrom form default o a → optional m default form (forms.object_of rows) ≡ Ok a
optional_from m default form rows None a there is = absent_back m default form rows there ∙ ap Ok is
optional_from m default form rows (Some d) a there is = optional_back m default form rows d a there is

names_from : (names : List (List ℕ)) → IsFrom names_in [] (some_data string names) names
names_from [] = refl
names_from (name ∷ names) = names_back (name ∷ names)

number_from : (b : Bool) (n : ℕ) → nat_lt 0 n ≡ b → IsFrom count_in 0 (if b then Some (forms.count n) else None) n
number_from true n h = refl
number_from false n h = omega (arith, ltb-false 0 n h)

action_from : (action : Option Expression) → IfSome action IsWellFormed → IsFrom action_in None (option_map written action) action
action_from None h = refl
action_from (Some action) h = rw (each_is_read_back action h) refl

result_from : (pin : Option Outcome) → IfSome pin IsOutcome → IsFrom (or_null outcome_in) None (option_map forms.written_outcome pin) pin
result_from None h = refl
result_from (Some outcome) h = pin_result_back (Some outcome) h

moment_from : (pin : Option ℕ) → IsFrom (or_null count_in) None (option_map forms.count pin) pin
moment_from None = refl
moment_from (Some moment) = pin_moment_back (Some moment)

ends_from : (ends : List End) → AreEnds ends → IsFrom ends_in [] (some_data forms.written_end ends) ends
ends_from [] h = refl
ends_from (end ∷ ends) h = ends_back (end ∷ ends) h

-- ---- operations

value_back : (value : Value) → IsValue value → value_in (forms.written_value value) ≡ Some value
value_back Null h = refl
value_back (Long z) h = rw (number_read_back z h) refl

exception_back : (name : List ℕ) → IsTrue (is_exception_name name) → exception_in (string name) ≡ Some name
exception_back name h = search rules

op_back : (op : Op) (d : Data) → IsOp op → get (codes "op") d ≡ Some (string (op_text op))
    → get (codes "value") d ≡ forms.value_of op → get (codes "throws") d ≡ forms.throws_of op → op_of d ≡ Ok op
op_back (Completed value) d h is v t = rw (is, v, value_back value h) refl
op_back (Failed name) d h is v t = rw (is, t, exception_back name h) refl
op_back Async d h is v t = rw is refl
op_back Manual d h is v t = rw is refl
op_back ThenApply d h is v t = rw is refl
op_back ThenAccept d h is v t = rw is refl
op_back ThenRun d h is v t = rw is refl
op_back Copy d h is v t = rw is refl
op_back Handle d h is v t = rw is refl
op_back WhenComplete d h is v t = rw is refl
op_back Exceptionally d h is v t = rw is refl
op_back ThenCompose d h is v t = rw is refl
op_back ExceptionallyCompose d h is v t = rw is refl
op_back ThenCombine d h is v t = rw is refl
op_back ThenAcceptBoth d h is v t = rw is refl
op_back RunAfterBoth d h is v t = rw is refl
op_back ApplyToEither d h is v t = rw is refl
op_back AcceptEither d h is v t = rw is refl
op_back RunAfterEither d h is v t = rw is refl
op_back AllOf d h is v t = rw is refl
op_back AnyOf d h is v t = rw is refl

-- ---- stages

from_some : {A : Type 0} {a b : A} → Some a ≡ Some b → a ≡ b
from_some {A} {a} {b} e = cc

-- in the form that 2 names
times_back : (rows : List (List ℕ × Option Data)) (queued runs : ℕ) → look (codes "takes") rows ≡ None
    → optional member.Queued 0 count_in (forms.object_of rows) ≡ Ok queued → optional member.Runs 0 count_in (forms.object_of rows) ≡ Ok runs
    → option_map (λ form. times_of form (forms.object_of rows)) (form_of_number (pos 2)) ≡ Some (Ok (record { queued = queued; runs = runs }))
times_back rows queued runs absent is also = rw (found (codes "takes") rows, absent, is, also) refl

stage_back : (stage : Spec) (labels : List PlainLabel) → IsWritable stage → All (IsLabel stage_members) labels
    → option_map (λ form. spec_of form (meant (stage, labels))) (form_of_number (pos 2)) ≡ Some (Ok stage)
unfolding spec_of
stage_back stage labels h k =
    let base = onto (stage_rows stage) (stage_data stage) [] in
    let rows = onto (label_rows labels) (label_data labels) base in
    let from_name = labels_passed stage_members labels base k in
    let from_value = from_name.1.1 in
    let from_sources = from_value.1.1 in
    let from_created = from_sources.1.1 in
    let from_queued = from_created.1.1 in
    let from_action = from_queued.1.1 in
    let from_moment = from_action.1.1 in
    let is_name = required_back member.Name as_str rows (string stage.name) stage.name from_name.0 refl in
    let is_op = op_back stage.op (forms.object_of rows) h.op (found (codes "op") rows ∙ from_name.1.0)
    (found (codes "value") rows ∙ from_value.0 ∙ or_later-none (forms.value_of stage.op)) (found (codes "throws") rows ∙ from_value.1.0 ∙ or_later-none (forms.throws_of stage.op)) in
    let are_sources = optional_from member.Sources [] names_in rows (some_data string stage.sources) stage.sources (from_sources.0 ∙ or_later-none (some_data string stage.sources)) (names_from stage.sources) in
    let are_inner = optional_from member.Inner [] names_in rows (some_data string stage.inner) stage.inner (from_sources.1.0 ∙ or_later-none (some_data string stage.inner)) (names_from stage.inner) in
    let is_created = optional_from member.Created 0 count_in rows (some_number stage.created) stage.created (from_created.0 ∙ or_later-none (some_number stage.created)) (number_from (nat_lt 0 stage.created) stage.created refl) in
    let is_queued = optional_from member.Queued 0 count_in rows (some_number stage.queued) stage.queued (from_queued.0 ∙ or_later-none (some_number stage.queued)) (number_from (nat_lt 0 stage.queued) stage.queued refl) in
    let is_runs = optional_from member.Runs 0 count_in rows (some_number stage.runs) stage.runs (from_queued.1.0 ∙ or_later-none (some_number stage.runs)) (number_from (nat_lt 0 stage.runs) stage.runs refl) in
    let are_times = from_some (times_back rows stage.queued stage.runs from_created.1.0 is_queued is_runs) in
    let is_action = optional_from member.Action None action_in rows (option_map written stage.action) stage.action (from_action.0 ∙ or_later-none (option_map written stage.action)) (action_from stage.action h.action) in
    let is_result = optional_from member.PinResult None (or_null outcome_in) rows (option_map forms.written_outcome stage.pin_result) stage.pin_result (from_action.1.0 ∙ or_later-none (option_map forms.written_outcome stage.pin_result)) (result_from stage.pin_result h.pin_result) in
    let is_moment = optional_from member.PinMoment None (or_null count_in) rows (option_map forms.count stage.pin_moment) stage.pin_moment (from_moment.0 ∙ or_later-none (option_map forms.count stage.pin_moment)) (moment_from stage.pin_moment) in
    let are_ends = optional_from member.Ends [] ends_in rows (some_data forms.written_end stage.ends) stage.ends (from_moment.1.0 ∙ or_later-none (some_data forms.written_end stage.ends)) (ends_from stage.ends h.ends) in
    rw (is_name, is_op, are_sources, are_inner, is_created, are_times, is_action, is_result, is_moment, are_ends) refl

stages_back : (stages : List Labelled) → All IsLabelled stages → option_map (λ form. stages_of form (forms.items_of meant stages)) (form_of_number (pos 2)) ≡ Some (Ok (specs_in stages))
stages_back [] h = refl
stages_back (stage ∷ stages) h =
    let first = All-head IsLabelled stage stages h in
    rw (from_some (stage_back stage.0 stage.1 first.writable first.labels), from_some (stages_back stages (All-tail IsLabelled stage stages h))) refl

-- ---- recordings

abbrev stages_row : List Labelled → Row
stages_row stages = row (codes "stages") (json.array (items_of json_in stages))

abbrev rows_of : Option Mode → PlainHead → List Labelled → List Row
rows_of mode head stages = head_rows mode head ++ stages_row stages ∷ []

abbrev mode_data : Option Mode → Option Data
mode_data mode = option_map (λ named. string (mode_text named)) mode

abbrev data_of : Option Mode → PlainHead → List Labelled → List (Option Data)
data_of mode head stages = Some (forms.count 2) ∷ mode_data mode ∷ ((label_data head.0 ++ group_data head.1.1 ∷ []) ++ Some (array (forms.items_of meant stages)) ∷ [])

-- the same with the last one first
abbrev back_rows : Option Mode → PlainHead → List Labelled → List (List ℕ × Option Data)
back_rows mode head stages =
    (codes "stages", Some (array (forms.items_of meant stages)))
    ∷ (head.1.0, group_data head.1.1)
    ∷ onto (label_rows head.0) (label_data head.0) ((codes "wrap", mode_data mode) ∷ (codes "form", Some (forms.count 2)) ∷ [])

two_good : IsGood 102 (json.number (codes "2")) (forms.count 2)
two_good = record {
  numbers = two;
  shallow = omega arith;
  read = ap (option_map number) (ap number_of (sym (decimal_digit 2 (omega arith))) ∙ number_of-decimal 2 (omega arith));
}

mode_good : (mode : Option Mode) → IsGoodRow 102 (mode_row mode).1 (mode_data mode)
mode_good None = tt
mode_good (Some named) = good_deeper 0 102 _ _ (omega arith) (string_good (mode_text named))

each_good : (stages : List Labelled) → All IsLabelled stages → All (λ stage. IsGood 101 (json_in stage) (meant stage)) stages
each_good [] h = All-nil (λ (s : Labelled). IsGood 101 (json_in s) (meant s))
each_good (stage ∷ stages) h =
    All-cons (λ (s : Labelled). IsGood 101 (json_in s) (meant s)) stage stages (stage_good stage.0 stage.1 (All-head IsLabelled stage stages h).writable) (each_good stages (All-tail IsLabelled stage stages h))

each_numbers : (stages : List Labelled) → All IsLabelled stages → All (λ stage. HasNumbers (json_in stage)) stages
each_numbers [] h = All-nil (λ (s : Labelled). HasNumbers (json_in s))
each_numbers (stage ∷ stages) h =
    All-cons (λ (s : Labelled). HasNumbers (json_in s)) stage stages (stage_good stage.0 stage.1 (All-head IsLabelled stage stages h).writable).numbers (each_numbers stages (All-tail IsLabelled stage stages h))

recording_good : (mode : Option Mode) (head : PlainHead) (stages : List Labelled) → All IsLabelled stages → IsGood 103 (json_with mode head stages) (forms.object_of (onto (rows_of mode head stages) (data_of mode head stages) []))
recording_good mode head stages h =
    let items = items_good 101 json_in meant stages (each_good stages h) in
    let last : IsGood 102 (json.array (items_of json_in stages)) (array (forms.items_of meant stages))
    = record { numbers = items.numbers; shallow = omega (arith, items.shallow); read = rw items.read refl } in
    object_good 102 (rows_of mode head stages) (data_of mode head stages) (
      two_good,
      (mode_good mode, beside_good 102 head.0 head.1.1 head.1.0 (codes "stages") (Some (json.array (items_of json_in stages))) (Some (array (forms.items_of meant stages))) (omega arith) last),
    )

mode_back : (mode : Mode) → mode_in (string (mode_text mode)) ≡ Some mode
mode_back Computed = refl
mode_back Literal = refl

mode_from : (mode : Option Mode) → IsFrom mode_in Computed (mode_data mode) (unwrap_or mode Computed)
mode_from None = refl
mode_from (Some mode) = mode_back mode

member_back : (mode : Option Mode) (head : PlainHead) (stages : List Labelled) → All IsLabelled stages
    → option_map (λ form. stages_member form (forms.object_of (back_rows mode head stages))) (form_of_number (pos 2)) ≡ Some (Ok (specs_in stages))
unfolding stages_member
member_back mode head stages h = rw (found (codes "stages") (back_rows mode head stages)) (stages_back stages h)

-- the form and the mode stand before the labels
module _ (mode : Option Mode) (head : PlainHead) (stages : List Labelled) (beside : IsBeside head) where
  abbrev first_rows : List (List ℕ × Option Data)
  first_rows = (codes "wrap", mode_data mode) ∷ (codes "form", Some (forms.count 2)) ∷ []

  abbrev label_first : List (List ℕ × Option Data)
  label_first = onto (label_rows head.0) (label_data head.0) first_rows

  form_there : look (codes "form") (back_rows mode head stages) ≡ Some (forms.count 2)
  form_there =
      past_one (codes "form") head.1.0 (group_data head.1.1) label_first (each_other recording_members head.1.0 beside.unread).0
      ∙ (labels_passed recording_members head.0 first_rows beside.labels).0

  mode_there : look (codes "wrap") (back_rows mode head stages) ≡ mode_data mode
  mode_there =
      past_one (codes "wrap") head.1.0 (group_data head.1.1) label_first (each_other recording_members head.1.0 beside.unread).1.0
      ∙ (labels_passed recording_members head.0 first_rows beside.labels).1.0
      ∙ or_later-none (mode_data mode)

recording_back : (mode : Option Mode) (head : PlainHead) (stages : List Labelled) → IsBeside head → All IsLabelled stages
    → recording_of (forms.object_of (onto (rows_of mode head stages) (data_of mode head stages) [])) ≡ Ok (record { mode = unwrap_or mode Computed; stages = specs_in stages })
recording_back mode head stages beside h =
    let rows = back_rows mode head stages in
    let is_mode = optional_from member.Wrap Computed mode_in rows (mode_data mode) (unwrap_or mode Computed) (mode_there mode head stages beside) (mode_from mode) in
    ap (λ (l : List (List ℕ × Option Data)). recording_of (forms.object_of l))
    (beside_onto head.0 (group_row head.1) (stages_row stages) (group_data head.1.1) (Some (array (forms.items_of meant stages))) ((codes "wrap", mode_data mode) ∷ (codes "form", Some (forms.count 2)) ∷ []))
    ∙ rw (found (codes "form") rows ∙ form_there mode head stages beside, is_mode, from_some (member_back mode head stages h)) refl

-- ---- texts

text_read : (mode : Option Mode) (head : PlainHead) (stages : List Labelled) → All IsLabelled stages
    → read (recording_with mode head stages) ≡ Some (forms.object_of (onto (rows_of mode head stages) (data_of mode head stages) []))
text_read mode head stages h =
    let good = recording_good mode head stages h in
    ap (λ ts. option_and_then of_json (option_and_then (λ p. json.if_last p.0 p.1) (json.value max_depth ts))) (text_tokens mode head stages (each_numbers stages h) ∙ sym (append-nil (json_tokens (json_with mode head stages))))
    ∙ ap (λ o. option_and_then of_json (option_and_then (λ p. json.if_last p.0 p.1) o)) (value-json_tokens (json_with mode head stages) max_depth [] (omega (arith, good.shallow)))
    ∙ good.read

pub read_back : EachIsReadBack
read_back mode head stages beside h short =
    rw (le-ltb longest (length (recording_with mode head stages)) short, text_utf8 mode head stages beside h, text_read mode head stages h) (recording_back mode head stages beside h)
