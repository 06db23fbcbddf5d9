-- The JSON of a stage is read as the members of the stage, and as its labels.
use Rattle.std.proofs.Common.{◌≡◌, ◌≤◌, ◌<◌, ◌^◌, ℕ, suc, Bool, true, false, List, [], ◌∷◌, ◌++◌, map, All, IfSome, Option, Some, None, option_map, nat_lt, if◌then◌else◌, refl, arith}
use Rattle.std.specs.Prelude.{⊤}
use Rattle.std.proofs.lemmas.List.Elements.{All-cons, All-head, All-nil, All-tail}
use Rattle.json.specs.Json as json
use Rattle.json.specs.Json.{Json}
use Rattle.json.specs.Tree as tree
use Rattle.json.specs.Tree.{MembersHaveNumbers}
use Rattle.serde_json.specs.Data.{Data, string}
use Rattle.serde_json.specs.Read.{of_members}
use Rattle.act_expr.specs.Expression.{Expression, depth}
use Rattle.act_expr.specs.declared.outcome.Outcome.{Outcome}
use Rattle.stage_graph.specs.Checks.{delay_of}
use Rattle.stage_graph.specs.Texts.{op_text}
use Rattle.stage_graph.specs.declared.op.Op.{Op}
use Rattle.stage_graph.specs.declared.op.Op.TheVariants.{Async, Manual, Completed, Failed, ThenApply, ThenAccept, ThenRun, Copy, Handle, WhenComplete, Exceptionally, ThenCompose, ExceptionallyCompose, ThenCombine, ThenAcceptBoth, RunAfterBoth, ApplyToEither, AcceptEither, RunAfterEither, AllOf, AnyOf}
use Rattle.stage_graph.specs.declared.end.End.{End}
use Rattle.stage_graph.specs.declared.stage.Spec.{Spec}
use Rattle.recording.specs.Written.{written, IsWellFormed}
use Rattle.recording.specs.WrittenStages as forms
use Rattle.recording.specs.WrittenStages.{AreEnds, IsAct, IsOp, IsOutcome}
use Rattle.recording_text.specs.Json.{Row, some_of, members_of, count, value_of, throws_of, action_json, outcome_json, end_json, stage_rows}
use Rattle.recording_text.specs.Labels.{Labelled, PlainLabel, label_rows, labelled_json, labels_json}
use Rattle.recording_back.specs.ReadBack.{IsWritable}
use Rattle.recording_back.proofs.Good.{IsGood, good_deeper, string_good, count_good, value_good, action_good, outcome_good, end_good, items_good, strings_good}

-- ---- rows, and the values that are read of them

abbrev pub IsGoodRow : ℕ → Option Json → Option Data → Type 0
IsGoodRow most None None = ⊤
IsGoodRow most (Some j) (Some d) = IsGood most j d
IsGoodRow most None (Some d) = ⊥
IsGoodRow most (Some j) None = ⊥

abbrev pub AreGoodRows : ℕ → List Row → List (Option Data) → Type 0
AreGoodRows most [] ds = ⊤
AreGoodRows most (row ∷ rows) [] = ⊥
AreGoodRows most (row ∷ rows) (d ∷ ds) = IsGoodRow most row.1 d × AreGoodRows most rows ds

-- the values under the names of the rows, the last one first
abbrev pub onto : List Row → List (Option Data) → List (List ℕ × Option Data) → List (List ℕ × Option Data)
onto [] ds named = named
onto (row ∷ rows) [] named = named
onto (row ∷ rows) (d ∷ ds) named = onto rows ds ((row.0, d) ∷ named)

rows_numbers : (most : ℕ) (rows : List Row) (ds : List (Option Data)) → AreGoodRows most rows ds → MembersHaveNumbers (members_of rows)
rows_numbers most [] ds h = tt
rows_numbers most ((name, o) ∷ rows) [] h = absurd h
rows_numbers most ((name, None) ∷ rows) (None ∷ ds) h = rows_numbers most rows ds h.1
rows_numbers most ((name, None) ∷ rows) (Some d ∷ ds) h = absurd h.0
rows_numbers most ((name, Some j) ∷ rows) (None ∷ ds) h = absurd h.0
rows_numbers most ((name, Some j) ∷ rows) (Some d ∷ ds) h = (h.0.numbers, rows_numbers most rows ds h.1)

rows_shallow : (most : ℕ) (rows : List Row) (ds : List (Option Data)) → AreGoodRows most rows ds → tree.members_depth (members_of rows) ≤ most
rows_shallow most [] ds h = omega arith
rows_shallow most ((name, o) ∷ rows) [] h = absurd h
rows_shallow most ((name, None) ∷ rows) (None ∷ ds) h = rows_shallow most rows ds h.1
rows_shallow most ((name, None) ∷ rows) (Some d ∷ ds) h = absurd h.0
rows_shallow most ((name, Some j) ∷ rows) (None ∷ ds) h = absurd h.0
rows_shallow most ((name, Some j) ∷ rows) (Some d ∷ ds) h = omega (arith, h.0.shallow, rows_shallow most rows ds h.1)

rows_read : (most : ℕ) (rows : List Row) (ds : List (Option Data)) (named : List (List ℕ × Option Data)) → AreGoodRows most rows ds
    → of_members (members_of rows) (forms.members_of named) ≡ Some (forms.members_of (onto rows ds named))
unfolding forms.members_of
rows_read most [] ds named h = refl
rows_read most ((name, o) ∷ rows) [] named h = absurd h
rows_read most ((name, None) ∷ rows) (None ∷ ds) named h = rows_read most rows ds ((name, None) ∷ named) h.1
rows_read most ((name, None) ∷ rows) (Some d ∷ ds) named h = absurd h.0
rows_read most ((name, Some j) ∷ rows) (None ∷ ds) named h = absurd h.0
rows_read most ((name, Some j) ∷ rows) (Some d ∷ ds) named h = rw h.0.read (rows_read most rows ds ((name, Some d) ∷ named) h.1)

pub object_good : (most : ℕ) (rows : List Row) (ds : List (Option Data)) → AreGoodRows most rows ds → IsGood (suc most) (json.object (members_of rows)) (forms.object_of (onto rows ds []))
unfolding forms.members_of
object_good most rows ds h = record {
  numbers = rows_numbers most rows ds h;
  shallow = omega (arith, rows_shallow most rows ds h);
  read = rw (rows_read most rows ds [] h) refl;
}

-- ---- the members of a stage

abbrev pub some_data : {A : Type 0} → (A → Data) → List A → Option Data
some_data write [] = None
some_data write (a ∷ rest) = Some (forms.array_of write (a ∷ rest))

abbrev pub some_number : ℕ → Option Data
some_number n = if nat_lt 0 n then Some (forms.count n) else None

abbrev pub stage_data : Spec → List (Option Data)
stage_data stage =
    Some (string stage.name)
    ∷ Some (string (op_text stage.op))
    ∷ forms.value_of stage.op
    ∷ forms.throws_of stage.op
    ∷ some_data string stage.sources
    ∷ some_data string stage.inner
    ∷ some_number stage.created
    ∷ some_number stage.queued
    ∷ some_number stage.runs
    ∷ option_map written stage.action
    ∷ option_map forms.written_outcome stage.pin_result
    ∷ option_map forms.count stage.pin_moment
    ∷ some_data forms.written_end stage.ends
    ∷ []

op_row : (op : Op) → IsOp op → IsGoodRow 100 (value_of op) (forms.value_of op) × IsGoodRow 100 (throws_of op) (forms.throws_of op)
op_row (Completed value) h = (good_deeper 0 100 _ _ (omega arith) (value_good value h), tt)
op_row (Failed name) h = (tt, good_deeper 0 100 _ _ (omega arith) (string_good name))
op_row Async h = (tt, tt)
op_row Manual h = (tt, tt)
op_row ThenApply h = (tt, tt)
op_row ThenAccept h = (tt, tt)
op_row ThenRun h = (tt, tt)
op_row Copy h = (tt, tt)
op_row Handle h = (tt, tt)
op_row WhenComplete h = (tt, tt)
op_row Exceptionally h = (tt, tt)
op_row ThenCompose h = (tt, tt)
op_row ExceptionallyCompose h = (tt, tt)
op_row ThenCombine h = (tt, tt)
op_row ThenAcceptBoth h = (tt, tt)
op_row RunAfterBoth h = (tt, tt)
op_row ApplyToEither h = (tt, tt)
op_row AcceptEither h = (tt, tt)
op_row RunAfterEither h = (tt, tt)
op_row AllOf h = (tt, tt)
op_row AnyOf h = (tt, tt)

names_row : (names : List (List ℕ)) → IsGoodRow 100 (some_of json.string names) (some_data string names)
names_row [] = tt
names_row (name ∷ names) =
    let good = strings_good (name ∷ names) in
    record { numbers = good.numbers; shallow = omega (arith, good.shallow); read = rw good.read refl }

number_row : (b : Bool) (n : ℕ) → n < 2 ^ 64 → IsGoodRow 100 (if b then Some (count n) else None) (if b then Some (forms.count n) else None)
number_row true n h = good_deeper 0 100 _ _ (omega arith) (count_good n h)
number_row false n h = tt

action_row : (action : Option Expression) → IfSome action IsWellFormed → IfSome action (λ e. depth e ≤ 100) → IsGoodRow 100 (option_map action_json action) (option_map written action)
action_row None h k = tt
action_row (Some e) h k = good_deeper (depth e) 100 _ _ k (action_good e h)

result_row : (pin : Option Outcome) → IfSome pin IsOutcome → IsGoodRow 100 (option_map outcome_json pin) (option_map forms.written_outcome pin)
result_row None h = tt
result_row (Some outcome) h = good_deeper 1 100 _ _ (omega arith) (outcome_good outcome h)

moment_row : (pin : Option ℕ) → IfSome pin (λ moment. moment < 2 ^ 64) → IsGoodRow 100 (option_map count pin) (option_map forms.count pin)
moment_row None h = tt
moment_row (Some moment) h = good_deeper 0 100 _ _ (omega arith) (count_good moment h)

each_end : (ends : List End) → AreEnds ends → All (λ end. (end.at < 2 ^ 64) × (delay_of end.act < 2 ^ 64)) ends → All (λ end. IsGood 1 (end_json end) (forms.written_end end)) ends
each_end [] h k = All-nil (λ (e : End). IsGood 1 (end_json e) (forms.written_end e))
each_end (end ∷ ends) h k =
    let ticks = All-head (λ (e : End). (e.at < 2 ^ 64) × (delay_of e.act < 2 ^ 64)) end ends k in
    All-cons (λ (e : End). IsGood 1 (end_json e) (forms.written_end e)) end ends
    (end_good end.at end.act (All-head (λ (e : End). IsAct e.act) end ends h) ticks.0 ticks.1)
    (each_end ends (All-tail (λ (e : End). IsAct e.act) end ends h) (All-tail (λ (e : End). (e.at < 2 ^ 64) × (delay_of e.act < 2 ^ 64)) end ends k))

ends_row : (ends : List End) → AreEnds ends → All (λ end. (end.at < 2 ^ 64) × (delay_of end.act < 2 ^ 64)) ends → IsGoodRow 100 (some_of end_json ends) (some_data forms.written_end ends)
ends_row [] h k = tt
ends_row (end ∷ ends) h k =
    let good = items_good 1 end_json forms.written_end (end ∷ ends) (each_end (end ∷ ends) h k) in
    record { numbers = good.numbers; shallow = omega (arith, good.shallow); read = rw good.read refl }

-- ---- labels

abbrev pub label_data : List PlainLabel → List (Option Data)
label_data labels = map (λ label. Some (string label.1)) labels

labels_good : (most : ℕ) (labels : List PlainLabel) → AreGoodRows most (label_rows labels) (label_data labels)
labels_good most [] = tt
labels_good most (label ∷ labels) = (good_deeper 0 most _ _ (omega arith) (string_good label.1), labels_good most labels)

-- a group of labels, which is left out where it has none
abbrev pub group_data : List PlainLabel → Option Data
group_data [] = None
group_data (label ∷ labels) = Some (forms.object_of (onto (label_rows (label ∷ labels)) (label_data (label ∷ labels)) []))

group_good : (most : ℕ) (labels : List PlainLabel) → 1 ≤ most → IsGoodRow most (labels_json labels) (group_data labels)
group_good most [] deep = tt
group_good most (label ∷ labels) deep = good_deeper 1 most _ _ deep (object_good 0 (label_rows (label ∷ labels)) (label_data (label ∷ labels)) (labels_good 0 (label ∷ labels)))

-- labels, a group of them, and a member behind these
pub beside_good : (most : ℕ) (labels grouped : List PlainLabel) (group last : List ℕ) (j : Option Json) (d : Option Data) → 1 ≤ most → IsGoodRow most j d
    → AreGoodRows most ((label_rows labels ++ (group, labels_json grouped) ∷ []) ++ (last, j) ∷ []) ((label_data labels ++ group_data grouped ∷ []) ++ d ∷ [])
beside_good most [] grouped group last j d deep good = (group_good most grouped deep, (good, tt))
beside_good most (label ∷ labels) grouped group last j d deep good = (good_deeper 0 most _ _ (omega arith) (string_good label.1), beside_good most labels grouped group last j d deep good)

pub beside_onto : (labels : List PlainLabel) (g l : Row) (gd ld : Option Data) (named : List (List ℕ × Option Data))
    → onto ((label_rows labels ++ g ∷ []) ++ l ∷ []) ((label_data labels ++ gd ∷ []) ++ ld ∷ []) named ≡ (l.0, ld) ∷ (g.0, gd) ∷ onto (label_rows labels) (label_data labels) named
beside_onto [] g l gd ld named = refl
beside_onto (label ∷ labels) g l gd ld named = beside_onto labels g l gd ld ((label.0, Some (string label.1)) ∷ named)

-- what a stage with labels is read as
abbrev pub meant : Labelled → Data
meant stage = forms.object_of (onto (stage_rows stage.0 ++ label_rows stage.1) (stage_data stage.0 ++ label_data stage.1) [])

pub stage_good : (stage : Spec) (labels : List PlainLabel) → IsWritable stage → IsGood 101 (labelled_json stage labels) (meant (stage, labels))
unfolding labelled_json
stage_good stage labels h =
    let op = op_row stage.op h.op in
    object_good 100 (stage_rows stage ++ label_rows labels) (stage_data stage ++ label_data labels) (
      good_deeper 0 100 _ _ (omega arith) (string_good stage.name),
      (
        good_deeper 0 100 _ _ (omega arith) (string_good (op_text stage.op)),
        (
          op.0,
          (
            op.1,
            (
              names_row stage.sources,
              (
                names_row stage.inner,
                (
                  number_row (nat_lt 0 stage.created) stage.created h.created,
                  (
                    number_row (nat_lt 0 stage.queued) stage.queued h.queued,
                    (
                      number_row (nat_lt 0 stage.runs) stage.runs h.runs,
                      (action_row stage.action h.action h.shallow, (result_row stage.pin_result h.pin_result, (moment_row stage.pin_moment h.pin_moment, (ends_row stage.ends h.ends h.ticks, labels_good 100 labels)))),
                    ),
                  ),
                ),
              ),
            ),
          ),
        ),
      ),
    )
