-- The text of a recording is UTF-8, since the names and labels in it are.
use Rattle.std.proofs.Common.{◌≡◌, ◌<◌, ◌^◌, ℕ, pos, negsuc, Bool, true, false, List, [], ◌∷◌, ◌++◌, ◌&&◌, All, IfSome, IsUtf8, Option, Some, None, option_map, codes, nat_lt, if◌then◌else◌, refl, arith}
use Rattle.std.specs.Prelude.{⊤}
use Rattle.std.specs.List.{AllByRecursion as Each}
use Rattle.std.specs.Str.{is_utf8}
use Rattle.std.proofs.lemmas.Bool.{and_parts}
use Rattle.std.proofs.lemmas.List.Elements.{All-head, All-tail}
use Rattle.std.proofs.lemmas.Str.{IsUtf8-append, IsUtf8-nil, is_utf8-from_IsUtf8}
use Rattle.json.specs.Json as json
use Rattle.json.specs.Json.{Json}
use Rattle.json.specs.Token.{begin_array, key}
use Rattle.json.specs.Tree.{json_tokens}
use Rattle.json.proofs.Printed.Utf8.{are_ascii, IsUtf8-are_ascii, IsUtf8-key}
use Rattle.act_expr.specs.Expression.{Expression, literal, argument, binary, conditional, is_null, failed, is_wrapped, cause_is, throw}
use Rattle.act_expr.specs.declared.outcome.Value.{Value}
use Rattle.act_expr.specs.declared.outcome.Value.TheVariants.{Null, Num as Long}
use Rattle.act_expr.specs.declared.outcome.Outcome.{Outcome}
use Rattle.act_expr.specs.declared.outcome.Outcome.TheVariants as outcome
use Rattle.act_expr.specs.declared.outcome.Mode.{Mode}
use Rattle.act_expr.specs.declared.outcome.Mode.TheVariants.{Computed, Literal}
use Rattle.act_expr.specs.declared.expr.Operator.{Operator}
use Rattle.act_expr.specs.declared.expr.Operator.TheVariants.{Add, Sub, Mul, Div, Lt, Eq}
use Rattle.act_expr.specs.declared.expr.Position.TheVariants.{First, Second}
use Rattle.stage_graph.specs.Checks.{delay_of}
use Rattle.stage_graph.specs.Texts.{op_text}
use Rattle.stage_graph.specs.declared.op.Op.{Op}
use Rattle.stage_graph.specs.declared.op.Op.TheVariants.{Async, Manual, Completed, Failed, ThenApply, ThenAccept, ThenRun, Copy, Handle, WhenComplete, Exceptionally, ThenCompose, ExceptionallyCompose, ThenCombine, ThenAcceptBoth, RunAfterBoth, ApplyToEither, AcceptEither, RunAfterEither, AllOf, AnyOf}
use Rattle.stage_graph.specs.declared.end.Act.{Act}
use Rattle.stage_graph.specs.declared.end.Act.TheVariants.{Complete, CompleteExceptionally, Cancel, OrTimeout, CompleteOnTimeout}
use Rattle.stage_graph.specs.declared.end.End.{End}
use Rattle.recording.specs.Written.{IsWellFormed, operator_text}
use Rattle.recording.specs.WrittenStages.{AreEnds, IsAct, IsOp, IsOutcome, IsValue, mode_text}
use Rattle.recording.specs.declared.member.Member.{Member}
use Rattle.recording_text.specs.Json.{Row, row, act_rows, items_of, members_of, some_of, count, value_of, throws_of, value_json, action_json, outcome_json, end_json, rows_tokens, stage_rows}
use Rattle.recording_text.specs.Labels.{Labelled, PlainHead, PlainLabel, group_row, head_rows, head_tokens, json_in, label_rows, labelled_head, labelled_json, labelled_lines, labelled_text, labels_json, mode_row, recording_with}
use Rattle.recording_text.specs.Texts.{end_text, line_break}
use Rattle.recording_back.specs.ReadBack.{IsBeside, IsLabel, IsLabelled, recording_members, stage_members}
use Rattle.recording_back.proofs.Utf8.{AreTexts, HasTexts, ItemsHaveTexts, MembersHaveTexts, json_printed, exception_text, count_text, long_text, printed, texts-append, token_texts}

-- ---- values and actions

value_texts : (v : Value) → IsValue v → HasTexts (value_json v)
value_texts Null h = tt
value_texts (Long z) h = long_text z h

operator_texts : (op : Operator) → IsUtf8 (operator_text op)
operator_texts Add = IsUtf8-are_ascii _ refl
operator_texts Sub = IsUtf8-are_ascii _ refl
operator_texts Mul = IsUtf8-are_ascii _ refl
operator_texts Div = IsUtf8-are_ascii _ refl
operator_texts Lt = IsUtf8-are_ascii _ refl
operator_texts Eq = IsUtf8-are_ascii _ refl

action_texts : (e : Expression) → IsWellFormed e → HasTexts (action_json e)
action_texts (literal Null) h = tt
action_texts (literal (Long (pos n))) h = long_text (pos n) h
action_texts (literal (Long (negsuc n))) h = long_text (negsuc n) h
action_texts (argument First) h = (IsUtf8-are_ascii (codes "arg") refl, (count_text 0 (omega arith), tt))
action_texts (argument Second) h = (IsUtf8-are_ascii (codes "arg") refl, (count_text 1 (omega arith), tt))
action_texts (binary op l r) h = (operator_texts op, (action_texts l h.0, (action_texts r h.1, tt)))
action_texts (conditional c t e) h = (IsUtf8-are_ascii (codes "if") refl, (action_texts c h.0, (action_texts t h.1, (action_texts e h.2, tt))))
action_texts (is_null e) h = (IsUtf8-are_ascii (codes "isnull") refl, (action_texts e h, tt))
action_texts failed h = (IsUtf8-are_ascii (codes "failed") refl, tt)
action_texts is_wrapped h = (IsUtf8-are_ascii (codes "iswrapped") refl, tt)
action_texts (cause_is x) h = (IsUtf8-are_ascii (codes "causeis") refl, (exception_text x h, tt))
action_texts (throw x) h = (IsUtf8-are_ascii (codes "throw") refl, (exception_text x h, tt))

-- ---- members

abbrev are_words : List Row → Bool
are_words [] = true
are_words (row ∷ rows) = are_ascii row.0 && are_words rows

abbrev HaveTexts : List Row → Type 0
HaveTexts [] = ⊤
HaveTexts (row ∷ rows) = IfSome row.1 HasTexts × HaveTexts rows

-- members under words, before others
row_texts : (rows more : List Row) → are_words rows ≡ true → HaveTexts rows → MembersHaveTexts (members_of more) → MembersHaveTexts (members_of (rows ++ more))
row_texts [] more words h k = k
row_texts ((name, None) ∷ rows) more words h k = row_texts rows more (and_parts (are_ascii name) (are_words rows) words).1 h.1 k
row_texts ((name, Some j) ∷ rows) more words h k =
    let parts = and_parts (are_ascii name) (are_words rows) words in
    (IsUtf8-are_ascii name parts.0, h.0, row_texts rows more parts.1 h.1 k)

item_texts : {A : Type 0} (write : A → Json) (P : A → Type 0) → ((a : A) → P a → HasTexts (write a)) → (list : List A) → All P list → IfSome (some_of write list) HasTexts
item_texts {A} write P each [] h = tt
item_texts {A} write P each (a ∷ rest) h = all (a ∷ rest) h
  where
    all : (list : List A) → All P list → ItemsHaveTexts (items_of write list)
    all [] k = tt
    all (b ∷ bs) k = (each b (All-head P b bs k), all bs (All-tail P b bs k))

-- ---- outcomes and ends

outcome_texts : (o : Outcome) → IsOutcome o → HasTexts (outcome_json o)
outcome_texts (outcome.Value v) h = (IsUtf8-are_ascii (codes "value") refl, value_texts v h, tt)
outcome_texts (outcome.Bare name) h = (IsUtf8-are_ascii (codes "bare") refl, exception_text name h, tt)
outcome_texts (outcome.Wrapped name) h = (IsUtf8-are_ascii (codes "wrapped") refl, exception_text name h, tt)

act_texts : (at : ℕ) (act : Act) → IsAct act → at < 2 ^ 64 → delay_of act < 2 ^ 64 → HasTexts (end_json (record { at = at; act = act }))
act_texts at (Complete v) h a d = row_texts (row (codes "at") (count at) ∷ act_rows (Complete v)) [] refl (count_text at a, (IsUtf8-are_ascii _ refl, (value_texts v h, tt))) tt
act_texts at (CompleteExceptionally name) h a d =
    row_texts (row (codes "at") (count at) ∷ act_rows (CompleteExceptionally name)) [] refl (count_text at a, (IsUtf8-are_ascii _ refl, (exception_text name h, tt))) tt
act_texts at Cancel h a d = row_texts (row (codes "at") (count at) ∷ act_rows Cancel) [] refl (count_text at a, (IsUtf8-are_ascii _ refl, tt)) tt
act_texts at (OrTimeout delay) h a d =
    row_texts (row (codes "at") (count at) ∷ act_rows (OrTimeout delay)) [] refl (count_text at a, (IsUtf8-are_ascii _ refl, (count_text delay d, tt))) tt
act_texts at (CompleteOnTimeout delay v) h a d =
    row_texts (row (codes "at") (count at) ∷ act_rows (CompleteOnTimeout delay v)) [] refl (count_text at a, (IsUtf8-are_ascii _ refl, (count_text delay d, (value_texts v h, tt)))) tt

-- ---- stages

op_texts : (op : Op) → IsUtf8 (op_text op)
op_texts (Completed value) = IsUtf8-are_ascii _ refl
op_texts (Failed name) = IsUtf8-are_ascii _ refl
op_texts Async = IsUtf8-are_ascii _ refl
op_texts Manual = IsUtf8-are_ascii _ refl
op_texts ThenApply = IsUtf8-are_ascii _ refl
op_texts ThenAccept = IsUtf8-are_ascii _ refl
op_texts ThenRun = IsUtf8-are_ascii _ refl
op_texts Copy = IsUtf8-are_ascii _ refl
op_texts Handle = IsUtf8-are_ascii _ refl
op_texts WhenComplete = IsUtf8-are_ascii _ refl
op_texts Exceptionally = IsUtf8-are_ascii _ refl
op_texts ThenCompose = IsUtf8-are_ascii _ refl
op_texts ExceptionallyCompose = IsUtf8-are_ascii _ refl
op_texts ThenCombine = IsUtf8-are_ascii _ refl
op_texts ThenAcceptBoth = IsUtf8-are_ascii _ refl
op_texts RunAfterBoth = IsUtf8-are_ascii _ refl
op_texts ApplyToEither = IsUtf8-are_ascii _ refl
op_texts AcceptEither = IsUtf8-are_ascii _ refl
op_texts RunAfterEither = IsUtf8-are_ascii _ refl
op_texts AllOf = IsUtf8-are_ascii _ refl
op_texts AnyOf = IsUtf8-are_ascii _ refl

op_members : (op : Op) → IsOp op → IfSome (value_of op) HasTexts × IfSome (throws_of op) HasTexts
op_members (Completed value) h = (value_texts value h, tt)
op_members (Failed name) h = (tt, exception_text name h)
op_members Async h = (tt, tt)
op_members Manual h = (tt, tt)
op_members ThenApply h = (tt, tt)
op_members ThenAccept h = (tt, tt)
op_members ThenRun h = (tt, tt)
op_members Copy h = (tt, tt)
op_members Handle h = (tt, tt)
op_members WhenComplete h = (tt, tt)
op_members Exceptionally h = (tt, tt)
op_members ThenCompose h = (tt, tt)
op_members ExceptionallyCompose h = (tt, tt)
op_members ThenCombine h = (tt, tt)
op_members ThenAcceptBoth h = (tt, tt)
op_members RunAfterBoth h = (tt, tt)
op_members ApplyToEither h = (tt, tt)
op_members AcceptEither h = (tt, tt)
op_members RunAfterEither h = (tt, tt)
op_members AllOf h = (tt, tt)
op_members AnyOf h = (tt, tt)

number_texts : (b : Bool) (n : ℕ) → n < 2 ^ 64 → IfSome (if b then Some (count n) else None) HasTexts
number_texts true n h = count_text n h
number_texts false n h = tt

option_texts : {A : Type 0} (write : A → Json) (P : A → Type 0) → ((a : A) → P a → HasTexts (write a)) → (o : Option A) → IfSome o P → IfSome (option_map write o) HasTexts
option_texts write P each None h = tt
option_texts write P each (Some a) h = each a h

abbrev IsTimed : End → Type 0
IsTimed end = (end.at < 2 ^ 64) × (delay_of end.act < 2 ^ 64)

end_texts : (ends : List End) → AreEnds ends → All IsTimed ends → IfSome (some_of end_json ends) HasTexts
end_texts [] h k = tt
end_texts (end ∷ ends) h k = all (end ∷ ends) h k
  where
    all : (list : List End) → AreEnds list → All IsTimed list → ItemsHaveTexts (items_of end_json list)
    all [] h k = tt
    all (e ∷ es) h k =
        let ticks = All-head IsTimed e es k in
        (act_texts e.at e.act (All-head (λ (e : End). IsAct e.act) e es h) ticks.0 ticks.1, all es (All-tail (λ (e : End). IsAct e.act) e es h) (All-tail IsTimed e es k))

labels_texts : (members : List Member) (labels : List PlainLabel) → All (IsLabel members) labels → MembersHaveTexts (members_of (label_rows labels))
labels_texts members [] h = tt
labels_texts members (label ∷ labels) h =
    let first = All-head (IsLabel members) label labels h in
    (first.name, first.text, labels_texts members labels (All-tail (IsLabel members) label labels h))

stage_texts : (stage : Labelled) → IsLabelled stage → HasTexts (json_in stage)
unfolding labelled_json
stage_texts labelled is =
    let stage = labelled.0 in
    let h = is.writable in
    let op = op_members stage.op h.op in
    let names = λ (list : List (List ℕ)) (k : All IsUtf8 list). item_texts json.string IsUtf8 (λ name is. is) list k in
    row_texts (stage_rows stage) (label_rows labelled.1) refl (
      h.name,
      (
        op_texts stage.op,
        (
          op.0,
          (
            op.1,
            (
              names stage.sources h.sources,
              (
                names stage.inner h.inner,
                (
                  number_texts (nat_lt 0 stage.created) stage.created h.created,
                  (
                    number_texts (nat_lt 0 stage.queued) stage.queued h.queued,
                    (
                      number_texts (nat_lt 0 stage.runs) stage.runs h.runs,
                      (
                        option_texts action_json IsWellFormed action_texts stage.action h.action,
                        (
                          option_texts outcome_json IsOutcome outcome_texts stage.pin_result h.pin_result,
                          (option_texts count (λ n. n < 2 ^ 64) count_text stage.pin_moment h.pin_moment, (end_texts stage.ends h.ends h.ticks, tt)),
                        ),
                      ),
                    ),
                  ),
                ),
              ),
            ),
          ),
        ),
      ),
    ) (labels_texts stage_members labelled.1 is.labels)

-- ---- texts

-- a member of a recording, which may be left out
abbrev IsTextRow : Row → Type 0
IsTextRow row = IsUtf8 row.0 × IfSome row.1 HasTexts

rows_texts : (rows : List Row) → Each IsTextRow rows → AreTexts (rows_tokens rows)
rows_texts [] h = tt
rows_texts ((name, None) ∷ rows) h = rows_texts rows h.1
rows_texts ((name, Some value) ∷ rows) h = (IsUtf8-key name h.0.0, texts-append (json_tokens value) (rows_tokens rows) (token_texts value h.0.1) (rows_texts rows h.1))

mode_texts : (mode : Option Mode) → IsTextRow (mode_row mode)
mode_texts None = (IsUtf8-are_ascii (codes "wrap") refl, tt)
mode_texts (Some Computed) = (IsUtf8-are_ascii (codes "wrap") refl, IsUtf8-are_ascii (mode_text Computed) refl)
mode_texts (Some Literal) = (IsUtf8-are_ascii (codes "wrap") refl, IsUtf8-are_ascii (mode_text Literal) refl)

group_texts : (labels : List PlainLabel) → All (IsLabel []) labels → IfSome (labels_json labels) HasTexts
group_texts [] h = tt
group_texts (label ∷ labels) h = labels_texts [] (label ∷ labels) h

beside_texts : (labels : List PlainLabel) (group : Row) → All (IsLabel recording_members) labels → IsTextRow group → Each IsTextRow (label_rows labels ++ group ∷ [])
beside_texts [] group h k = (k, tt)
beside_texts (label ∷ labels) group h k =
    let first = All-head (IsLabel recording_members) label labels h in
    ((first.name, first.text), beside_texts labels group (All-tail (IsLabel recording_members) label labels h) k)

head_utf8 : (mode : Option Mode) (head : PlainHead) → IsBeside head → IsUtf8 (labelled_head mode head)
head_utf8 mode head beside =
    let form : IsTextRow (row (codes "form") (json.number (codes "2"))) = (IsUtf8-are_ascii (codes "form") refl, IsUtf8-are_ascii (codes "2") refl) in
    let rows = rows_texts (head_rows mode head) (form, (mode_texts mode, beside_texts head.0 (group_row head.1) beside.labels (beside.group, group_texts head.1.1 beside.grouped))) in
    printed false (head_tokens mode head)
    (IsUtf8-are_ascii _ refl, texts-append (rows_tokens (head_rows mode head)) (key (codes "stages") ∷ begin_array ∷ []) rows (IsUtf8-key (codes "stages") (IsUtf8-are_ascii (codes "stages") refl), (IsUtf8-are_ascii _ refl, tt)))

break_utf8 : (later : Bool) → IsUtf8 (line_break later)
break_utf8 true = IsUtf8-are_ascii (line_break true) refl
break_utf8 false = IsUtf8-are_ascii (line_break false) refl

lines_utf8 : (later : Bool) (stages : List Labelled) → All IsLabelled stages → IsUtf8 (labelled_lines later stages)
lines_utf8 later [] h = IsUtf8-nil
lines_utf8 later (stage ∷ stages) h =
    IsUtf8-append (line_break later ++ labelled_text stage) (labelled_lines true stages)
    (IsUtf8-append (line_break later) (labelled_text stage) (break_utf8 later) (json_printed false (json_in stage) (stage_texts stage (All-head IsLabelled stage stages h))))
    (lines_utf8 true stages (All-tail IsLabelled stage stages h))

pub text_utf8 : (mode : Option Mode) (head : PlainHead) (stages : List Labelled) → IsBeside head → All IsLabelled stages → is_utf8 (recording_with mode head stages) ≡ true
unfolding recording_with
text_utf8 mode head stages beside h =
    is_utf8-from_IsUtf8 (labelled_head mode head ++ labelled_lines false stages ++ end_text)
    (IsUtf8-append (labelled_head mode head ++ labelled_lines false stages) end_text (IsUtf8-append (labelled_head mode head) (labelled_lines false stages) (head_utf8 mode head beside) (lines_utf8 false stages h)) (IsUtf8-are_ascii end_text refl))
