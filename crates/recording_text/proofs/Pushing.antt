-- What was added to a line.
use Rattle.std.proofs.Common.{◌≡◌, ℕ, ◌==◌, false, List, [], ◌∷◌, ◌++◌, codes, length, map, Some, None, Result, Ok, Err, OnOk, refl, sym, ap, ◌∙◌, append_assoc, append-nil, ne_eqb, suc, arith}
use Rattle.std.proofs.lemmas.Fmt.{decimal_digit}
use Rattle.json.specs.Json.{Json, object}
use Rattle.json.specs.Token.{Token, key, number, string, begin_array, end_array, begin_object, end_object}
use Rattle.json.specs.Tree.{json_tokens, items_tokens, members_tokens}
use Rattle.act_expr.specs.declared.outcome.Mode.{Mode}
use Rattle.stage_graph.specs.declared.stage.Spec.{Spec}
use Rattle.recording.specs.WrittenStages.{mode_text}
use Rattle.recording_text.specs.Json.{Row, members_of, items_of, some_of, row_tokens, rows_tokens, list_tokens, op_rows, feed_rows, time_rows, outcome_rows, stage_rows, stage_json, row, count, recording_json}
use Rattle.recording_text.specs.Labels.{PlainGroup, PlainLabel, group_row, head_tokens, label_rows, labelled_json, labels_json}

module _ {A : Type 0} (write : A → Json) where
  pub items_listed : (list : List A) → items_tokens (items_of write list) ≡ list_tokens write list ++ end_array ∷ []
  items_listed [] = refl
  items_listed (a ∷ rest) = ap (λ l. json_tokens (write a) ++ l) (items_listed rest) ∙ sym (append_assoc (json_tokens (write a)) (list_tokens write rest) (end_array ∷ []))

  -- an array that is there
  pub some_listed : (name : List ℕ) (list : List A) → (length list == 0) ≡ false → row_tokens (name, some_of write list) ≡ key name ∷ begin_array ∷ (list_tokens write list ++ end_array ∷ [])
  some_listed name [] h = absurd cc
  some_listed name (a ∷ rest) h = ap (λ l. key name ∷ begin_array ∷ l) (items_listed (a ∷ rest))

-- an array that was added with its name
some_in_a_row : (old items one two three whole : List Token) (name : List ℕ) → one ≡ old ++ key name ∷ [] → two ≡ one ++ begin_array ∷ [] → three ≡ two ++ items
    → key name ∷ begin_array ∷ (items ++ end_array ∷ []) ≡ whole → three ++ end_array ∷ [] ≡ old ++ whole
some_in_a_row old items one two three whole name first second third is = rw (third, second, first, ← is) (simp append_assoc)

pub some_pushed : {A E : Type 0} (r : Result (Unit {0}) E) (write : A → Json) (name : List ℕ) (list : List A) (old one two three four : List Token) → (length list == 0) ≡ false
    → one ≡ old ++ key name ∷ [] → two ≡ one ++ begin_array ∷ [] → three ≡ two ++ list_tokens write list → OnOk r (four ≡ three ++ end_array ∷ [])
    → OnOk r (four ≡ old ++ row_tokens (name, some_of write list))
some_pushed (Ok done) write name list old one two three four some first second third last =
    last ∙ some_in_a_row old (list_tokens write list) one two three _ name first second third (sym (some_listed write name list some))
some_pushed (Err fault) write name list old one two three four some first second third last = tt

pub some_mapped : {A B : Type 0} (f : A → B) (list : List A) → (length list == 0) ≡ false → (length (map f list) == 0) ≡ false
some_mapped f [] h = h
some_mapped f (a ∷ rest) h = ne_eqb (suc (length (map f rest))) 0 (λ e. omega arith)

-- ---- members

pub rows_listed : (rows : List Row) → members_tokens (members_of rows) ≡ rows_tokens rows ++ end_object ∷ []
rows_listed [] = refl
rows_listed ((name, None) ∷ rows) = rows_listed rows
rows_listed ((name, Some value) ∷ rows) =
    ap (λ l. key name ∷ (json_tokens value ++ l)) (rows_listed rows) ∙ ap (λ l. key name ∷ l) (sym (append_assoc (json_tokens value) (rows_tokens rows) (end_object ∷ [])))

pub rows_append : (xs ys : List Row) → rows_tokens (xs ++ ys) ≡ rows_tokens xs ++ rows_tokens ys
rows_append [] ys = refl
rows_append (x ∷ xs) ys = ap (λ l. row_tokens x ++ l) (rows_append xs ys) ∙ sym (append_assoc (row_tokens x) (rows_tokens xs) (rows_tokens ys))

-- the members of an object
closed_after_two : (old one two : List Token) (first second : Row) → one ≡ old ++ row_tokens first → two ≡ one ++ row_tokens second
    → two ++ end_object ∷ [] ≡ old ++ ((row_tokens first ++ (row_tokens second ++ [])) ++ end_object ∷ [])
closed_after_two old one two first second is then = rw (then, is) (simp (append_assoc, append-nil))

closed_after_three : (old one two three : List Token) (first second third : Row) → one ≡ old ++ row_tokens first → two ≡ one ++ row_tokens second → three ≡ two ++ row_tokens third
    → three ++ end_object ∷ [] ≡ old ++ ((row_tokens first ++ (row_tokens second ++ (row_tokens third ++ []))) ++ end_object ∷ [])
closed_after_three old one two three first second third is then next = rw (next, then, is) (simp (append_assoc, append-nil))

module _ {E : Type 0} where
  pub two_closed : (r : Result (Unit {0}) E) (first second : Row) (old one two three : List Token) → one ≡ old ++ row_tokens first → two ≡ one ++ row_tokens second
      → OnOk r (three ≡ two ++ end_object ∷ []) → OnOk r (three ≡ old ++ members_tokens (members_of (first ∷ second ∷ [])))
  two_closed (Ok done) first second old one two three is then last =
      last ∙ closed_after_two old one two first second is then ∙ ap (λ l. old ++ l) (sym (rows_listed (first ∷ second ∷ [])))
  two_closed (Err fault) first second old one two three is then last = tt

  pub three_closed : (r : Result (Unit {0}) E) (first second third : Row) (old one two three four : List Token) → one ≡ old ++ row_tokens first → two ≡ one ++ row_tokens second
      → three ≡ two ++ row_tokens third → OnOk r (four ≡ three ++ end_object ∷ []) → OnOk r (four ≡ old ++ members_tokens (members_of (first ∷ second ∷ third ∷ [])))
  three_closed (Ok done) first second third old one two three four is then next last =
      last ∙ closed_after_three old one two three first second third is then next ∙ ap (λ l. old ++ l) (sym (rows_listed (first ∷ second ∷ third ∷ [])))
  three_closed (Err fault) first second third old one two three four is then next last = tt

-- ---- a stage

rows_of_parts : (stage : Spec) → rows_tokens (stage_rows stage)
    ≡ ((rows_tokens (op_rows stage.name stage.op) ++ rows_tokens (feed_rows stage.sources stage.inner)) ++ rows_tokens (time_rows stage.created stage.queued stage.runs))
    ++ rows_tokens (outcome_rows stage.action stage.pin_result stage.pin_moment stage.ends)
rows_of_parts stage =
    let op = op_rows stage.name stage.op in
    let feeds = feed_rows stage.sources stage.inner in
    let times = time_rows stage.created stage.queued stage.runs in
    let outcomes = outcome_rows stage.action stage.pin_result stage.pin_moment stage.ends in
    rows_append (op ++ feeds ++ times) outcomes ∙ ap (λ l. l ++ rows_tokens outcomes) (rows_append (op ++ feeds) times ∙ ap (λ l. l ++ rows_tokens times) (rows_append op feeds))

rows_of_stage : (stage : Spec) → json_tokens (stage_json stage)
    ≡ begin_object ∷ ((((rows_tokens (op_rows stage.name stage.op) ++ rows_tokens (feed_rows stage.sources stage.inner)) ++ rows_tokens (time_rows stage.created stage.queued stage.runs))
    ++ rows_tokens (outcome_rows stage.action stage.pin_result stage.pin_moment stage.ends)) ++ end_object ∷ [])
unfolding stage_json
rows_of_stage stage = ap (λ l. begin_object ∷ l) (rows_listed (stage_rows stage) ∙ ap (λ l. l ++ end_object ∷ []) (rows_of_parts stage))

parts_in_a_row : (old a b c d one two three four five : List Token) → one ≡ old ++ begin_object ∷ [] → two ≡ one ++ a → three ≡ two ++ b → four ≡ three ++ c → five ≡ four ++ d
    → five ++ end_object ∷ [] ≡ old ++ begin_object ∷ ((((a ++ b) ++ c) ++ d) ++ end_object ∷ [])
parts_in_a_row old a b c d one two three four five first second third fourth fifth = rw (fifth, fourth, third, second, first) (simp append_assoc)

pub stage_pushed : {E : Type 0} (r : Result (Unit {0}) E) (stage : Spec) (old one two three four five six : List Token)
    → one ≡ old ++ begin_object ∷ [] → two ≡ one ++ rows_tokens (op_rows stage.name stage.op) → three ≡ two ++ rows_tokens (feed_rows stage.sources stage.inner)
    → four ≡ three ++ rows_tokens (time_rows stage.created stage.queued stage.runs) → five ≡ four ++ rows_tokens (outcome_rows stage.action stage.pin_result stage.pin_moment stage.ends)
    → OnOk r (six ≡ five ++ end_object ∷ []) → OnOk r (six ≡ old ++ json_tokens (stage_json stage))
stage_pushed (Ok done) stage old one two three four five six first second third fourth fifth last =
    last ∙ parts_in_a_row old _ _ _ _ one two three four five first second third fourth fifth ∙ ap (λ l. old ++ l) (sym (rows_of_stage stage))
stage_pushed (Err fault) stage old one two three four five six first second third fourth fifth last = tt

-- ---- labels

labels_listed : (name : List ℕ) (labels : List PlainLabel) → (length labels == 0) ≡ false
    → row_tokens (name, labels_json labels) ≡ key name ∷ begin_object ∷ (rows_tokens (label_rows labels) ++ end_object ∷ [])
labels_listed name [] h = absurd cc
labels_listed name (label ∷ labels) h = ap (λ l. key name ∷ begin_object ∷ l) (rows_listed (label_rows (label ∷ labels)))

-- an object that was added with its name
object_in_a_row : (old members one two three whole : List Token) (name : List ℕ) → one ≡ old ++ key name ∷ [] → two ≡ one ++ begin_object ∷ [] → three ≡ two ++ members
    → key name ∷ begin_object ∷ (members ++ end_object ∷ []) ≡ whole → three ++ end_object ∷ [] ≡ old ++ whole
object_in_a_row old members one two three whole name first second third is = rw (third, second, first, ← is) (simp append_assoc)

pub group_pushed : {E : Type 0} (r : Result (Unit {0}) E) (name : List ℕ) (labels : List PlainLabel) (old one two three four : List Token) → (length labels == 0) ≡ false
    → one ≡ old ++ key name ∷ [] → two ≡ one ++ begin_object ∷ [] → three ≡ two ++ rows_tokens (label_rows labels) → OnOk r (four ≡ three ++ end_object ∷ [])
    → OnOk r (four ≡ old ++ row_tokens (group_row (name, labels)))
group_pushed (Ok done) name labels old one two three four some first second third last =
    last ∙ object_in_a_row old (rows_tokens (label_rows labels)) one two three _ name first second third (sym (labels_listed name labels some))
group_pushed (Err fault) name labels old one two three four some first second third last = tt

rows_of_labelled : (stage : Spec) (labels : List PlainLabel) → json_tokens (labelled_json stage labels)
    ≡ begin_object ∷ (((((rows_tokens (op_rows stage.name stage.op) ++ rows_tokens (feed_rows stage.sources stage.inner)) ++ rows_tokens (time_rows stage.created stage.queued stage.runs))
    ++ rows_tokens (outcome_rows stage.action stage.pin_result stage.pin_moment stage.ends)) ++ rows_tokens (label_rows labels)) ++ end_object ∷ [])
unfolding labelled_json
rows_of_labelled stage labels =
    ap (λ l. begin_object ∷ l)
    (rows_listed (stage_rows stage ++ label_rows labels)
    ∙ ap (λ l. l ++ end_object ∷ []) (rows_append (stage_rows stage) (label_rows labels) ∙ ap (λ l. l ++ rows_tokens (label_rows labels)) (rows_of_parts stage)))

labelled_in_a_row : (old a b c d e one two three four five six : List Token) → one ≡ old ++ begin_object ∷ [] → two ≡ one ++ a → three ≡ two ++ b → four ≡ three ++ c → five ≡ four ++ d → six ≡ five ++ e
    → six ++ end_object ∷ [] ≡ old ++ begin_object ∷ (((((a ++ b) ++ c) ++ d) ++ e) ++ end_object ∷ [])
labelled_in_a_row old a b c d e one two three four five six first second third fourth fifth sixth = rw (sixth, fifth, fourth, third, second, first) (simp append_assoc)

pub labelled_pushed : {E : Type 0} (r : Result (Unit {0}) E) (stage : Spec) (labels : List PlainLabel) (old one two three four five six seven : List Token)
    → one ≡ old ++ begin_object ∷ [] → two ≡ one ++ rows_tokens (op_rows stage.name stage.op) → three ≡ two ++ rows_tokens (feed_rows stage.sources stage.inner)
    → four ≡ three ++ rows_tokens (time_rows stage.created stage.queued stage.runs) → five ≡ four ++ rows_tokens (outcome_rows stage.action stage.pin_result stage.pin_moment stage.ends)
    → six ≡ five ++ rows_tokens (label_rows labels) → OnOk r (seven ≡ six ++ end_object ∷ []) → OnOk r (seven ≡ old ++ json_tokens (labelled_json stage labels))
labelled_pushed (Ok done) stage labels old one two three four five six seven first second third fourth fifth sixth last =
    last ∙ labelled_in_a_row old _ _ _ _ _ one two three four five six first second third fourth fifth sixth ∙ ap (λ l. old ++ l) (sym (rows_of_labelled stage labels))
labelled_pushed (Err fault) stage labels old one two three four five six seven first second third fourth fifth sixth last = tt

-- ---- a recording, and the object that has it as a member

two_told : row_tokens (row (codes "form") (count 2)) ≡ key (codes "form") ∷ number (codes "2") ∷ []
two_told = ap (λ digits. key (codes "form") ∷ number digits ∷ []) (decimal_digit 2 (omega arith))

head_in_a_row : (old form labels group one two three four five six : List Token) → one ≡ old ++ begin_object ∷ [] → two ≡ one ++ form → three ≡ two ++ labels → four ≡ three ++ group
    → five ≡ four ++ key (codes "stages") ∷ [] → six ≡ five ++ begin_array ∷ [] → six ≡ old ++ begin_object ∷ (form ++ ((labels ++ (group ++ [])) ++ key (codes "stages") ∷ begin_array ∷ []))
head_in_a_row old form labels group one two three four five six first second third fourth fifth sixth = rw (sixth, fifth, fourth, third, second, first) (simp (append_assoc, append-nil))

-- what comes before the stages of a recording that names no mode
pub head_pushed : (labels : List PlainLabel) (group : PlainGroup) (none one two three four five six : List Token) → none ≡ [] → one ≡ none ++ begin_object ∷ []
    → two ≡ one ++ row_tokens (row (codes "form") (count 2)) → three ≡ two ++ rows_tokens (label_rows labels) → four ≡ three ++ row_tokens (group_row group)
    → five ≡ four ++ key (codes "stages") ∷ [] → six ≡ five ++ begin_array ∷ [] → six ≡ head_tokens None (labels, group)
head_pushed labels group none one two three four five six empty first form listed grouped named begun =
    let rest = (rows_tokens (label_rows labels) ++ (row_tokens (group_row group) ++ [])) ++ key (codes "stages") ∷ begin_array ∷ [] in
    head_in_a_row none _ (rows_tokens (label_rows labels)) (row_tokens (group_row group)) one two three four five six first form listed grouped named begun
    ∙ ap (λ (l : List Token). l ++ begin_object ∷ (row_tokens (row (codes "form") (count 2)) ++ rest)) empty
    ∙ ap (λ (l : List Token). begin_object ∷ (l ++ rest)) two_told
    ∙ ap (λ (l : List Token). begin_object ∷ key (codes "form") ∷ number (codes "2") ∷ (l ++ key (codes "stages") ∷ begin_array ∷ [])) (sym (rows_append (label_rows labels) (group_row group ∷ [])))

recording_shape : (mode : Mode) (stages : List Spec) → json_tokens (recording_json mode stages)
    ≡ begin_object ∷ key (codes "form") ∷ number (codes "2") ∷ key (codes "wrap") ∷ string (mode_text mode) ∷ key (codes "stages") ∷ begin_array ∷ ((list_tokens stage_json stages ++ end_array ∷ []) ++ end_object ∷ [])
recording_shape mode stages =
    ap (λ (l : List Token). begin_object ∷ key (codes "form") ∷ number (codes "2") ∷ key (codes "wrap") ∷ string (mode_text mode) ∷ key (codes "stages") ∷ begin_array ∷ (l ++ end_object ∷ []))
    (items_listed stage_json stages)

recording_in_a_row : (old two stages one second three four five six seven : List Token) (wrap : List ℕ) → one ≡ old ++ begin_object ∷ [] → second ≡ one ++ two
    → three ≡ second ++ key (codes "wrap") ∷ string wrap ∷ [] → four ≡ three ++ key (codes "stages") ∷ [] → five ≡ four ++ begin_array ∷ [] → six ≡ five ++ stages → seven ≡ six ++ end_array ∷ []
    → two ≡ key (codes "form") ∷ number (codes "2") ∷ []
    → seven ++ end_object ∷ [] ≡ old ++ begin_object ∷ key (codes "form") ∷ number (codes "2") ∷ key (codes "wrap") ∷ string wrap ∷ key (codes "stages") ∷ begin_array ∷ ((stages ++ end_array ∷ []) ++ end_object ∷ [])
recording_in_a_row old two stages one second three four five six seven wrap first form is_wrap named begun listed ended told =
    rw (ended, listed, begun, named, is_wrap, form, first, told) (simp append_assoc)

pub recording_pushed : {E : Type 0} (r : Result (Unit {0}) E) (mode : Mode) (stages : List Spec) (old one two three four five six seven eight : List Token)
    → one ≡ old ++ begin_object ∷ [] → two ≡ one ++ row_tokens (row (codes "form") (count 2)) → three ≡ two ++ key (codes "wrap") ∷ string (mode_text mode) ∷ []
    → four ≡ three ++ key (codes "stages") ∷ [] → five ≡ four ++ begin_array ∷ [] → six ≡ five ++ list_tokens stage_json stages → seven ≡ six ++ end_array ∷ []
    → OnOk r (eight ≡ seven ++ end_object ∷ []) → OnOk r (eight ≡ old ++ json_tokens (recording_json mode stages))
recording_pushed (Ok done) mode stages old one two three four five six seven eight first form wrap named begun listed ended last =
    last ∙ recording_in_a_row old _ _ one two three four five six seven (mode_text mode) first form wrap named begun listed ended two_told
    ∙ ap (λ l. old ++ l) (sym (recording_shape mode stages))
recording_pushed (Err fault) mode stages old one two three four five six seven eight first form wrap named begun listed ended last = tt

pub named_pushed : {E : Type 0} (r : Result (Unit {0}) E) (name : List ℕ) (value : Json) (old one two : List Token) → one ≡ old ++ key name ∷ []
    → OnOk r (two ≡ one ++ json_tokens value) → OnOk r (two ≡ old ++ row_tokens (row name value))
named_pushed (Ok done) name value old one two first last = last ∙ ap (λ l. l ++ json_tokens value) first ∙ append_assoc old (key name ∷ []) (json_tokens value)
named_pushed (Err fault) name value old one two first last = tt

four_in_a_row : (old a b c d one two three four five : List Token) → one ≡ old ++ begin_object ∷ [] → two ≡ one ++ a → three ≡ two ++ b → four ≡ three ++ c → five ≡ four ++ d
    → five ++ end_object ∷ [] ≡ old ++ begin_object ∷ ((a ++ (b ++ (c ++ (d ++ [])))) ++ end_object ∷ [])
four_in_a_row old a b c d one two three four five first second third fourth fifth = rw (fifth, fourth, third, second, first) (simp (append_assoc, append-nil))

pub object_pushed : {E : Type 0} (r : Result (Unit {0}) E) (first second third fourth : Row) (old one two three four five six : List Token)
    → one ≡ old ++ begin_object ∷ [] → two ≡ one ++ row_tokens first → three ≡ two ++ row_tokens second → four ≡ three ++ row_tokens third → five ≡ four ++ row_tokens fourth
    → OnOk r (six ≡ five ++ end_object ∷ []) → OnOk r (six ≡ old ++ json_tokens (object (members_of (first ∷ second ∷ third ∷ fourth ∷ []))))
object_pushed (Ok done) first second third fourth old one two three four five six begun is then next after last =
    last ∙ four_in_a_row old _ _ _ _ one two three four five begun is then next after
    ∙ ap (λ l. old ++ begin_object ∷ l) (sym (rows_listed (first ∷ second ∷ third ∷ fourth ∷ [])))
object_pushed (Err fault) first second third fourth old one two three four five six begun is then next after last = tt
