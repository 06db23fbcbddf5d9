-- The text of a recording that bears no labels is the case of none.
use Rattle.std.proofs.Common.{◌≡◌, ℕ, Bool, true, false, List, [], ◌∷◌, ◌++◌, map, All, Some, refl, sym, ap, ap₂, subst}
use Rattle.std.proofs.lemmas.List.Elements.{All-cons, All-head, All-nil, All-tail}
use Rattle.std.proofs.lemmas.Str.{IsUtf8-nil}
use Rattle.json.specs.Json.{Json}
use Rattle.json.specs.Print.{escape_byte, print, print_from}
use Rattle.json.specs.Tree.{json_tokens, HasNumbers}
use Rattle.act_expr.specs.declared.outcome.Mode.{Mode}
use Rattle.act_expr.specs.declared.outcome.Mode.TheVariants.{Computed, Literal}
use Rattle.stage_graph.specs.declared.stage.Spec.{Spec}
use Rattle.recording_text.specs.Json.{stage_json}
use Rattle.recording_text.specs.Labels.{labelled_head, labelled_json, labelled_lines, no_labels, recording_with, unlabelled}
use Rattle.recording_text.specs.Texts.{end_text, head_text, line_break, lines}
use Rattle.recording_back.specs.ReadBack.{EachPlainTextHasNoLabels, HasLabels, IsBeside, IsLabel, IsWritable, recording_members, specs_in, stage_members}
use Rattle.recording_back.proofs.StageRows.{stage_good}

head_same : (mode : Mode) → head_text mode ≡ labelled_head (Some mode) no_labels
unfolding print_from escape_byte
head_same Computed = refl
head_same Literal = refl

json_same : (stage : Spec) → stage_json stage ≡ labelled_json stage []
unfolding stage_json labelled_json
json_same stage = refl

lines_same : (later : Bool) (stages : List Spec) → lines later stages ≡ labelled_lines later (map unlabelled stages)
lines_same later [] = refl
lines_same later (stage ∷ stages) = ap₂ (λ (j : Json) (rest : List ℕ). line_break later ++ print (json_tokens j) ++ rest) (json_same stage) (lines_same true stages)

pub text_same : EachPlainTextHasNoLabels
unfolding recording_with
text_same mode stages = ap₂ (λ (head rest : List ℕ). head ++ rest ++ end_text) (head_same mode) (lines_same false stages)

-- ---- what is asked of labels holds of none

pub none_beside : IsBeside no_labels
none_beside = record { labels = All-nil (IsLabel recording_members); group = IsUtf8-nil; unread = refl; grouped = All-nil (IsLabel []) }

pub none_label : (stages : List Spec) → All HasLabels (map unlabelled stages)
none_label [] = All-nil HasLabels
none_label (stage ∷ stages) = All-cons HasLabels (unlabelled stage) (map unlabelled stages) (All-nil (IsLabel stage_members)) (none_label stages)

pub same_specs : (stages : List Spec) → specs_in (map unlabelled stages) ≡ stages
same_specs [] = refl
same_specs (stage ∷ stages) = ap (λ rest. stage ∷ rest) (same_specs stages)

pub each_numbers : (stages : List Spec) → All IsWritable stages → All (λ stage. HasNumbers (stage_json stage)) stages
each_numbers [] h = All-nil (λ (s : Spec). HasNumbers (stage_json s))
each_numbers (stage ∷ stages) h =
    All-cons (λ (s : Spec). HasNumbers (stage_json s)) stage stages (subst HasNumbers (sym (json_same stage)) (stage_good stage [] (All-head IsWritable stage stages h)).numbers) (each_numbers stages (All-tail IsWritable stage stages h))
