-- What the text of a recording is read as.
use Rattle.std.specs.Prelude.{◌≡◌, ◌<◌, ◌≤◌, ◌^◌, ℕ, Bool, List, [], ◌∷◌, length, map, not, All, IfSome, IsTrue, Option, Some, unwrap_or, Ok}
use Rattle.std.specs.List.{list_all}
use Rattle.std.specs.Str.{IsUtf8, bytes_eq}
use Rattle.json.specs.Lex.{tokens}
use Rattle.json.specs.Tree.{json_tokens, HasNumbers}
use Rattle.act_expr.specs.declared.outcome.Mode.{Mode}
use Rattle.act_expr.specs.declared.outcome.Mode.TheVariants.{Computed}
use Rattle.act_expr.specs.Expression.{depth}
use Rattle.stage_graph.specs.declared.stage.Spec.{Spec}
use Rattle.stage_graph.specs.Checks.{delay_of}
use Rattle.recording.specs.MemberTexts.{member_text}
use Rattle.recording.specs.RecordingOf.{longest, recorded}
use Rattle.recording.specs.Written.{IsWellFormed}
use Rattle.recording.specs.WrittenStages.{AreEnds, IsOp, IsOutcome}
use Rattle.recording.specs.declared.member.Member.{Member}
use Rattle.recording.specs.declared.member.Member.TheVariants.{Form, Wrap, Stages, Name, Op, Value, Throws, Sources, Inner, Created, Takes, Queued, Runs, Action, PinResult, PinMoment, Ends}
use Rattle.recording_text.specs.Labels.{Labelled, PlainHead, PlainLabel, json_in, json_with, no_labels, recording_with, unlabelled}
use Rattle.recording_text.specs.Texts.{text_of}

-- the text has the tokens of its JSON, whatever its lines
abbrev pub EachTextHasItsTokens : Type 0
EachTextHasItsTokens =
    (mode : Option Mode) (head : PlainHead) (stages : List Labelled) → All (λ stage. HasNumbers (json_in stage)) stages
    → tokens (recording_with mode head stages) ≡ json_tokens (json_with mode head stages)

-- its names are UTF-8, its numbers are longs and counts, its exceptions have exception names, and its action is not nested too deep for JSON
pub record IsWritable (stage : Spec) : Type 0 where
  pub name : IsUtf8 stage.name
  pub sources : All IsUtf8 stage.sources
  pub inner : All IsUtf8 stage.inner
  pub op : IsOp stage.op
  pub created : stage.created < 2 ^ 64
  pub queued : stage.queued < 2 ^ 64
  pub runs : stage.runs < 2 ^ 64
  pub action : IfSome stage.action IsWellFormed
  pub shallow : IfSome stage.action (λ e. depth e ≤ 100)
  pub pin_result : IfSome stage.pin_result IsOutcome
  pub pin_moment : IfSome stage.pin_moment (λ moment. moment < 2 ^ 64)
  pub ends : AreEnds stage.ends
  pub ticks : All (λ end. (end.at < 2 ^ 64) × (delay_of end.act < 2 ^ 64)) stage.ends

-- ---- labels

-- the members of a recording that are read
abbrev pub recording_members : List Member
recording_members = Form ∷ Wrap ∷ Stages ∷ []

-- the members of a stage that are read
abbrev pub stage_members : List Member
stage_members = Name ∷ Op ∷ Value ∷ Throws ∷ Sources ∷ Inner ∷ Created ∷ Takes ∷ Queued ∷ Runs ∷ Action ∷ PinResult ∷ PinMoment ∷ Ends ∷ []

-- whether none of these members has the name
abbrev pub is_unread : List Member → List ℕ → Bool
is_unread members name = list_all (λ member. not (bytes_eq (member_text member) name)) members

-- a label is UTF-8, and has the name of no member that is read
pub record IsLabel (members : List Member) (label : PlainLabel) : Type 0 where
  pub name : IsUtf8 label.0
  pub text : IsUtf8 label.1
  pub unread : IsTrue (is_unread members label.0)

-- what a recording bears beside its stages: labels, and a group of labels, of which nothing is read
pub record IsBeside (head : PlainHead) : Type 0 where
  pub labels : All (IsLabel recording_members) head.0
  pub group : IsUtf8 head.1.0
  pub unread : IsTrue (is_unread recording_members head.1.0)
  pub grouped : All (IsLabel []) head.1.1

abbrev pub HasLabels : Labelled → Type 0
HasLabels stage = All (IsLabel stage_members) stage.1

-- a stage that can be written, with labels
pub record IsLabelled (stage : Labelled) : Type 0 where
  pub writable : IsWritable stage.0
  pub labels : HasLabels stage

-- the stages without their labels
abbrev pub specs_in : List Labelled → List Spec
specs_in stages = map (λ (stage : Labelled). stage.0) stages

-- each recording whose text is not too long is what is read from it, whatever labels it bears; where it names no mode, outcomes are computed
abbrev pub EachIsReadBack : Type 0
EachIsReadBack =
    (mode : Option Mode) (head : PlainHead) (stages : List Labelled) → IsBeside head → All IsLabelled stages → length (recording_with mode head stages) ≤ longest
    → recorded (recording_with mode head stages) ≡ Ok (record { mode = unwrap_or mode Computed; stages = specs_in stages })

-- the text of a recording that bears no labels is the case of none
abbrev pub EachPlainTextHasNoLabels : Type 0
EachPlainTextHasNoLabels = (mode : Mode) (stages : List Spec) → text_of mode stages ≡ recording_with (Some mode) no_labels (map unlabelled stages)
