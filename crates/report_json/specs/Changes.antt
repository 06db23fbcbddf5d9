-- Single changes of stages as JSON objects.
use Rattle.std.specs.Prelude.{ℕ, Bool, [], ◌∷◌, Option, codes}
use Rattle.std.specs.Option.{option_map}
use Rattle.serde_json.specs.Data.{Data, boolean}
use Rattle.stage_graph.specs.declared.end.End.{End}
use Rattle.reply_rescue.specs.Ends.{twice}
use Rattle.report_rows.specs.declared.tried_change.TriedChange.{TriedChange}
use Rattle.report_rows.specs.declared.tried_change.TriedChange.TheVariants.{NoTime, NotQueued, NoFailure, WithoutEnd, TwiceTheDelay}
use Rattle.report_rows.specs.Ends.{delay_in, end_text, set_at}
use Rattle.report_json.specs.Json.{NamedValues, text, count, optional, value_json}

abbrev pub flag : Bool → Data
flag holds = boolean holds

-- an end by its index: its kind, when it is set, and the delay of a timeout; and whether it is the stage's one timeout
abbrev pub end_members : ℕ → Option End → Bool → NamedValues
end_members index end is_only =
    (codes "end", count index) ∷
    (codes "do", text (end_text end)) ∷
    (codes "at", count (set_at end)) ∷
    (codes "delay", optional count (delay_in end)) ∷
    (codes "only", flag is_only) ∷ []

abbrev pub tried_members : TriedChange → NamedValues
tried_members NoTime = (codes "kind", text (codes "noTime")) ∷ []
tried_members NotQueued = (codes "kind", text (codes "notQueued")) ∷ []
tried_members (NoFailure value) = (codes "kind", text (codes "noFailure")) ∷ (codes "value", value_json value) ∷ []
tried_members (WithoutEnd index end is_only) = (codes "kind", text (codes "withoutEnd")) ∷ end_members index end is_only
tried_members (TwiceTheDelay index end is_only) =
    (codes "kind", text (codes "twiceTheDelay")) ∷ (codes "longer", optional count (option_map twice (delay_in end))) ∷ end_members index end is_only
