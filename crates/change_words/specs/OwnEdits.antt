-- The edits that one change is of a stage, as it stands.
use Rattle.std.specs.Prelude.{ℕ, ◌≡◌, if◌then◌else◌, List, [], ◌∷◌, ◌++◌, Option, Some, None, Result, Ok, Err, ⊤}
use Rattle.act_expr.specs.declared.outcome.Outcome.{Outcome}
use Rattle.stage_graph.specs.declared.edit.Edit.{Edit}
use Rattle.stage_graph.specs.declared.edit.Edit.TheVariants.{PinResult, PinMoment, SetTimes, SetEnds}
use Rattle.stage_graph.specs.declared.end.End.{End}
use Rattle.stage_graph.specs.declared.stage.Stage.{Stage}
use Rattle.change_words.specs.declared.assignment.TimeLimit.{TimeLimit}
use Rattle.change_words.specs.declared.change.Change.{Change}
use Rattle.change_words.specs.declared.timeouts.LimitFault.{LimitFault}
use Rattle.change_words.specs.declared.timeouts.LimitFault.TheVariants.{Timeouts, Memory}
use Rattle.change_words.specs.Amounts.{amount_in}
use Rattle.change_words.specs.Changes.{sets_times}
use Rattle.change_words.specs.Timeouts.{limited}

-- both times, where one is assigned; the other one is kept as it is
abbrev pub times_edits : Change → Stage → List Edit
times_edits change stage =
    if sets_times change
    then SetTimes change.name (amount_in change.queued stage.queued) (amount_in change.runs stage.runs) ∷ []
    else []

abbrev pub outcome_edits_of : List ℕ → Option Outcome → List Edit
outcome_edits_of name None = []
outcome_edits_of name (Some outcome) = PinResult name (Some outcome) ∷ []

abbrev pub outcome_edits : Change → List Edit
outcome_edits change = outcome_edits_of change.name change.outcome

abbrev pub moment_edits_of : List ℕ → Option ℕ → List Edit
moment_edits_of name None = []
moment_edits_of name (Some tick) = PinMoment name (Some tick) ∷ []

abbrev pub moment_edits : Change → List Edit
moment_edits change = moment_edits_of change.name change.moment

-- all edits but that of the ends
abbrev pub own_before_ends : Change → Stage → List Edit
own_before_ends change stage = times_edits change stage ++ outcome_edits change ++ moment_edits change

abbrev pub set_ends : List ℕ → Result (List End) ℕ → Result (List Edit) ℕ
set_ends name (Ok ends) = Ok (SetEnds name ends ∷ [])
set_ends name (Err count) = Err count

abbrev pub ends_edits_of : List ℕ → Option TimeLimit → List End → Result (List Edit) ℕ
ends_edits_of name None ends = Ok []
ends_edits_of name (Some limit) ends = set_ends name (limited limit ends)

-- the edit of the ends, or how many timeouts there are where that has to be one
abbrev pub ends_edits : Change → Stage → Result (List Edit) ℕ
ends_edits change stage = ends_edits_of change.name change.limit stage.ends

-- the edits of the ends are added behind the others, or there are none; or memory is out
abbrev pub IsPushed : Result ⊤ LimitFault → Result (List Edit) ℕ → List Edit → List Edit → Type 0
IsPushed (Ok done) (Ok more) front new = new ≡ front ++ more
IsPushed (Ok done) (Err count) front new = ⊥
IsPushed (Err (Timeouts count)) answer front new = (answer ≡ Err count) × (new ≡ front)
IsPushed (Err Memory) answer front new = Unit {0}
