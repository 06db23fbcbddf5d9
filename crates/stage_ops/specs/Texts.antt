-- Completions, states and what `join` answers, as text.
use Rattle.std.specs.Prelude.{ℕ, List, ◌++◌, codes, Option, Some, None}
use Rattle.std.specs.Fmt.{decimal}
use Rattle.act_expr.specs.OutcomeText.{value_text, outcome_text}
use Rattle.stage_ops.specs.declared.state.Done.{Done}
use Rattle.stage_ops.specs.declared.state.State.{State}
use Rattle.stage_ops.specs.declared.state.Join.{Join}
use Rattle.stage_ops.specs.declared.state.Join.TheVariants.{Waits, Returns, Cancelled, Throws}

abbrev pub done_text : Done → List ℕ
done_text done = outcome_text done.outcome ++ codes " at " ++ decimal done.moment

abbrev pub completion_text : Option Done → List ℕ
completion_text None = codes "pending"
completion_text (Some done) = done_text done

abbrev pub state_text : State → List ℕ
state_text state = completion_text state.done

abbrev pub join_text : Join → List ℕ
join_text Waits = codes "waits"
join_text (Returns value) = codes "returns " ++ value_text value
join_text Cancelled = codes "throws java.util.concurrent.CancellationException"
join_text (Throws name) = codes "throws java.util.concurrent.CompletionException cause " ++ name
