use Rattle.std.proofs.Common.{IfOk, Result, Ok, Err}
use Rattle.stage_ops.specs.Java.{java_step}
use Rattle.library_tests.proofs.propagation.states_of.Goals as goal

-- what follows from the value at Ok
follows : {T E : Type 0} {P Q : T → Type 0} → ((value : T) → P value → Q value) → (result : Result T E) → IfOk result P → IfOk result Q
follows step (Ok value) holds = step value holds
follows step (Err error) holds = holds

pub returns : goal.returns
returns g c = follows (λ states holds. holds (java_step c.args.graph.now.mode) c.in_ok-answers.ensures.answers) c.from_answers.result c.from_answers.ensures
