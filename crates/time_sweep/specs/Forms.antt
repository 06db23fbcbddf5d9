-- Which sources a stage waits for, by its operation.
use Rattle.std.specs.Prelude.{ℕ, List, Bool, true, false, not, ◌==◌, filter, max, if◌then◌else◌, Option, Some, None}
use Rattle.stage_graph.specs.declared.op.Op.{Op}
use Rattle.stage_graph.specs.declared.op.Op.TheVariants.{ThenApply, ThenAccept, ThenRun, Copy, Handle, WhenComplete, Exceptionally, ThenCompose, ExceptionallyCompose, ThenCombine, ThenAcceptBoth, RunAfterBoth, ApplyToEither, AcceptEither, RunAfterEither, AllOf, AnyOf}
use Rattle.stage_ops.specs.Sources.{completed, latest}
use Rattle.stage_ops.specs.States.{Completion}

-- for one source, or the first of several
abbrev pub takes_one : Op → Bool
takes_one ThenApply = true
takes_one ThenAccept = true
takes_one ThenRun = true
takes_one Copy = true
takes_one Handle = true
takes_one WhenComplete = true
takes_one Exceptionally = true
takes_one ThenCompose = true
takes_one ExceptionallyCompose = true
takes_one ApplyToEither = true
takes_one AcceptEither = true
takes_one RunAfterEither = true
takes_one AnyOf = true
takes_one op = false

-- for all of its sources
abbrev pub waits_for_all : Op → Bool
waits_for_all ThenCombine = true
waits_for_all ThenAcceptBoth = true
waits_for_all RunAfterBoth = true
waits_for_all AllOf = true
waits_for_all op = false

-- the sources that stand at other places
abbrev pub others : ℕ → List ℕ → List ℕ
others feed places = filter (λ place. not (place == feed)) places

-- the creation, or the last completion of the other sources if it is later
abbrev pub rest_of : ℕ → (ℕ → Option Completion) → ℕ → List ℕ → ℕ
rest_of created inputs feed places = latest created (completed inputs (others feed places))

-- the later of a moment and of this completion, if there is one, and it is not that of the stage at the place
abbrev pub later_than : ℕ → Option Completion → ℕ
later_than rest None = rest
later_than rest (Some completion) = max rest completion.moment

abbrev pub later_beside : ℕ → (ℕ → Option Completion) → ℕ → ℕ → ℕ
later_beside rest inputs feed place = if place == feed then rest else later_than rest (inputs place)
