-- The texts by which operations and refusals are printed.
use Rattle.std.specs.Prelude.{ℕ, List, codes}
use Rattle.stage_graph.specs.declared.op.Op.{Op}
use Rattle.stage_graph.specs.declared.op.Op.TheVariants.{Async, Manual, Completed, Failed, ThenApply, ThenAccept, ThenRun, Copy, Handle, WhenComplete, Exceptionally, ThenCompose, ExceptionallyCompose, ThenCombine, ThenAcceptBoth, RunAfterBoth, ApplyToEither, AcceptEither, RunAfterEither, AllOf, AnyOf}
use Rattle.stage_graph.specs.declared.fault.Refusal.{Refusal}
use Rattle.stage_graph.specs.declared.fault.Refusal.TheVariants.{NoStage, NameTaken, BadName, Arity, NoSource, Limit, EndBeforeCreated, NoAction, InUse, Expr}
use Rattle.stage_graph.specs.declared.fault.Fault.{Fault}
use Rattle.stage_graph.specs.declared.fault.Fault.TheVariants.{Refused, Cycle, Memory}

-- the name of an operation
abbrev pub op_text : Op → List ℕ
op_text Async = codes "async"
op_text Manual = codes "manual"
op_text (Completed value) = codes "completed"
op_text (Failed name) = codes "failed"
op_text ThenApply = codes "thenApply"
op_text ThenAccept = codes "thenAccept"
op_text ThenRun = codes "thenRun"
op_text Copy = codes "copy"
op_text Handle = codes "handle"
op_text WhenComplete = codes "whenComplete"
op_text Exceptionally = codes "exceptionally"
op_text ThenCompose = codes "thenCompose"
op_text ExceptionallyCompose = codes "exceptionallyCompose"
op_text ThenCombine = codes "thenCombine"
op_text ThenAcceptBoth = codes "thenAcceptBoth"
op_text RunAfterBoth = codes "runAfterBoth"
op_text ApplyToEither = codes "applyToEither"
op_text AcceptEither = codes "acceptEither"
op_text RunAfterEither = codes "runAfterEither"
op_text AllOf = codes "allOf"
op_text AnyOf = codes "anyOf"

-- the number and the name of a refusal; the name of the stage of `InUse` comes from the graph
abbrev pub refusal_text : Refusal → List ℕ
refusal_text NoStage = codes "10 NoStage"
refusal_text NameTaken = codes "11 NameTaken"
refusal_text BadName = codes "12 BadName"
refusal_text Arity = codes "13 Arity"
refusal_text NoSource = codes "14 NoSource"
refusal_text Limit = codes "15 Limit"
refusal_text EndBeforeCreated = codes "16 EndBeforeCreated"
refusal_text NoAction = codes "17 NoAction"
refusal_text (InUse dependent) = codes "18 InUse"
refusal_text (Expr fault) = codes "20 Expr"

-- the number and the name of a fault
abbrev pub fault_text : Fault → List ℕ
fault_text (Refused refused) = refusal_text refused.refusal
fault_text (Cycle path) = codes "19 Cycle"
fault_text Memory = codes "90 Memory"
