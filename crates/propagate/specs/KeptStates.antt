-- The state that a list keeps.
use Rattle.std.specs.Prelude.{ℕ, ℤ, Bool, true, false, Option, Some, None}
use Rattle.act_expr.specs.declared.outcome.Value.{Value}
use Rattle.act_expr.specs.declared.outcome.Value.TheVariants.{Null, Num}
use Rattle.act_expr.specs.declared.outcome.Outcome.TheVariants.{Value as Holds}
use Rattle.stage_ops.specs.declared.state.Reads.{Reads}
use Rattle.stage_ops.specs.declared.state.Reads.TheVariants.{Nothing, Sources, Picked}
use Rattle.stage_ops.specs.declared.state.State.{State}
use Rattle.propagate.specs.declared.kept.Reading.{Reading}
use Rattle.propagate.specs.declared.kept.Reading.TheVariants.{Nothing as NothingRead, Sources as SourcesRead, Picked as PickedRead}
use Rattle.propagate.specs.declared.kept.Form.{Form}
use Rattle.propagate.specs.declared.kept.Form.TheVariants.{Pending, Returned, Other}

-- the number, or null
abbrev pub value_in : Bool → ℤ → Value
value_in true number = Num number
value_in false number = Null

-- the moment, or none
abbrev pub start_in : Bool → ℕ → Option ℕ
start_in true start = Some start
start_in false start = None

-- what was read, with the index of the inner stage
abbrev pub reads_in : Reading → ℕ → Reads
reads_in NothingRead index = Nothing
reads_in SourcesRead index = Sources
reads_in PickedRead index = Picked index

-- of a value, for which no source is blamed
abbrev pub state_returned : Value → ℕ → Option ℕ → Reads → State
state_returned value moment start reads = record { done = Some (record { outcome = Holds value; moment = moment; from = None; start = start }); reads = reads }

abbrev pub state_in : Form → State
state_in (Pending reads) = record { done = None; reads = reads }
state_in (Returned is_number is_started reading index number moment start) = state_returned (value_in is_number number) moment (start_in is_started start) (reads_in reading index)
state_in (Other state) = state
