-- Why a stage completed when it did, or why it is pending.
use Rattle.stage_graph.specs.declared.stage.Stage.{Stage}
use Rattle.stage_graph.specs.Plain.{PlainGraph}
use Rattle.stage_ops.specs.declared.reason.Cause.{Cause}
use Rattle.stage_ops.specs.declared.reason.Cause.TheVariants as by
use Rattle.report_rows.specs.declared.because.Because.{Because}
use Rattle.report_rows.specs.declared.because.Because.TheVariants.{Created, After, Inner, Pinned, Ended, Waiting, Open}
use Rattle.report_rows.specs.Ends.{end_of, end_text}
use Rattle.report_rows.specs.Names.{name_at}

-- the cause of a stage, with the names of other stages
abbrev pub because_of : PlainGraph → Stage → Cause → Because
because_of graph stage by.Created = Created stage.created
because_of graph stage (by.After place) = After (name_at graph place)
because_of graph stage (by.Inner place) = Inner (name_at graph place)
because_of graph stage by.Pinned = Pinned
because_of graph stage (by.Ended index) = Ended (end_text (end_of index stage))
because_of graph stage (by.Waiting place) = Waiting (name_at graph place)
because_of graph stage by.Open = Open
