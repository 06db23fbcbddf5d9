-- What a row tells of a stage.
use Rattle.std.specs.Prelude.{ℕ, ◌-◌, Bool, false, List, [], ◌++◌, Option, None, Some, codes, slice_get, string_bytes}
use Rattle.std.specs.Fmt.{decimal}
use Rattle.stage_graph.specs.declared.end.Act.{Act}
use Rattle.stage_graph.specs.declared.end.Act.TheVariants.{Complete, CompleteExceptionally, Cancel, OrTimeout, CompleteOnTimeout}
use Rattle.stage_graph.specs.declared.end.End.{End}
use Rattle.stage_graph.specs.declared.stage.Stage.{Stage}
use Rattle.stage_graph.specs.Plain.{PlainGraph, stage_at, name_of}
use Rattle.stage_graph.specs.Walk.{rank}
use Rattle.stage_ops.specs.declared.reason.Cause.{Cause}
use Rattle.stage_ops.specs.declared.reason.Cause.TheVariants.{Created, After, Inner, Pinned, Ended, Waiting, Open}
use Rattle.stage_ops.specs.Texts.{state_text}
use Rattle.scratch_eval.specs.Path.{reason_at}
use Rattle.version_store.specs.Queries.{state_of}
use Rattle.timeline_svg.specs.Services.{service_of}
use Rattle.timeline_svg.specs.declared.row.Course.{Course}
use Rattle.timeline_svg.specs.declared.row.Course.TheVariants.{Service, Pending, Completed}
use Rattle.timeline_svg.specs.declared.row.Row.{Row}
use Rattle.timeline_svg.specs.declared.row.Run.{Run}
use Rattle.version_rows.specs.declared.candidate.Candidate.{Candidate}
use Rattle.version_rows.specs.declared.line.Line.{Line}
use Rattle.version_rows.specs.declared.line.Line.TheVariants as line
use Rattle.version_rows.specs.Courses.{course_at}

-- how an end acts, by its name in recordings, and how long after it was set
abbrev pub act_text : Act → List ℕ
act_text (Complete value) = codes ", complete"
act_text (CompleteExceptionally name) = codes ", completeExceptionally"
act_text Cancel = codes ", cancel"
act_text (OrTimeout delay) = codes ", orTimeout with delay " ++ decimal delay
act_text (CompleteOnTimeout delay value) = codes ", completeOnTimeout with delay " ++ decimal delay

abbrev pub end_text : Option End → List ℕ
end_text None = []
end_text (Some end) = act_text end.act

abbrev pub index_text : ℕ → List ℕ
index_text index = codes "completed by its end of index " ++ decimal index

abbrev pub ended_text : ℕ → Option End → List ℕ
ended_text index end = index_text index ++ end_text end

abbrev pub cause_text : PlainGraph → Stage → Cause → List ℕ
cause_text graph stage Created = codes "waited for its creation at " ++ decimal stage.created
cause_text graph stage (After place) = codes "waited for " ++ name_of (stage_at graph.places place)
cause_text graph stage (Inner place) = codes "took over " ++ name_of (stage_at graph.places place)
cause_text graph stage Pinned = codes "its moment is pinned"
cause_text graph stage (Ended index) = ended_text index (slice_get stage.ends index)
cause_text graph stage (Waiting place) = codes "waits for " ++ name_of (stage_at graph.places place)
cause_text graph stage Open = codes "waits for no stage"

-- that its action was cut off, and how many ticks of it
abbrev pub cut_text : ℕ → Option ℕ → List ℕ
cut_text completed None = []
cut_text completed (Some end) = codes ", cut off " ++ decimal (end - completed) ++ codes " before its end"

-- how long its action was queued and ran until it completed
abbrev pub run_text : Run → List ℕ
run_text run = codes "queued " ++ decimal (run.started - run.triggered) ++ codes ", ran " ++ decimal (run.ended - run.started) ++ cut_text run.completed run.missed_end

abbrev pub own_text : Course → List ℕ
own_text Service = codes "queued 0, ran 0"
own_text Pending = codes "queued 0, ran 0"
own_text (Completed run) = run_text run

-- OUTCOME at M, rank R, the cause, and what its action came to, each on a line
abbrev pub about_text : PlainGraph → ℕ → Stage → Course → List ℕ
about_text graph place stage course =
    state_text (state_of graph place) ++ codes "\nrank " ++ decimal (rank graph.places place) ++ codes "\n"
    ++ cause_text graph stage (reason_at graph place).cause ++ codes "\n" ++ own_text course

-- a row by its texts
pub record PlainRow : Type 0 where
  pub name : List ℕ
  pub about : List ℕ
  pub created : ℕ
  pub course : Course
  pub is_on_path : Bool

abbrev pub plain : Row → PlainRow
plain row = record {
  name = string_bytes row.name;
  about = string_bytes row.about;
  created = row.created;
  course = row.course;
  is_on_path = row.is_on_path;
}

abbrev pub no_row : PlainRow
no_row = record { name = []; about = []; created = 0; course = Pending; is_on_path = false }

abbrev pub row_in : PlainGraph → Candidate → Option Stage → PlainRow
row_in graph candidate None = no_row
row_in graph candidate (Some stage) = record {
  name = stage.name;
  about = about_text graph candidate.place stage (course_at graph candidate.place stage);
  created = stage.created;
  course = course_at graph candidate.place stage;
  is_on_path = candidate.is_on_path;
}

-- the row of the service of a stage
abbrev pub service_row : Option Stage → PlainRow
service_row None = no_row
service_row (Some stage) = record { name = service_of stage.name; about = []; created = stage.created; course = Service; is_on_path = false }

-- the row of the stage at a candidate's place, or of its service
abbrev pub row_of : PlainGraph → Line → PlainRow
row_of graph (line.Stage candidate) = row_in graph candidate (stage_at graph.places candidate.place)
row_of graph (line.Service candidate) = service_row (stage_at graph.places candidate.place)
