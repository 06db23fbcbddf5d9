-- What stages of spans wait for and do.
use Rattle.std.specs.Prelude.{ℕ, ◌-◌, ◌==◌, ◌&&◌, List, [], ◌∷◌, Bool, length, max, if◌then◌else◌, Option, Some, None, slice_get, unwrap_or}
use Rattle.trace_relations.specs.Moments.{interval_at}
use Rattle.trace_stages.specs.declared.failures.LastStep.{LastStep}
use Rattle.trace_stages.specs.declared.outcomes.Outcome.{Outcome}
use Rattle.trace_stages.specs.declared.stage.Action.{Action}
use Rattle.trace_stages.specs.declared.stage.Action.TheVariants.{Null}
use Rattle.trace_stages.specs.declared.stage.Op.TheVariants.{Async, Manual, ThenRun, Handle, WhenComplete}
use Rattle.trace_stages.specs.declared.walk.holding.Answer.{Answer}
use Rattle.trace_stages.specs.declared.walk.holding.OwnWork.{OwnWork}
use Rattle.trace_stages.specs.declared.works.Work.{Work}
use Rattle.trace_stages.specs.Failures.{action_of, last_step, thrown}
use Rattle.trace_stages.specs.Fates.{fate_at}
use Rattle.trace_stages.specs.Known.{had_at}
use Rattle.trace_stages.specs.Outcomes.{has_failed, outcome_of}
use Rattle.trace_stages.specs.Scene.{PlainScene, entry_at, list_at, whole_sight}
use Rattle.trace_stages.specs.declared.walk.stage_id.StageId.{StageId}
use Rattle.trace_stages.specs.declared.walk.stage_id.StageId.TheVariants.{Join, Start}

-- a stage that nobody completes
abbrev pub manual : ℕ → Work
manual created = record { op = Manual; created = created; source = None; queued = 0; runs = 0; action = None }

-- a stage that starts at a tick: `queued` is from the tick of its source to that
abbrev pub after_source : ℕ → StageId → Outcome → ℕ → Action → Work
after_source start source outcome runs action = record {
  op = if has_failed outcome then Handle else ThenRun;
  created = 0;
  source = Some source;
  queued = start - outcome.tick;
  runs = runs;
  action = Some action;
}

-- how a source of the first stage of a span ends
abbrev pub first_outcome : PlainScene → ℕ → StageId → Outcome
first_outcome scene place source = outcome_of (whole_sight scene.known scene.failures scene.outcomes) (list_at scene.entry_outcomes place) source

abbrev pub begin_from : PlainScene → ℕ → ℕ → Action → Option StageId → Work
begin_from scene place runs action None = record { op = Async; created = (interval_at scene.known.relations.intervals place).start; source = None; queued = 0; runs = runs; action = Some action }
begin_from scene place runs action (Some source) = after_source (interval_at scene.known.relations.intervals place).start source (first_outcome scene place source) runs action

-- the first stage of a span
abbrev pub begin_work : PlainScene → ℕ → ℕ → Action → Work
begin_work scene place runs action = begin_from scene place runs action (entry_at scene.entries place).stage

-- how that ends which a span has, at its end or before
abbrev pub had_outcome : PlainScene → StageId → Outcome
had_outcome scene source = outcome_of (whole_sight scene.known scene.failures scene.outcomes) [] source

abbrev pub work_after : PlainScene → Option OwnWork → Work
work_after scene None = manual 0
work_after scene (Some work) = after_source (had_outcome scene work.after).tick work.after (had_outcome scene work.after) (work.until - (had_outcome scene work.after).tick) Null

-- own work of a span: from the tick of what it had to that at which it ended
abbrev pub own_work : PlainScene → ℕ → ℕ → Work
own_work scene span number = work_after scene (slice_get (had_at scene.known.hads span).works number)

abbrev pub end_with : PlainScene → ℕ → List StageId → StageId
end_with scene place [] = (had_at scene.known.hads place).has
end_with scene place (source ∷ sources) = Join place (length (had_at scene.known.hads place).joins)

-- what a span has at its end, with the call whose failure it hands on
abbrev pub at_end : PlainScene → ℕ → StageId
at_end scene place = end_with scene place (list_at scene.handed place)

abbrev pub last_outcome : PlainScene → ℕ → Outcome
last_outcome scene place = outcome_of (whole_sight scene.known scene.failures scene.outcomes) [] (at_end scene place)

abbrev pub last_after : StageId → Outcome → LastStep → ℕ → Work
last_after source outcome step end = record { op = step.op; created = 0; source = Some source; queued = 0; runs = end - outcome.tick; action = Some step.action }

-- the last stage of a span that has two: it ends when the span did
abbrev pub last_work : PlainScene → ℕ → ℕ → Work
last_work scene place end = last_after (at_end scene place) (last_outcome scene place) (last_step (last_outcome scene place).failure (fate_at scene.known.fates place)) end

abbrev pub ended_work : PlainScene → ℕ → ℕ → Work
ended_work scene place end =
    if scene.known.has_two place then last_work scene place end
    else begin_work scene place (end - (interval_at scene.known.relations.intervals place).start) (action_of (thrown (fate_at scene.known.fates place)))

abbrev pub whole_with : PlainScene → ℕ → Option ℕ → Work
whole_with scene place None = manual (interval_at scene.known.relations.intervals place).start
whole_with scene place (Some end) = ended_work scene place end

-- ---- calls that were given up

-- the tick of what a span would have had with answers: its own end where one of these is open, and nothing else ended
abbrev pub answer_tick : Bool → Outcome → ℕ → ℕ
answer_tick is_open outcome end = if is_open && outcome.tick == 0 then end else outcome.tick

-- its action runs as long as the span did before the first call that it gave up, but at least to the end of the span
abbrev pub answer_from : PlainScene → ℕ → Option Answer → Option ℕ → Work
answer_from scene start None end = manual 0
answer_from scene start (Some answer) None = manual 0
answer_from scene start (Some answer) (Some end) = record {
  op = WhenComplete;
  created = 0;
  source = Some answer.stage;
  queued = 0;
  runs = max (answer.since - start) (end - answer_tick answer.is_open (had_outcome scene answer.stage) end);
  action = Some Null;
}

-- the end that a span which gave calls up would have had with their answers
abbrev pub answer_work : PlainScene → ℕ → Work
answer_work scene place =
    answer_from scene (interval_at scene.known.relations.intervals place).start (had_at scene.known.hads place).answer (interval_at scene.known.relations.intervals place).end

-- the end of a span that gave calls up, by its limit: as long after its start as it was, it throws
abbrev pub limit_work : PlainScene → ℕ → Work
limit_work scene place = record {
  op = ThenRun;
  created = 0;
  source = Some (Start place);
  queued = 0;
  runs = unwrap_or (interval_at scene.known.relations.intervals place).end 0 - (interval_at scene.known.relations.intervals place).start;
  action = Some (action_of (thrown (fate_at scene.known.fates place)));
}

-- the stage that ends when a span did, which gave no calls up
abbrev pub whole_work : PlainScene → ℕ → Work
whole_work scene place = whole_with scene place (interval_at scene.known.relations.intervals place).end
