-- With which exceptions spans fail.
use Rattle.std.specs.Prelude.{ℕ, ◌==◌, ◌||◌, List, not, if◌then◌else◌, Option, Some, None, fold}
use Rattle.trace_stages.specs.declared.failures.LastStep.{LastStep}
use Rattle.trace_stages.specs.declared.fates.Fate.{Fate}
use Rattle.trace_stages.specs.declared.fates.Fate.TheVariants.{Succeeded, Failed, Threw}
use Rattle.trace_stages.specs.declared.stage.Action.{Action}
use Rattle.trace_stages.specs.declared.stage.Action.TheVariants.{Null, Throws, ThrowsIfFailed}
use Rattle.trace_stages.specs.declared.stage.Exception.{Exception}
use Rattle.trace_stages.specs.declared.stage.Exception.TheVariants as exception
use Rattle.trace_stages.specs.declared.stage.Op.TheVariants.{ThenRun, Handle, WhenComplete}
use Rattle.trace_stages.specs.Fates.{fate_at}
use Rattle.trace_stages.specs.EndOutcomes.{end_outcome}
use Rattle.trace_stages.specs.HandedOn.{same_exception, thrower}
use Rattle.trace_stages.specs.Known.{PlainKnown, gave_up, has_ended}
use Rattle.trace_stages.specs.declared.tour.visit.Visit.{Visit}
use Rattle.trace_stages.specs.declared.tour.visit.Visit.TheVariants.{Enters, Leaves}

-- a failed span without an exception throws `SpanFailed`
abbrev pub thrown : Fate → Option Exception
thrown Succeeded = None
thrown Failed = Some exception.SpanFailed
thrown (Threw own) = Some own

abbrev pub action_of : Option Exception → Action
action_of None = Null
action_of (Some own) = Throws own

abbrev pub handed_on : Exception → LastStep
handed_on failed = record { op = WhenComplete; action = Null; failure = Some failed }

-- after a source that failed: handled, handed on or translated
abbrev pub after_failure : Exception → Fate → LastStep
after_failure failed Succeeded = record { op = Handle; action = Null; failure = None }
after_failure failed Failed = handed_on failed
after_failure failed (Threw own) = if same_exception own failed then handed_on failed else record { op = Handle; action = ThrowsIfFailed own; failure = Some own }

-- what the last stage of a span does after a source, and how it then fails
abbrev pub last_step : Option Exception → Fate → LastStep
last_step None fate = record { op = ThenRun; action = action_of (thrown fate); failure = thrown fate }
last_step (Some failed) fate = after_failure failed fate

abbrev pub failure_of_thrower : (ℕ → Option Exception) → Option ℕ → Option Exception
failure_of_thrower failures None = None
failure_of_thrower failures (Some child) = failures child

-- with which exception a span is given what it has at its end: that of a child where it hands that on
abbrev pub given : PlainKnown → (ℕ → Option Exception) → ℕ → Option Exception → Option Exception
given known failures place None = failure_of_thrower failures (thrower known failures place)
given known failures place (Some failed) = Some failed

abbrev pub failure_after : PlainKnown → (ℕ → Option Exception) → ℕ → Option Exception
failure_after known failures place = (last_step (given known failures place (end_outcome known failures place).failure) (fate_at known.fates place)).failure

abbrev pub failure_at_end : PlainKnown → (ℕ → Option Exception) → ℕ → Option Exception
failure_at_end known failures place = if gave_up known place || not (known.has_two place) then thrown (fate_at known.fates place) else failure_after known failures place

-- with which exception the last stage of a span fails, where others fail so
abbrev pub failure : PlainKnown → (ℕ → Option Exception) → ℕ → Option Exception
failure known failures place = if has_ended known.relations.intervals place then failure_at_end known failures place else None

-- a span that is left fails as its children did
abbrev pub with_visit : PlainKnown → (ℕ → Option Exception) → Visit → ℕ → Option Exception
with_visit known failures (Enters place) = failures
with_visit known failures (Leaves place) = λ other. if place == other then failure known failures place else failures other

abbrev pub none_fails : ℕ → Option Exception
none_fails place = None

-- with which exceptions the last stages of spans fail, each by those that were left before it
abbrev pub failures_by : PlainKnown → List Visit → ℕ → Option Exception
failures_by known visits = fold (with_visit known) none_fails visits
