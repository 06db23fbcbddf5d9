-- The actions of stages.
use Rattle.std.specs.Prelude.{ℕ, List, codes, pos, if◌then◌else◌, Option, Some, None, slice_get}
use Rattle.act_expr.specs.ExceptionName.{is_exception_name}
use Rattle.act_expr.specs.Expression.{Expression, literal, conditional, failed, throw}
use Rattle.act_expr.specs.declared.outcome.Value.TheVariants as value
use Rattle.trace_spans.specs.declared.span.Span.{Span}
use Rattle.trace_stages.specs.declared.stage.Action.{Action}
use Rattle.trace_stages.specs.declared.stage.Action.TheVariants as acts
use Rattle.trace_stages.specs.declared.stage.Exception.{Exception}
use Rattle.trace_stages.specs.declared.stage.Exception.TheVariants.{SpanFailed, Of}

-- a failed span that tells no exception throws `SpanFailed`
abbrev pub name_told : Option (List ℕ) → List ℕ
name_told None = codes "SpanFailed"
name_told (Some name) = name

abbrev pub thrown_at : Option Span → List ℕ
thrown_at None = codes "SpanFailed"
thrown_at (Some span) = name_told span.exception

abbrev pub exception_name : List Span → Exception → List ℕ
exception_name spans SpanFailed = codes "SpanFailed"
exception_name spans (Of place) = thrown_at (slice_get spans place)

-- a name that is none of an exception is written as `SpanFailed`
abbrev pub written_name : List ℕ → List ℕ
written_name name = if is_exception_name name then name else codes "SpanFailed"

abbrev pub throw_of : List ℕ → Expression
throw_of name = throw (written_name name)

-- null, an exception, an exception if the source failed, or the number of the first inner stage
abbrev pub imported_action : List Span → Action → Expression
imported_action spans acts.Null = literal value.Null
imported_action spans acts.PicksFirst = literal (value.Num (pos 0))
imported_action spans (acts.Throws exception) = throw_of (exception_name spans exception)
imported_action spans (acts.ThrowsIfFailed exception) = conditional failed (throw_of (exception_name spans exception)) (literal value.Null)
