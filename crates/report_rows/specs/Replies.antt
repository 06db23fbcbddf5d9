-- Whether a stage has replied.
use Rattle.std.specs.Prelude.{ℕ, Bool, false, true, ◌&&◌, Option}
use Rattle.act_expr.specs.declared.outcome.Outcome.{Outcome}
use Rattle.act_expr.specs.declared.outcome.Outcome.TheVariants as came_to
use Rattle.reply_rescue.specs.Replies.{is_by}
use Rattle.report_rows.specs.declared.standing.Standing.{Standing}
use Rattle.report_rows.specs.declared.standing.Standing.TheVariants.{Absent, Pending, Completed}

abbrev pub is_value : Outcome → Bool
is_value (came_to.Value value) = true
is_value (came_to.Bare name) = false
is_value (came_to.Wrapped name) = false

-- with a value, by the tick if one is given
abbrev pub has_replied : Option ℕ → Standing → Bool
has_replied by Absent = false
has_replied by Pending = false
has_replied by (Completed outcome moment) = is_value outcome && is_by by moment
