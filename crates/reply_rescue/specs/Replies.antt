-- The value with which a stage completed, if it did so in time.
use Rattle.std.specs.Prelude.{ℕ, Bool, true, nat_le, if◌then◌else◌, Option, None, Some}
use Rattle.act_expr.specs.declared.outcome.Outcome.{Outcome}
use Rattle.act_expr.specs.declared.outcome.Outcome.TheVariants.{Value as Normal, Bare, Wrapped}
use Rattle.stage_ops.specs.declared.state.Done.{Done}
use Rattle.reply_rescue.specs.declared.reply.Reply.{Reply}

-- no later than the tick, if one is given
abbrev pub is_by : Option ℕ → ℕ → Bool
is_by None moment = true
is_by (Some last) moment = nat_le moment last

-- a value at this moment; none of an exception
abbrev pub reply_at : ℕ → Outcome → Option Reply
reply_at moment (Normal value) = Some (record { value = value; moment = moment })
reply_at moment (Bare name) = None
reply_at moment (Wrapped name) = None

abbrev pub reply_of : Option ℕ → Option Done → Option Reply
reply_of by None = None
reply_of by (Some done) = if is_by by done.moment then reply_at done.moment done.outcome else None
