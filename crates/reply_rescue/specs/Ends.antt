-- A stage's ends, one of which is taken away or acts later.
use Rattle.std.specs.Prelude.{ℕ, ◌+◌, ◌^◌, ◌++◌, Bool, false, nat_lt, min, List, Option, None, Some, drop, is_some, slice_get, take}
use Rattle.std.specs.Option.{option_and_then, option_map, option_to_list}
use Rattle.stage_graph.specs.declared.end.Act.{Act}
use Rattle.stage_graph.specs.declared.end.Act.TheVariants.{Complete, CompleteExceptionally, Cancel, OrTimeout, CompleteOnTimeout}
use Rattle.stage_graph.specs.declared.end.End.{End}

-- twice as many ticks, but no more than a recording may say
abbrev pub twice : ℕ → ℕ
twice delay = min (delay + delay) (2 ^ 40)

-- a timeout after twice the delay; a call as it is
abbrev pub longer_act : Act → Act
longer_act (Complete value) = Complete value
longer_act (CompleteExceptionally name) = CompleteExceptionally name
longer_act Cancel = Cancel
longer_act (OrTimeout delay) = OrTimeout (twice delay)
longer_act (CompleteOnTimeout delay value) = CompleteOnTimeout (twice delay) value

abbrev pub longer_end : End → End
longer_end end = record end { act = longer_act end.act }

-- the ends with another one, or with none, in place of that of an index
abbrev pub with_instead : Option End → List End → ℕ → List End
with_instead other ends index = take index ends ++ (option_to_list other ++ drop (index + 1) ends)

-- the end of an index is taken away
abbrev pub without_end : List End → ℕ → List End
without_end ends index = with_instead None ends index

-- the end of an index has twice the delay
abbrev pub with_longer_end : List End → ℕ → List End
with_longer_end ends index = with_instead (option_map longer_end (slice_get ends index)) ends index

-- the delay of a timeout; a call has none
abbrev pub timeout_delay : Act → Option ℕ
timeout_delay (Complete value) = None
timeout_delay (CompleteExceptionally name) = None
timeout_delay Cancel = None
timeout_delay (OrTimeout delay) = Some delay
timeout_delay (CompleteOnTimeout delay value) = Some delay

abbrev pub delay_at : List End → ℕ → Option ℕ
delay_at ends index = option_and_then (λ end. timeout_delay end.act) (slice_get ends index)

-- the end of an index is a timeout
abbrev pub is_timeout_at : List End → ℕ → Bool
is_timeout_at ends index = is_some (delay_at ends index)

-- twice the delay is more than it
abbrev pub can_double : Option ℕ → Bool
can_double None = false
can_double (Some delay) = nat_lt delay (twice delay)
