-- Ends with other timeouts.
use Rattle.std.specs.Prelude.{ℕ, ◌≡◌, Bool, true, false, not, nat_eq, if◌then◌else◌, List, map, filter, count_by, Result, Ok, Err}
use Rattle.stage_graph.specs.declared.end.Act.{Act}
use Rattle.stage_graph.specs.declared.end.Act.TheVariants.{Complete, CompleteExceptionally, Cancel, OrTimeout, CompleteOnTimeout}
use Rattle.stage_graph.specs.declared.end.End.{End}
use Rattle.change_words.specs.declared.assignment.TimeLimit.{TimeLimit}
use Rattle.change_words.specs.declared.assignment.TimeLimit.TheVariants.{Delay, Unlimited}
use Rattle.change_words.specs.declared.timeouts.LimitFault.{LimitFault}
use Rattle.change_words.specs.declared.timeouts.LimitFault.TheVariants.{Timeouts, Memory}

abbrev pub waits : Act → Bool
waits (OrTimeout delay) = true
waits (CompleteOnTimeout delay value) = true
waits (Complete value) = false
waits (CompleteExceptionally name) = false
waits Cancel = false

-- an end that acts a delay after it is set
abbrev pub is_timeout : End → Bool
is_timeout end = waits end.act

abbrev pub waiting : ℕ → Act → Act
waiting delay (OrTimeout former) = OrTimeout delay
waiting delay (CompleteOnTimeout former value) = CompleteOnTimeout delay value
waiting delay (Complete value) = Complete value
waiting delay (CompleteExceptionally name) = CompleteExceptionally name
waiting delay Cancel = Cancel

-- the end with another delay, if it is a timeout
abbrev pub delayed : ℕ → End → End
delayed delay end = record end { act = waiting delay end.act }

-- the ends with the delay of their one timeout, or without all timeouts; how many timeouts they have, where that isn't one
abbrev pub limited : TimeLimit → List End → Result (List End) ℕ
limited Unlimited ends = Ok (filter (λ end. not (is_timeout end)) ends)
limited (Delay delay) ends = if nat_eq (count_by is_timeout ends) 1 then Ok (map (delayed delay) ends) else Err (count_by is_timeout ends)

-- the result is the answer, or out of memory
abbrev pub IsLimited : Result (List End) LimitFault → Result (List End) ℕ → Type 0
IsLimited (Ok ends) answer = answer ≡ Ok ends
IsLimited (Err (Timeouts count)) answer = answer ≡ Err count
IsLimited (Err Memory) answer = Unit {0}
