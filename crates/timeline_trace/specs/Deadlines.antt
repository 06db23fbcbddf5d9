-- The deadline, in microseconds.
use Rattle.std.specs.Prelude.{ℕ, List, [], ◌∷◌, Option, None, Some, codes}
use Rattle.serde_json.specs.Data.{Data}
use Rattle.timeline_trace.specs.declared.labels.Tick.{Tick}
use Rattle.timeline_trace.specs.Json.{count, event, line_of, text}
use Rattle.timeline_trace.specs.Ticks.{micros}

-- a mark of all processes
abbrev pub deadline_event : ℕ → Data
deadline_event at =
    event (codes "i") (record { process = 1; row = 0 }) (codes "deadline") ((codes "cat", text (codes "deadline")) ∷ (codes "ts", count at) ∷ (codes "s", text (codes "g")) ∷ [])

-- where one is told
abbrev pub deadline_line : Tick → Option ℕ → List ℕ
deadline_line tick None = []
deadline_line tick (Some deadline) = line_of (deadline_event (micros tick deadline))
