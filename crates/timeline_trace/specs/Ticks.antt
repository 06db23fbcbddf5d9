-- Ticks in microseconds.
use Rattle.std.specs.Prelude.{ℕ, ◌-◌, ◌*◌, ◌/◌, ◌^◌, List, bytes_eq, codes, min, if◌then◌else◌}
use Rattle.timeline_svg.specs.declared.row.Run.{Run}
use Rattle.timeline_trace.specs.declared.labels.Tick.{Tick}
use Rattle.timeline_trace.specs.declared.labels.Tick.TheVariants.{Nanosecond, Microsecond, Millisecond, Second}

abbrev pub tick_named : List ℕ → Tick
tick_named unit =
    if bytes_eq unit (codes "ns") then Nanosecond
    else if bytes_eq unit (codes "ms") then Millisecond
    else if bytes_eq unit (codes "s") then Second
    else Microsecond

-- rounded down, and the most of 64 bits where there are more
abbrev pub micros : Tick → ℕ → ℕ
micros Nanosecond ticks = ticks / 1000
micros Microsecond ticks = ticks
micros Millisecond ticks = min (ticks * 1000) (2 ^ 64 - 1)
micros Second ticks = min (ticks * 1000000) (2 ^ 64 - 1)

-- when an action was triggered, started and ended
abbrev pub in_micros : Tick → Run → Run
in_micros tick run = record {
  triggered = micros tick run.triggered;
  started = micros tick run.started;
  ended = micros tick run.ended;
  missed_end = run.missed_end;
  completed = run.completed;
  since = run.since;
  has_failed = run.has_failed;
}
