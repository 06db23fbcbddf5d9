-- Types that definitions speak of, and that their crate keeps to itself.
use Rattle.recording.specs.RecordingOf.{graph_of}
use Rattle.trace_stages.specs.Called.{called_by}
use Rattle.trace_stages.specs.Events.{ends_for}
use Rattle.trace_stages.specs.Fates.{fate_at}
use Rattle.trace_stages.specs.Works.{had_outcome, whole_work}

abbrev ResultOf : {A B C : Type 0} → (A → B → C) → Type 0
ResultOf {A} {B} {C} f = C

abbrev ResultOfFour : {A B C D E : Type 0} → (A → B → C → D → E) → Type 0
ResultOfFour {A} {B} {C} {D} {E} f = E

-- a call that a span had called when it gave up
abbrev pub Called : Type 0
Called = ResultOf called_by

-- what happens inside a span
abbrev pub Happening : Type 0
Happening = ResultOfFour ends_for

-- how a span went
abbrev pub Fate : Type 0
Fate = ResultOf fate_at

-- what a stage waits for and does
abbrev pub WorkOf : Type 0
WorkOf = ResultOf whole_work

-- how a stage ends
abbrev pub Outcome : Type 0
Outcome = ResultOf had_outcome

abbrev ArgumentOf : {A B : Type 0} → (A → B) → Type 0
ArgumentOf {A} {B} f = A

-- what is read of a recording
abbrev pub Recording : Type 0
Recording = ArgumentOf graph_of
