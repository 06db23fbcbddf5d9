-- A text that gains stages, or gets too long by them.
use Rattle.std.specs.Prelude.{◌≡◌, ◌<◌, List, ◌++◌, length}
use Rattle.recording_text.specs.Labels.{Begun, Labelled, PlainHead, begun, labelled_recording}
use Rattle.trace_import.specs.Limits.{longest}
use Rattle.trace_import.specs.declared.fault.ImportFault.{ImportFault}
use Rattle.trace_import.specs.declared.fault.ImportFault.TheVariants.{TooLong, Memory}

-- behind the stages that stood in a text stand these
abbrev pub GainStages : Begun → Begun → List Labelled → Type 0
GainStages old new stages = (head : PlainHead) (before : List Labelled) → old ≡ begun head before → new ≡ begun head (before ++ stages)

-- with these stages a text is too long, or memory is out
abbrev pub StaysTooLong : ImportFault → Begun → List Labelled → Type 0
StaysTooLong TooLong old stages = (head : PlainHead) (before : List Labelled) → old ≡ begun head before → longest < length (labelled_recording head (before ++ stages))
StaysTooLong Memory old stages = Unit {0}
StaysTooLong other old stages = ⊥
