-- The texts by which faults are printed.
use Rattle.std.specs.Prelude.{ℕ, List, ◌++◌, codes}
use Rattle.std.specs.List.{flat_map}
use Rattle.trace_spans.specs.MemberTexts.{member_text}
use Rattle.trace_spans.specs.declared.fault.Fault.{Fault}
use Rattle.trace_spans.specs.declared.fault.Fault.TheVariants.{TooLong, Json, NotATrace, Shape, SeveralTraces, NoTrace, Memory}

abbrev pub spaced_text : List ℕ → List ℕ
spaced_text text = codes " " ++ text

-- texts, each with a space before it
abbrev pub spaced_texts : List (List ℕ) → List ℕ
spaced_texts texts = flat_map spaced_text texts

-- several traces are named, each after a space
abbrev pub fault_text : Fault → List ℕ
fault_text Json = codes "refused 70 JSON"
fault_text (Shape member) = codes "refused 71 Shape " ++ member_text member
fault_text TooLong = codes "refused 72 TooLong"
fault_text (NotATrace strange) = codes "refused 80 NotATrace"
fault_text NoTrace = codes "refused 81 NoTrace"
fault_text (SeveralTraces traces) = codes "refused 82 SeveralTraces" ++ spaced_texts traces
fault_text Memory = codes "refused 90 Memory"
