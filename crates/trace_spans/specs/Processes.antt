-- The processes of a trace as the members of an object, and their clocks.
use Rattle.std.specs.Prelude.{◌≡◌, ℕ, List, [], ◌∷◌, codes, Option, Some, None, option_and_then, unwrap_or, Result, Ok, Err}
use Rattle.std.specs.Borrow.{Bor}
use Rattle.serde_json.specs.Data.{Data, Members, no_members, member as a_member}
use Rattle.trace_spans.specs.declared.fault.Fault.{Fault}
use Rattle.trace_spans.specs.declared.fault.Fault.TheVariants.{Shape}
use Rattle.trace_spans.specs.declared.member.Member.{Member}
use Rattle.trace_spans.specs.declared.member.Member.TheVariants as member
use Rattle.trace_spans.specs.declared.tags.TagForm.TheVariants as form
use Rattle.trace_spans.specs.Clocks.{clock_of}
use Rattle.trace_spans.specs.Exceptions.{tag_in, tag_text}
use Rattle.trace_spans.specs.Members.{then_on, item_in, text_in}

-- the members, in the order of their names
abbrev pub members_from : List (Bor (List ℕ) × Data) → Members
members_from [] = no_members
members_from (entry ∷ entries) = a_member entry.0.now entry.1 (members_from entries)

-- the text of a process's tag with a key, empty if there is none
unfoldable pub tag_of_process : List ℕ → Data → Result (List ℕ) Fault
tag_of_process key process =
    then_on (tag_in member.Tags key process) (λ tag.
    Ok (unwrap_or (option_and_then (tag_text form.Jaeger) tag) []))

unfoldable pub clock_of_process : Data → Result (List (List ℕ)) Fault
clock_of_process process =
    then_on (item_in member.Processes process) (λ _.
    then_on (text_in member.ServiceName process) (λ service.
    then_on (tag_of_process (codes "hostname") process) (λ instance.
    then_on (tag_of_process (codes "ip") process) (λ host.
    Ok (clock_of service instance host)))))

abbrev pub clock_by : Option Data → Result (List (List ℕ)) Fault
clock_by None = Ok (clock_of [] [] [])
clock_by (Some process) = clock_of_process process

-- a clock, or a fault of shape that names the member
abbrev pub clock_or_fault : Result (List (List ℕ)) Member → Result (List (List ℕ)) Fault
clock_or_fault (Ok clock) = Ok clock
clock_or_fault (Err asked) = Err (Shape asked)

-- what a process that is told so has for its clock
abbrev pub IsClockOf : Result (List (List ℕ)) Member → Data → Type 0
IsClockOf clock told = clock_or_fault clock ≡ clock_of_process told
