-- The change that a word is.
use Rattle.std.specs.Prelude.{ℕ, ◌+◌, ◌==◌, ◌≡◌, Bool, ◌||◌, is_some, if◌then◌else◌, nat_lt, List, [], ◌∷◌, length, Option, Some, None, Result, Ok, Err}
use Rattle.std.specs.List.{position_or_len, before_first, after_first, slice_split}
use Rattle.change_words.specs.declared.assignment.Assignment.{Assignment}
use Rattle.change_words.specs.declared.assignment.Assignment.TheVariants.{Queued, Runs, Outcome, Moment, Limit}
use Rattle.change_words.specs.declared.change.Change.{Change}
use Rattle.change_words.specs.declared.fault.Misread.{Misread}
use Rattle.change_words.specs.declared.fault.ReadFault.{ReadFault}
use Rattle.change_words.specs.declared.fault.ReadFault.TheVariants as fault
use Rattle.change_words.specs.declared.fault.Wrong.{Wrong}
use Rattle.change_words.specs.declared.fault.Wrong.TheVariants.{Again, NothingAssigned}
use Rattle.change_words.specs.Results.{then_on}
use Rattle.change_words.specs.Words.{assignment_of}

-- a part of a word, and what is wrong with it
pub record WrongPart : Type 0 where
  pub text : List ℕ
  pub reason : Wrong

abbrev pub wrong_part : Misread → WrongPart
wrong_part misread = record { text = misread.part.now; reason = misread.wrong }

-- what assigns nothing to the stage of a name
abbrev pub begun : List ℕ → Change
begun name = record { name = name; queued = None; runs = None; outcome = None; moment = None; limit = None }

-- something is assigned
abbrev pub assigns : Change → Bool
assigns change =
    is_some change.queued || is_some change.runs || is_some change.outcome || is_some change.moment || is_some change.limit

-- the change, unless the same is assigned already
abbrev pub unless_again : {A : Type 0} → Option A → Change → Result Change Wrong
unless_again None change = Ok change
unless_again (Some former) change = Err Again

-- the change with one more assignment
abbrev pub assigned : Assignment → Change → Result Change Wrong
assigned (Queued amount) change = unless_again change.queued (record change { queued = Some amount })
assigned (Runs amount) change = unless_again change.runs (record change { runs = Some amount })
assigned (Outcome outcome) change = unless_again change.outcome (record change { outcome = Some outcome })
assigned (Moment tick) change = unless_again change.moment (record change { moment = Some tick })
assigned (Limit limit) change = unless_again change.limit (record change { limit = Some limit })

-- of the part of this text
abbrev pub of_part : List ℕ → Result Change Wrong → Result Change WrongPart
of_part text (Ok change) = Ok change
of_part text (Err reason) = Err (record { text = text; reason = reason })

-- the change with what a part assigns
abbrev pub with_assignment : List ℕ → Change → Result Change Wrong
with_assignment part change = then_on (assignment_of part) (λ assignment. assigned assignment change)

-- the change with what one more part assigns; nothing, where it is empty
abbrev pub with_part : List ℕ → Change → Result Change WrongPart
with_part part change = if length part == 0 then Ok change else of_part part (with_assignment part change)

-- the change with what further parts assign, one after the other
abbrev pub with_parts : List (List ℕ) → Change → Result Change WrongPart
with_parts [] change = Ok change
with_parts (part ∷ parts) change = then_on (with_part part change) (with_parts parts)

abbrev pub is_space : ℕ → Bool
is_space b = b == 32

abbrev pub nothing_assigned : List ℕ → Result Change WrongPart
nothing_assigned word = Err (record { text = word; reason = NothingAssigned })

abbrev pub if_assigns : List ℕ → Change → Result Change WrongPart
if_assigns word change = if assigns change then Ok change else nothing_assigned word

-- the change of a name, in a word, behind which these parts stand
abbrev pub of_parts : List ℕ → List ℕ → List ℕ → Result Change WrongPart
of_parts word name parts = then_on (with_parts (slice_split is_space parts) (begun name)) (if_assigns word)

-- the change that a word is: the name of a stage, and behind it assignments, with spaces between them
abbrev pub change_of : List ℕ → Result Change WrongPart
change_of word =
    if nat_lt (position_or_len is_space word) (length word)
    then of_parts word (before_first is_space word) (after_first is_space word)
    else nothing_assigned word

abbrev pub IsPartRead : Result Change Misread → Result Change WrongPart → Type 0
IsPartRead (Ok change) answer = answer ≡ Ok change
IsPartRead (Err misread) answer = answer ≡ Err (wrong_part misread)

-- the result is the answer, or out of memory
abbrev pub IsRead : Result Change ReadFault → Result Change WrongPart → Type 0
IsRead (Ok change) answer = answer ≡ Ok change
IsRead (Err (fault.Misread misread)) answer = answer ≡ Err (wrong_part misread)
IsRead (Err fault.Memory) answer = Unit {0}

abbrev pub one_if : Bool → ℕ
one_if holds = if holds then 1 else 0

-- one of both times is assigned
abbrev pub sets_times : Change → Bool
sets_times change = is_some change.queued || is_some change.runs

-- how many edits a change is: one of both times, and one of each other assignment
unfoldable pub edit_count : Change → ℕ
edit_count change =
    one_if (sets_times change) + one_if (is_some change.outcome) + one_if (is_some change.moment) + one_if (is_some change.limit)
