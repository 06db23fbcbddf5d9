-- What a part of a word assigns.
use Rattle.std.specs.Prelude.{ℕ, ◌==◌, Bool, bytes_eq, codes, nat_lt, if◌then◌else◌, List, length, Option, Some, None, Result, Ok, Err}
use Rattle.std.specs.List.{position_or_len, before_first, after_first}
use Rattle.act_expr.specs.ExceptionName.{exception_name}
use Rattle.act_expr.specs.declared.outcome.Outcome.{Outcome}
use Rattle.act_expr.specs.declared.outcome.Outcome.TheVariants as outcome
use Rattle.change_words.specs.declared.assignment.Assignment.{Assignment}
use Rattle.change_words.specs.declared.assignment.Assignment.TheVariants as assignment
use Rattle.change_words.specs.declared.assignment.TimeLimit.TheVariants.{Delay, Unlimited}
use Rattle.change_words.specs.declared.key.Key.{Key}
use Rattle.change_words.specs.declared.key.Key.TheVariants as key
use Rattle.change_words.specs.declared.fault.Wrong.{Wrong}
use Rattle.change_words.specs.declared.fault.Wrong.TheVariants.{NoKey, NoValue, TakesNoValue, NoException}
use Rattle.change_words.specs.Numbers.{amount_of, count_of, value_of}
use Rattle.change_words.specs.Results.{then_on}

-- the key of a text
abbrev pub key_named : List ℕ → Option Key
key_named text =
    if bytes_eq text (codes "queued") then Some key.Queued
    else if bytes_eq text (codes "runs") then Some key.Runs
    else if bytes_eq text (codes "gives") then Some key.Gives
    else if bytes_eq text (codes "fails") then Some key.Fails
    else if bytes_eq text (codes "at") then Some key.At
    else if bytes_eq text (codes "limit") then Some key.Limit
    else if bytes_eq text (codes "unlimited") then Some key.Unlimited
    else None

abbrev pub exception_or_fault : Option (List ℕ) → Result Outcome Wrong
exception_or_fault None = Err NoException
exception_or_fault (Some name) = Ok (outcome.Bare name)

-- the exception of a name, as it was thrown
abbrev pub exception_of : List ℕ → Result Outcome Wrong
exception_of text = exception_or_fault (exception_name text)

-- what a key without a value assigns
abbrev pub bare : Option Key → Result Assignment Wrong
bare None = Err NoKey
bare (Some key.Unlimited) = Ok (assignment.Limit Unlimited)
bare (Some others) = Err NoValue

abbrev pub bare_of : List ℕ → Result Assignment Wrong
bare_of text = bare (key_named text)

-- what a key assigns by its value
abbrev pub keyed : Key → List ℕ → Result Assignment Wrong
keyed key.Queued text = then_on (amount_of text) (λ amount. Ok (assignment.Queued amount))
keyed key.Runs text = then_on (amount_of text) (λ amount. Ok (assignment.Runs amount))
keyed key.Gives text = then_on (value_of text) (λ value. Ok (assignment.Outcome (outcome.Value value)))
keyed key.Fails text = then_on (exception_of text) (λ thrown. Ok (assignment.Outcome thrown))
keyed key.At text = then_on (count_of text) (λ tick. Ok (assignment.Moment tick))
keyed key.Limit text = then_on (count_of text) (λ delay. Ok (assignment.Limit (Delay delay)))
keyed key.Unlimited text = Err TakesNoValue

abbrev pub keyed_if_named : Option Key → List ℕ → Result Assignment Wrong
keyed_if_named None text = Err NoKey
keyed_if_named (Some key) text = keyed key text

abbrev pub valued : List ℕ → List ℕ → Result Assignment Wrong
valued key text = keyed_if_named (key_named key) text

abbrev pub is_equals : ℕ → Bool
is_equals b = b == 61

-- a key, or a key and its value, between which the first `=` stands
abbrev pub assignment_of : List ℕ → Result Assignment Wrong
assignment_of part =
    if nat_lt (position_or_len is_equals part) (length part)
    then valued (before_first is_equals part) (after_first is_equals part)
    else bare_of part
