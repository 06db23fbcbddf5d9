-- The walk through a span by its events.
use Rattle.std.specs.Prelude.{ℕ, ◌||◌, List, [], ◌∷◌, ◌++◌, Bool, max, min, nat_eq, Some, fold}
use Rattle.std.specs.List.{list_any}
use Rattle.trace_stages.specs.declared.walk.called.Called.{Called}
use Rattle.trace_stages.specs.declared.walk.event.Event.{Event}
use Rattle.trace_stages.specs.declared.walk.event.Event.TheVariants.{Starts, Ends}
use Rattle.trace_stages.specs.declared.walk.stage_id.StageId.{StageId}
use Rattle.trace_stages.specs.Held.{PlainHolding, looked, opening}
use Rattle.trace_stages.specs.OwnWork.{worked}

-- a span that starts begins from what it has
abbrev pub begun_by : ℕ → PlainHolding → PlainHolding
begun_by place holding = record holding {
  begun = holding.begun ++ place ∷ [];
  begins = holding.begins ++ record { span = place; from = holding.has } ∷ [];
}

-- a call ends that began with a span, and for which a stage stands
abbrev pub ended_by : ℕ → StageId → ℕ → PlainHolding → PlainHolding
ended_by place stage tick holding = record holding {
  reached = max holding.reached tick;
  ended = holding.ended ++ stage ∷ [];
  is_used = holding.is_used || list_any (nat_eq place) holding.begun;
}

abbrev pub after : ℕ → PlainHolding → Event → PlainHolding
after span holding (Starts place tick) = begun_by place (worked span (looked span holding) tick)
after span holding (Ends place stage tick) = ended_by place stage tick holding

-- the walk by moments through what happens inside the span
abbrev pub walked : ℕ → ℕ → List Event → PlainHolding
walked span start events = fold (after span) (opening span start) events

-- ---- answers

abbrev pub with_called : PlainHolding → List Called → PlainHolding
with_called holding called = fold (λ so_far call. ended_by call.span call.stage 0 so_far) holding called

abbrev pub earlier_start : ℕ → Called → ℕ
earlier_start since call = min since call.start

-- the tick at which the first of calls started
abbrev pub first_start : List Called → ℕ
first_start [] = 0
first_start (call ∷ others) = fold earlier_start call.start others

-- whether one of calls has not ended
abbrev pub some_open : List Called → Bool
some_open calls = list_any (λ call. call.is_open) calls

abbrev pub with_answer : PlainHolding → PlainHolding → ℕ → Bool → PlainHolding
with_answer holding answered since is_open = record answered { has = holding.has; answer = Some (record { stage = answered.has; since = since; is_open = is_open }) }

-- what a span that gave calls up would have had, had these ended before it did
abbrev pub answered : ℕ → List Called → PlainHolding → PlainHolding
answered span [] holding = holding
answered span (call ∷ others) holding = with_answer holding (looked span (with_called holding (call ∷ others))) (first_start (call ∷ others)) (some_open (call ∷ others))
