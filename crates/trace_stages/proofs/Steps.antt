-- One more event of a walk, and what comes after the last.
use Rattle.std.proofs.Common.{◌≡◌, ℕ, ◌+◌, ◌<◌, ◌≤◌, List, [], ◌∷◌, true, false, Option, Some, None, take, get_or, length, min, refl, sym, ap, ◌∙◌, arith}
use Rattle.std.specs.Prelude.{is_some, nat_lt, fold}
use Rattle.std.proofs.lemmas.Bool.{false≢true, true≢false}
use Rattle.std.proofs.lemmas.Bool.Decides.{nat_tests}
use Rattle.std.proofs.lemmas.List.{take_more}
use Rattle.std.proofs.lemmas.List.Sums.{fold-append, fold_more}
use Rattle.trace_stages.specs.declared.walk.called.Called.{Called}
use Rattle.trace_stages.specs.declared.walk.event.Event.{Event}
use Rattle.trace_stages.specs.Held.{PlainHolding, looked, opening}
use Rattle.trace_stages.specs.Holdings.{held_until}
use Rattle.trace_stages.specs.OwnWork.{with_work, worked}
use Rattle.trace_stages.specs.Walk.{after, answered, earlier_start, ended_by, first_start, some_open, walked, with_answer, with_called}

pub walked_more : (span start : ℕ) (events : List Event) (i : ℕ) (event : Event) → i < length events → walked span start (take (i + 1) events) ≡ after span (walked span start (take i events)) (get_or events i event)
walked_more span start events i event lt = ap (λ those. walked span start those) (take_more events i event lt) ∙ fold-append (after span) (opening span start) (take i events) (get_or events i event ∷ [])

not_later : (reached tick : ℕ) → tick ≤ reached → nat_lt reached tick ≡ false
not_later reached tick le = grind (arith, nat_tests)

is_later : (reached tick : ℕ) → reached < tick → nat_lt reached tick ≡ true
is_later reached tick lt = grind (arith, nat_tests)

-- a span has not worked that has what ended at the tick, or later
pub not_worked : (span : ℕ) (plain : PlainHolding) (tick reached : ℕ) → reached ≡ plain.reached → tick ≤ reached → worked span plain tick ≡ plain
not_worked span plain tick reached is le = let test : nat_lt plain.reached tick ≡ false = not_later plain.reached tick (omega arith) in rw test refl

-- and else it has
pub has_worked : (span : ℕ) (plain : PlainHolding) (tick reached : ℕ) → reached ≡ plain.reached → reached < tick → worked span plain tick ≡ with_work span plain tick
has_worked span plain tick reached is lt = let test : nat_lt plain.reached tick ≡ true = is_later plain.reached tick (omega arith) in rw test refl

-- one more call that a span gave up
pub called_more : (plain : PlainHolding) (called : List Called) (i : ℕ) (call : Called) → i < length called → with_called plain (take (i + 1) called) ≡ ended_by (get_or called i call).span (get_or called i call).stage 0 (with_called plain (take i called))
called_more plain called i call lt = fold_more (λ (so_far : PlainHolding) (those : Called). ended_by those.span those.stage 0 so_far) plain called i call lt

-- the earliest start, with one more call
pub start_more : (start : ℕ) (calls : List Called) (i : ℕ) (call : Called) (since new : ℕ) → i < length calls → since ≡ fold earlier_start start (take i calls) → new ≡ min since (get_or calls i call).start → new ≡ fold earlier_start start (take (i + 1) calls)
start_more start calls i call since new lt so_far is = is ∙ ap (λ n. min n (get_or calls i call).start) so_far ∙ sym (fold_more earlier_start start calls i call lt)

-- a span that gave nothing up has no answer
pub no_answer : (span : ℕ) (calls : List Called) (plain : PlainHolding) → length calls ≡ 0 → answered span calls plain ≡ plain
no_answer span [] plain none = refl
no_answer span (call ∷ others) plain none = absurd (omega arith)

pub an_answer : (span : ℕ) (calls : List Called) (plain : PlainHolding) → 0 < length calls → with_answer plain (looked span (with_called plain calls)) (first_start calls) (some_open calls) ≡ answered span calls plain
an_answer span [] plain some = absurd (omega arith)
an_answer span (call ∷ others) plain some = refl

-- a span that has not ended is not looked at any more
pub held_open : (end : Option ℕ) (span : ℕ) (calls : List Called) (plain : PlainHolding) → is_some end ≡ false → held_until end span calls plain ≡ plain
held_open None span calls plain is = refl
held_open (Some tick) span calls plain is = absurd (true≢false is)

pub held_ended : (end : Option ℕ) (span : ℕ) (calls : List Called) (plain : PlainHolding) → is_some end ≡ true → held_until end span calls plain ≡ answered span calls (looked span plain)
held_ended None span calls plain is = absurd (false≢true is)
held_ended (Some tick) span calls plain is = refl
