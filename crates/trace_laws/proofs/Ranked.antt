-- A graph that is loaded has no more stages than a graph has places.
use Rattle.std.proofs.Common.{◌≡◌, ℕ, ◌+◌, ◌<◌, ◌≤◌, List, [], ◌∷◌, Bool, true, false, cond, length, Option, Some, None, refl, sym, arith}
use Rattle.std.specs.Prelude.{nat_lt, not}
use Rattle.std.proofs.lemmas.Bool.{ltb-true}
use Rattle.std.proofs.lemmas.Option.{none-some}
use Rattle.stage_graph.specs.Checks.{action_refusal, checks_of, first_refusal, is_within, passing}
use Rattle.stage_graph.specs.Loading.{first_refused, is_first, refusal_of}
use Rattle.stage_graph.specs.declared.fault.Refusal.{Refusal}
use Rattle.stage_graph.specs.declared.fault.Refusal.TheVariants.{Arity, BadName, EndBeforeCreated, Limit, NameTaken, NoAction, NoSource}
use Rattle.stage_graph.specs.declared.stage.Spec.{Spec}
use Rattle.trace_laws.proofs.Ranking.{no_later}
use Rattle.trace_laws.proofs.Relations.{and_left}

peel : (free named arity known within : Bool) (rest : Option Refusal)
    → cond (not free) (Some NameTaken) (cond (not named) (Some BadName) (cond (not arity) (Some Arity) (cond (not known) (Some NoSource) (cond (not within) (Some Limit) rest)))) ≡ None → within ≡ true
peel false named arity known within rest none = absurd (none-some NameTaken (sym none))
peel true false arity known within rest none = absurd (none-some BadName (sym none))
peel true true false known within rest none = absurd (none-some Arity (sym none))
peel true true true false within rest none = absurd (none-some NoSource (sym none))
peel true true true true false rest none = absurd (none-some Limit (sym none))
peel true true true true true rest none = refl

abbrev TypeOf : {A : Type 0} → A → Type 0
TypeOf {A} x = A

within_of : (checks : TypeOf passing) → first_refusal checks ≡ None → checks.within ≡ true
within_of checks none =
    peel checks.free checks.named checks.arity checks.known checks.within
    (cond (not checks.in_time) (Some EndBeforeCreated) (cond (not checks.acts) (Some NoAction) (action_refusal checks.action))) none

within_place : (find : List ℕ → Option ℕ) (free : Bool) (place : ℕ) (spec : Spec) → first_refusal (checks_of free find place spec) ≡ None → place < 65_536
within_place find free place spec none =
    let within : is_within place spec ≡ true = within_of (checks_of free find place spec) none in
    ltb-true place 65_536 (and_left (nat_lt place 65_536) _ within)

pub few_loaded : (find : List ℕ → Option ℕ) (a : ℕ) (specs : List Spec) → a ≤ 65_536 → first_refused find a specs ≡ None → a + length specs ≤ 65_536
few_loaded find a [] le none = omega arith
few_loaded find a (spec ∷ specs) le none =
    let both = no_later a (refusal_of find a spec) (first_refused find (a + 1) specs) none in
    let lt : a < 65_536 = within_place find (is_first a (find spec.name)) a spec both.0 in
    let rest : (a + 1) + length specs ≤ 65_536 = few_loaded find (a + 1) specs (omega arith) both.1 in
    omega arith
