-- Changes made one after the other.
use Rattle.std.proofs.Common.{◌≡◌, ◌∙◌, ℕ, ◌+◌, ◌<◌, ◌≤◌, List, ◌∷◌, length, drop, get_or, Result, Ok, Err, sym, ap, subst}
use Rattle.std.proofs.lemmas.List.{at_drop_more, at_drop_all}
use Rattle.stage_graph.specs.Plain.{PlainGraph}
use Rattle.change_words.specs.declared.change.Change.{Change}
use Rattle.change_words.specs.declared.fault.MakingFault.{MakingFault}
use Rattle.change_words.specs.declared.fault.MakingFault.TheVariants.{Refused, NotOneTimeout, ListSize, Memory}
use Rattle.change_words.specs.Results.{then_on}
use Rattle.tried_changes.specs.InTurn.{IsOfGraph, made_by, made_in_turn}

-- the next one
turn : (changes : List Change) (i : ℕ) (change : Change) (graph : PlainGraph) → i < length changes → change ≡ get_or changes i change
    → made_in_turn (drop i changes) graph ≡ then_on (made_by change graph) (made_in_turn (drop (i + 1) changes))
turn changes i change graph low here =
    at_drop_more (λ (left : List Change). made_in_turn left graph) changes i change low
    ∙ ap (λ (first : Change). then_on (made_by first graph) (made_in_turn (drop (i + 1) changes))) (sym here)

pub turn_on : (changes : List Change) (i : ℕ) (change : Change) (graph next : PlainGraph) → i < length changes → change ≡ get_or changes i change → made_by change graph ≡ Ok next
    → made_in_turn (drop i changes) graph ≡ made_in_turn (drop (i + 1) changes) next
turn_on changes i change graph next low here is =
    turn changes i change graph low here ∙ ap (λ (r : Result PlainGraph MakingFault). then_on r (made_in_turn (drop (i + 1) changes))) is

refused : (fault : MakingFault) (answer : Result PlainGraph MakingFault) (next : PlainGraph → Result PlainGraph MakingFault) → IsOfGraph (Err fault) answer → IsOfGraph (Err fault) (then_on answer next)
refused (Refused edit) answer next is = ap (λ r. then_on r next) is
refused (NotOneTimeout at count) answer next is = ap (λ r. then_on r next) is
refused ListSize answer next is = ap (λ r. then_on r next) is
refused Memory answer next is = tt

pub turn_refused : (whole : Result PlainGraph MakingFault) (changes : List Change) (i : ℕ) (change : Change) (graph : PlainGraph) (fault : MakingFault) → whole ≡ made_in_turn (drop i changes) graph
    → i < length changes → change ≡ get_or changes i change → IsOfGraph (Err fault) (made_by change graph) → IsOfGraph (Err fault) whole
turn_refused whole changes i change graph fault so_far low here why =
    subst (λ (answer : Result PlainGraph MakingFault). IsOfGraph (Err fault) answer) (sym (so_far ∙ turn changes i change graph low here))
    (refused fault (made_by change graph) (made_in_turn (drop (i + 1) changes)) why)

pub turns_done : (changes : List Change) (i : ℕ) (graph : PlainGraph) → length changes ≤ i → made_in_turn (drop i changes) graph ≡ Ok graph
turns_done changes i graph done = at_drop_all (λ (left : List Change). made_in_turn left graph) changes i done

pub first_turn : (first : Change) (others : List Change) (graph next : PlainGraph) → made_by first graph ≡ Ok next → made_in_turn (first ∷ others) graph ≡ made_in_turn others next
first_turn first others graph next is = ap (λ (r : Result PlainGraph MakingFault). then_on r (made_in_turn others)) is

pub first_refused : (first : Change) (others : List Change) (graph : PlainGraph) (fault : MakingFault) → IsOfGraph (Err fault) (made_by first graph) → IsOfGraph (Err fault) (made_in_turn (first ∷ others) graph)
first_refused first others graph fault why = refused fault (made_by first graph) (made_in_turn others) why
