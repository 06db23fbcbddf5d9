use Rattle.std.proofs.Common.{◌∙◌, ℕ, List, Option, sym, ap}
use Rattle.std.specs.Prelude.{is_some}
use Rattle.time_sweep.specs.Known.{rank_in}
use Rattle.time_sweep.proofs.Finding.{one_finding, one_further, one_only}
use Rattle.time_sweep.proofs.ancestors.Found.find.Goals as goal

pub returns-clause-finding : goal.returns-clause-finding
returns-clause-finding g c =
    let found = c.args.self.now in
    let before = ap (λ (ranks : List (Option ℕ)). is_some (rank_in ranks c.args.place)) (sym c.as_slice.ensures.value) ∙ ap (λ (rank : Option ℕ). is_some rank) (sym c.known_rank.ensures)
    ∙ sym c.is_some.ensures ∙ c.if-is_some.false in
    rw c.rank_of.ensures (one_finding c.args.version.now.graph.places found.ranks.items found.waiting.items c.requires.finding c.args.place c.requires.live before)

pub returns-clause-further : goal.returns-clause-further
returns-clause-further g c =
    let found = c.args.self.now in
    let before = ap (λ (ranks : List (Option ℕ)). is_some (rank_in ranks c.args.place)) (sym c.as_slice.ensures.value) ∙ ap (λ (rank : Option ℕ). is_some rank) (sym c.known_rank.ensures)
    ∙ sym c.is_some.ensures ∙ c.if-is_some.false in
    rw (c.in_ok-push.ensures.items, c.rank_of.ensures) (one_further c.args.version.now.graph.places found.ranks.items found.waiting.items c.requires.finding c.args.place c.requires.live before)

pub returns-clause-only : goal.returns-clause-only
returns-clause-only g c =
    let found = c.args.self.now in
    let before = ap (λ (ranks : List (Option ℕ)). is_some (rank_in ranks c.args.place)) (sym c.as_slice.ensures.value) ∙ ap (λ (rank : Option ℕ). is_some rank) (sym c.known_rank.ensures)
    ∙ sym c.is_some.ensures ∙ c.if-is_some.false in
    rw (c.in_ok-push.ensures.items, c.rank_of.ensures) (one_only c.args.version.now.graph.places found.ranks.items found.waiting.items c.requires.finding c.args.place c.requires.live before)
