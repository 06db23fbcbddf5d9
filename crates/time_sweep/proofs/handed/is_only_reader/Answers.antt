use Rattle.std.proofs.Common.{◌≡◌, ◌∙◌, ◌<◌, ◌&&◌, ℕ, List, true, length, get_or, sym, subst, take_all, arith}
use Rattle.std.specs.Prelude.{is_some}
use Rattle.std.proofs.lemmas.Bool.{false≢true}
use Rattle.stage_graph.specs.Plain.{feeds_at}
use Rattle.stage_ops.specs.States.{state_at}
use Rattle.rank_order.specs.Lists.{is_among}
use Rattle.propagate.specs.Reach.{has_read}
use Rattle.propagate.proofs.Reading.{dependent_uses}
use Rattle.time_sweep.specs.Known.{rank_in}
use Rattle.time_sweep.proofs.Further.{IsOnlyOf, only_more, only_reader}
use Rattle.time_sweep.proofs.handed.is_only_reader.Goals as goal

pub is_other_reader-requires-clause-feed : goal.is_other_reader-requires-clause-feed
is_other_reader-requires-clause-feed g c κs inside =
    let stages = c.args.version.now.graph.places in
    let feed = c.args.feed in
    let listed = c.dependents_of-dependents.ensures in
    let i = c.loop-dependent.dependent-index in
    subst (λ (places : List ℕ). is_among feed (feeds_at stages (get_or places i 0)) ≡ true) (sym listed)
    (dependent_uses stages feed i (subst (λ (places : List ℕ). i < length places) listed (omega arith)))

pub loop-dependent-preserved : goal.loop-dependent-preserved
loop-dependent-preserved g c =
    let stages = c.args.version.now.graph.places in
    let listed = c.dependents_of-dependents.result.now in
    let i = c.loop-dependent.dependent-index in
    only_more (λ s. is_some (rank_in c.args.ranks.now s) && has_read stages (state_at c.args.before.now) c.args.feed s) c.args.reader listed i (omega arith) c.loop-dependent.invariant
    (sym c.is_other_reader.ensures ∙ c.if-is_other_reader.false)

pub returns : goal.returns
returns g c one =
    let stages = c.args.version.now.graph.places in
    let reads_it = λ (s : ℕ). is_some (rank_in c.args.ranks.now s) && has_read stages (state_at c.args.before.now) c.args.feed s in
    let listed = c.dependents_of-dependents.result.now in
    let all = take_all c.loop-dependent.dependent-index listed (omega arith) ∙ c.dependents_of-dependents.ensures in
    only_reader stages c.args.ranks.now (state_at c.args.before.now) c.args.feed c.args.reader (subst (IsOnlyOf reads_it c.args.reader) all c.loop-dependent.invariant)

pub returns-then-is_other_reader : goal.returns-then-is_other_reader
returns-then-is_other_reader g c one = absurd (false≢true one)
