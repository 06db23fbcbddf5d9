use Rattle.std.proofs.Common.{◌≡◌, ◌<◌, ℕ, List, length, true, ◌||◌, ◌&&◌, ◌==◌, sym, ap, ◌∙◌, subst, arith, get_or, take, take_all}
use Rattle.stage_graph.specs.Walk.{rank}
use Rattle.stage_ops.specs.States.{state_at}
use Rattle.stage_graph.specs.Plain.{dependents, feeds_at}
use Rattle.rank_order.specs.Lists.{is_among}
use Rattle.rank_order.specs.Marks.{is_marked}
use Rattle.propagate.specs.Reach.{has_read}
use Rattle.propagate.proofs.Reading.{dependent_uses, readers_next, among_readers, among_readers_all}
use Rattle.propagate.proofs.readers.mark_readers.Goals as goal

pub mark_reader-requires-clause-feed : goal.mark_reader-requires-clause-feed
mark_reader-requires-clause-feed g c κs within =
    let stages = c.args.graph.now.places in
    let feed = c.args.feed in
    let listed : c.args.listed.now ≡ dependents stages feed = c.requires.listed in
    let i = c.loop-dependent.dependent-index in
    subst (λ (places : List ℕ). is_among feed (feeds_at stages (get_or places i 0)) ≡ true) (sym listed) (dependent_uses stages feed i (subst (λ (places : List ℕ). i < length places) listed (omega arith)))

pub loop-dependent-preserved : goal.loop-dependent-preserved
loop-dependent-preserved g c =
    let stages = c.args.graph.now.places in
    let reads_it = has_read stages (state_at c.args.states.now) c.args.feed in
    let listed = c.args.listed.now in
    let i = c.loop-dependent.dependent-index in
    let dependent = get_or listed i 0 in
    let inv = c.loop-dependent.invariant in
    record {
      marked = λ place.
          c.in_ok-mark_reader.ensures.marked place
          ∙ ap (λ b. b || (reads_it dependent && place == dependent)) (inv.marked place)
          ∙ readers_next reads_it listed i place (is_marked (rank stages) c.args.marks.now place) (omega arith);
      marks = c.in_ok-mark_reader.ensures.marks inv.marks;
    }

pub returns-clause-marked : goal.returns-clause-marked
returns-clause-marked g c place =
    let stages = c.args.graph.now.places in
    let reads_it = has_read stages (state_at c.args.states.now) c.args.feed in
    let listed = c.args.listed.now in
    let all : take c.loop-dependent.dependent-index listed ≡ dependents stages c.args.feed =
    take_all c.loop-dependent.dependent-index listed (omega arith) ∙ c.requires.listed in
    c.loop-dependent.invariant.marked place
    ∙ ap (λ xs. is_marked (rank stages) c.args.marks.now place || among_readers reads_it xs place) all
    ∙ ap (λ b. is_marked (rank stages) c.args.marks.now place || b) (among_readers_all stages reads_it c.args.feed place)
