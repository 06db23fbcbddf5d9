use Rattle.std.proofs.Common.{◌≡◌, ◌∙◌, None, ap, arith, heap_items, length, replicate, rules, subst, sym}
use Rattle.std.specs.Prelude.{All}
use Rattle.trace_relations.specs.KeptMoves.{HasPairs, IsPairAmong, numbers_at}
use Rattle.trace_relations.proofs.Clocked.{clocks_long}
use Rattle.trace_relations.proofs.Rooting.{all_reached, stand_at}
use Rattle.trace_relations.proofs.placing.all_moves.Goals as goal

pub place_reached-requires-clause-count : goal.place_reached-requires-clause-count
place_reached-requires-clause-count c =
    let spans = c.args.spans.now in
    let long = clocks_long spans c.args.clocks.now c.requires.clocks in
    let has : HasPairs (length spans) c.args.pairs.now c.deref.result.now = λ clock lt. ap (λ those. numbers_at those clock) c.deref.ensures.value ∙ c.in_ok-by_clock.ensures clock (omega (arith, long)) in
    let made : c.in_ok-moves.moves.items ≡ replicate (length c.args.clocks.now) None = search rules in
    let roots = c.in_ok-place_roots.ensures spans c.args.pairs.now c.requires.references c.requires.clocks has (made ∙ ap (λ n. replicate n None) long) c.new-coming.ensures.items in
    omega (arith, roots.stand.long, c.requires.count)

pub place_reached-requires-clause-pairs : goal.place_reached-requires-clause-pairs
place_reached-requires-clause-pairs c =
    let spans = c.args.spans.now in
    let long = clocks_long spans c.args.clocks.now c.requires.clocks in
    let has : HasPairs (length spans) c.args.pairs.now c.deref.result.now = λ clock lt. ap (λ those. numbers_at those clock) c.deref.ensures.value ∙ c.in_ok-by_clock.ensures clock (omega (arith, long)) in
    let made : c.in_ok-moves.moves.items ≡ replicate (length c.args.clocks.now) None = search rules in
    let roots = c.in_ok-place_roots.ensures spans c.args.pairs.now c.requires.references c.requires.clocks has (made ∙ ap (λ n. replicate n None) long) c.new-coming.ensures.items in
    subst (λ n. All (IsPairAmong n) c.args.pairs.now) (sym roots.stand.long) c.requires.among

pub place_reached-requires-clause-by_clock : goal.place_reached-requires-clause-by_clock
place_reached-requires-clause-by_clock c =
    let spans = c.args.spans.now in
    let long = clocks_long spans c.args.clocks.now c.requires.clocks in
    let has : HasPairs (length spans) c.args.pairs.now c.deref.result.now = λ clock lt. ap (λ those. numbers_at those clock) c.deref.ensures.value ∙ c.in_ok-by_clock.ensures clock (omega (arith, long)) in
    let made : c.in_ok-moves.moves.items ≡ replicate (length c.args.clocks.now) None = search rules in
    let roots = c.in_ok-place_roots.ensures spans c.args.pairs.now c.requires.references c.requires.clocks has (made ∙ ap (λ n. replicate n None) long) c.new-coming.ensures.items in
    λ clock lt. ap (λ those. numbers_at those clock) c.deref-2.ensures.value ∙ c.in_ok-by_clock.ensures clock (omega (arith, long, roots.stand.long))

pub place_reached-requires-clause-stand : goal.place_reached-requires-clause-stand
place_reached-requires-clause-stand c =
    let spans = c.args.spans.now in
    let long = clocks_long spans c.args.clocks.now c.requires.clocks in
    let has : HasPairs (length spans) c.args.pairs.now c.deref.result.now = λ clock lt. ap (λ those. numbers_at those clock) c.deref.ensures.value ∙ c.in_ok-by_clock.ensures clock (omega (arith, long)) in
    let made : c.in_ok-moves.moves.items ≡ replicate (length c.args.clocks.now) None = search rules in
    let roots = c.in_ok-place_roots.ensures spans c.args.pairs.now c.requires.references c.requires.clocks has (made ∙ ap (λ n. replicate n None) long) c.new-coming.ensures.items in
    stand_at c.args.pairs.now (length spans) c.place_roots.new.moves.items (heap_items c.place_roots.new.coming) roots.stand

pub returns-clause-placed : goal.returns-clause-placed
returns-clause-placed c =
    let spans = c.args.spans.now in
    let long = clocks_long spans c.args.clocks.now c.requires.clocks in
    let has : HasPairs (length spans) c.args.pairs.now c.deref.result.now = λ clock lt. ap (λ those. numbers_at those clock) c.deref.ensures.value ∙ c.in_ok-by_clock.ensures clock (omega (arith, long)) in
    let made : c.in_ok-moves.moves.items ≡ replicate (length c.args.clocks.now) None = search rules in
    let roots = c.in_ok-place_roots.ensures spans c.args.pairs.now c.requires.references c.requires.clocks has (made ∙ ap (λ n. replicate n None) long) c.new-coming.ensures.items in
    all_reached spans c.args.pairs.now c.place_roots.new.moves.items c.place_reached.new.moves.items (heap_items c.place_roots.new.coming) roots c.requires.pairs c.in_ok-place_reached.ensures.placed
