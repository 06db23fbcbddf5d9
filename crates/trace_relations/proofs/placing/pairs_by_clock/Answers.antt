use Rattle.std.proofs.Common.{◌∙◌, None, arith, get_or, pos}
use Rattle.std.proofs.lemmas.Option.{slice_get-get_or}
use Rattle.trace_relations.specs.declared.clocks.Pair.{Pair}
use Rattle.trace_relations.proofs.Numbering.{all_paired, pair_more}
use Rattle.trace_relations.proofs.placing.pairs_by_clock.Goals as goal

pub loop-number-preserved : goal.loop-number-preserved
loop-number-preserved c =
    let none : Pair = record { caller = 0; called = 0; least = pos 0; most = None } in
    let number = c.loop-number.number in (
      c.in_ok-add_pair.ensures.kept ∙ c.loop-number.invariant.0,
      pair_more c.args.pairs.now number (get_or c.args.pairs.now number none) c.loop-number.all.items c.add_pair.new.all.items (slice_get-get_or c.args.pairs.now number none (omega arith)) c.loop-number.invariant.1 c.in_ok-add_pair.ensures.added,
    )

pub returns : goal.returns
returns c = all_paired c.args.count c.loop-number.number c.args.pairs.now c.loop-number.all.items (omega arith) c.loop-number.invariant.1
