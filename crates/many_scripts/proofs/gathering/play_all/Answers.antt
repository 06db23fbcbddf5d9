use denote.Param.Send.{sendable}
use Rattle.std.proofs.Common.{slice_index_or, subst, MatchResult}
use Rattle.many_scripts.specs.Scripts.{EndsReading, IsPlay}
use Rattle.many_scripts.proofs.Crossing.{seat_send}
use Rattle.many_scripts.proofs.GatheredMore.{all_zip}
use Rattle.many_scripts.proofs.gathering.play_all.Goals as goal

pub for_each_mut-requires-send-T : goal.for_each_mut-requires-send-T
for_each_mut-requires-send-T g c κs within = let b = c.type_bounds in search (sendable, seat_send)

pub returns : goal.returns
returns g c =
    all_zip _ c.args.seats.now c.for_each_mut.new.s c.for_each_mut.auto.s
    (λ i d within.
    let at = (c.for_each_mut.ensures i d within).1 in
    let after = slice_index_or c.for_each_mut.new.s i d in
    subst (λ before. MatchResult after.text (λ text. IsPlay before.format g.R.Source.remaining g.R.Source.failures before.client before.source after.client text.items) (EndsReading g.R.Source.remaining g.R.Source.failures before.source))
    at.argument_is
    (subst (λ done. MatchResult done.text (λ text. IsPlay at.argument.now.format g.R.Source.remaining g.R.Source.failures at.argument.now.client at.argument.now.source done.client text.items) (EndsReading g.R.Source.remaining g.R.Source.failures at.argument.now.source)) at.left at.call))
