use Rattle.std.proofs.Common.{Some, ap, sym}
use Rattle.many_scripts.proofs.Alone.{is_play}
use Rattle.many_scripts.proofs.seats.play_alone.Goals as goal

pub returns-in-Ok-clause-ok : goal.returns-in-Ok-clause-ok
returns-in-Ok-clause-ok g c =
    is_play c.args.format g.R.Source.remaining g.R.Source.failures c.args.client.now c.play.new.client c.args.source.now c.play.new.source c.in_ok-reader.reader.left c.number.result
    c.in_ok-script_line.field-0.items c.into_inner.result.items _ _
    c.in_ok-reader.ensures.left c.requires.new (ap (λ v. Some v.items) c.new-sink.ensures.writer) c.in_ok-script_line.ensures c.number.ensures (ap (λ v. Some v.items) (sym c.into_inner.ensures))
    c.in-Ok.ensures.ok
