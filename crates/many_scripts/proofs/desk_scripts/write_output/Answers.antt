use Rattle.std.proofs.Common.{refl}
use Rattle.std.proofs.KnownBytes.{Appends-kept}
use Rattle.text_io.proofs.Written.{AppendsPrefix-from_all}
use Rattle.many_scripts.proofs.desk_scripts.write_output.Goals as goal

pub returns-in-Err-flush-clause-err : goal.returns-in-Err-flush-clause-err
returns-in-Err-flush-clause-err g c =
    (refl, AppendsPrefix-from_all _ _ _ (Appends-kept (g.S.Sink.held c.args.sink.now) (g.S.Sink.held c.write.new.self) (g.S.Sink.held c.flush.new.self) c.args.output.now c.in-Ok.ensures.ok c.in-Err-flush.ensures.held))
