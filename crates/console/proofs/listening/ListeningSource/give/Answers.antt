use Rattle.std.proofs.Common.{arith}
use Rattle.console.proofs.Passing.{passed_on}
use Rattle.console.proofs.listening.ListeningSource.give.Goals as goal

pub returns-clause-bytes : goal.returns-clause-bytes
returns-clause-bytes g c =
    let source = c.args.self.now in
    passed_on _ source.chunk.items c.copy_from_slice.new.self c.args.buffer.now source.taken source.filled c.min-count.result c.as_slice.ensures.value source.ordered source.within (omega arith) c.copy_from_slice.ensures.after
