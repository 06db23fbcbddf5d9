use Rattle.std.proofs.Common.{ap}
use Rattle.text_io.proofs.Written.{AppendsPrefix-none}
use Rattle.serve_script.specs.Answers.{answer_named}
use Rattle.serve_script.proofs.Answering.{all_of, fault_read, part_of, stays}
use Rattle.serve_script.proofs.server.Server.refuse.Goals as goal

pub returns-in-Memory-clause-err : goal.returns-in-Memory-clause-err
returns-in-Memory-clause-err g c meant read = AppendsPrefix-none _ _

pub returns-in_default : goal.returns-in_default
returns-in_default g c = record {
  ok = λ meant read. all_of _ _ _ _ _ _ (ap (answer_named c.args.form c.args.self.now) (fault_read _ meant read c.in_default.not-Memory)) (stays c.tell_fault.result _ c.args.self.now _ _ c.tell_fault.ensures.ok);
  err = λ meant read. part_of _ _ _ _ _ (ap (λ m. (answer_named c.args.form c.args.self.now m).0) (fault_read _ meant read c.in_default.not-Memory)) c.tell_fault.ensures.err;
  failures = c.tell_fault.ensures.failures;
}
