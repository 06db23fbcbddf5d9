use Rattle.std.proofs.Common.{ap}
use Rattle.serve_script.specs.Answers.{answer_step}
use Rattle.serve_script.proofs.Answering.{part_of}
use Rattle.serve_script.proofs.server.Server.answer_step.Goals as goal

pub returns-in-Change-clause-err : goal.returns-in-Change-clause-err
returns-in-Change-clause-err g c = part_of _ _ _ _ _ (ap (λ asked. (answer_step c.args.form c.args.self.now asked).0) c.in-Change.is) c.answer_change.ensures.err

pub returns-in-Report-clause-err : goal.returns-in-Report-clause-err
returns-in-Report-clause-err g c = part_of _ _ _ _ _ (ap (λ asked. (answer_step c.args.form c.args.self.now asked).0) c.in-Report.is) c.answer_subject.ensures.err
