use Rattle.std.proofs.Common.{[], refl, arith}
use Rattle.std.proofs.KnownBytes.{Consumes-nil}
use Rattle.std.proofs.lemmas.Result.{err_from_is_err_and}
use Rattle.text_io.proofs.Written.{AppendsPrefix-none}
use Rattle.serve_script.specs.declared.fault.ServeFault.TheVariants.{Memory}
use Rattle.serve_script.proofs.Steps.{serves_part_at}
use Rattle.serve_script.specs.Answers.{answers_from}
use Rattle.serve_script.proofs.serving.answer_script.Goals as goal

pub returns-in_err-lines-clause-err : goal.returns-in_err-lines-clause-err
returns-in_err-lines-clause-err g c =
    serves_part_at _ Memory (err_from_is_err_and c.from_residual.result c.from_residual.ensures.1) _ (answers_from c.args.format 1 c.args.server.now) [] _ _ _ _ _ _ (Consumes-nil _) (omega arith) (AppendsPrefix-none _ _) refl
