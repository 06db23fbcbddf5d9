use Rattle.std.proofs.Common.{[], refl, arith}
use Rattle.std.proofs.KnownBytes.{Consumes-nil}
use Rattle.std.proofs.lemmas.Result.{err_from_is_err_and}
use Rattle.text_io.proofs.Written.{AppendsPrefix-none}
use Rattle.serve_script.specs.declared.fault.ServeFault.TheVariants.{Memory}
use Rattle.serve_script.proofs.Steps.{serves_part_at}
use Rattle.serve_script.specs.Answers.{answers_to}
use Rattle.serve_script.proofs.Playing.{plays_to_table}
use Rattle.serve_script.proofs.serving.serve_table.Goals as goal

pub returns-in_err-server-clause-err : goal.returns-in_err-server-clause-err
returns-in_err-server-clause-err g c =
    serves_part_at _ Memory (err_from_is_err_and c.from_residual.result c.from_residual.ensures.1) _ (answers_to c.args.format c.args.graph) [] _ _ _ _ _ _ (Consumes-nil _) (omega arith) (AppendsPrefix-none _ _) refl

pub returns-clause-ok : goal.returns-clause-ok
returns-clause-ok g c =
    plays_to_table _ _ c.args.format _ _ c.args.graph _ _ _ _ _ _ _ c.into_table.ensures refl c.in_ok-server.ensures c.in_ok-answer_script.ensures.ok
