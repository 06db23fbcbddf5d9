use Rattle.std.proofs.Common.{[], refl, arith}
use Rattle.std.proofs.KnownBytes.{Consumes-nil}
use Rattle.std.proofs.lemmas.Result.{err_from_is_err_and}
use Rattle.text_io.proofs.Written.{AppendsPrefix-from_all, AppendsPrefix-none}
use Rattle.serve_script.specs.declared.fault.ServeFault.TheVariants.{Memory}
use Rattle.serve_script.proofs.Steps.{serves_part_at}
use Rattle.serve_script.specs.Answers.{answers_to}
use Rattle.serve_script.proofs.Playing.{from_opening, plays_to}
use Rattle.serve_script.proofs.serving.play.Goals as goal

pub returns-in_err-server-clause-err : goal.returns-in_err-server-clause-err
returns-in_err-server-clause-err g c =
    serves_part_at _ Memory (err_from_is_err_and c.from_residual.result c.from_residual.ensures.1) _ (answers_to c.args.format c.args.graph) [] _ _ _ _ _ _ (Consumes-nil _) (omega arith) (AppendsPrefix-none _ _) refl

pub returns-in_err-last-clause-err : goal.returns-in_err-last-clause-err
returns-in_err-last-clause-err g c =
    let all = from_opening _ _ c.args.format _ _ c.args.graph _ _ _ _ _ _ refl c.in_ok-server.ensures c.in_ok-answer_script.ensures.ok in
    serves_part_at _ Memory (err_from_is_err_and c.from_residual-in_err-last.result c.from_residual-in_err-last.ensures.1) _ (answers_to c.args.format c.args.graph) all.serves.read _ _ _ _ _ _
    all.serves.consumed (let below = all.serves.below_the_most in omega (arith, below)) (AppendsPrefix-from_all _ _ _ all.serves.answered) all.serves.no_failure

pub returns-clause-ok : goal.returns-clause-ok
returns-clause-ok g c =
    plays_to _ _ c.args.format _ _ c.args.graph _ _ _ _ _ _ c.in_ok-last.field-0 refl c.in_ok-server.ensures c.in_ok-answer_script.ensures.ok c.in_ok-last.ensures
