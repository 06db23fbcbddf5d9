use Rattle.std.proofs.Common.{ap, option_copied}
use Rattle.serve_script.specs.Answers.{compared_asked}
use Rattle.serve_script.proofs.Answering.{part_of}
use Rattle.serve_script.proofs.asking.write_comparison.Goals as goal

pub returns-in-Some-clause-err : goal.returns-in-Some-clause-err
returns-in-Some-clause-err g c =
    part_of _ _ _ _ _ (ap (λ against. compared_asked c.args.form c.args.comparison c.args.version.now (option_copied against)) c.in-Some.is) c.write_against.ensures.err

pub returns-in-None-clause-err : goal.returns-in-None-clause-err
returns-in-None-clause-err g c =
    part_of _ _ _ _ _ (ap (λ against. compared_asked c.args.form c.args.comparison c.args.version.now (option_copied against)) c.in-None.is) c.tell_no_version.ensures.err
