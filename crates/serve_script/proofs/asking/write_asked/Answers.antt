use Rattle.std.proofs.Common.{option_copied}
use Rattle.serve_script.proofs.Answering.{is_told, part_of}
use Rattle.serve_script.proofs.asking.write_asked.Goals as goal

pub returns-in-All-clause-err : goal.returns-in-All-clause-err
returns-in-All-clause-err g c =
    part_of _ _ _ _ _ (is_told c.args.form c.args.version.now (option_copied c.args.against) c.args.asked.now c.in-All.is) c.write_told-in-All.ensures.err
