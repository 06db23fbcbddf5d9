use Rattle.std.proofs.Common.{◌∙◌, Err, ap, subst, sym}
use Rattle.std.proofs.lemmas.Result.{err_from_is_err_and}
use Rattle.trace_import.specs.Imported.{IsRecordedFrom}
use Rattle.trace_import.proofs.Made.{recorded}
use Rattle.trace_import.proofs.recorded.recording_of.Goals as goal

pub returns-in_err-made : goal.returns-in_err-made
returns-in_err-made c =
    let p = err_from_is_err_and c.from_residual.result c.from_residual.ensures.1 in
    subst (IsRecordedFrom c.args.mapping c.args.trace.now) (sym (p.1 ∙ ap Err p.2)) c.in_err-made.ensures

pub returns : goal.returns
returns c = recorded c.args.mapping c.args.trace.now c.in_ok-made.made c.in_ok-made.ensures
