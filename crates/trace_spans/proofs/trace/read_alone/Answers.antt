use Rattle.std.proofs.lemmas.Result.{err_from_is_err_and}
use Rattle.trace_spans.proofs.Texts.{alone_read, alone_refused}
use Rattle.trace_spans.proofs.trace.read_alone.Goals as goal

pub returns-in_err-add_text : goal.returns-in_err-add_text
returns-in_err-add_text c =
    let p = err_from_is_err_and c.from_residual.result c.from_residual.ensures.1 in
    rw (p.1, p.2) (alone_refused _ c.args.text.now _ c.in_err-add_text.ensures)

pub returns : goal.returns
returns c = alone_read c.args.text.now _ _ c.new-spans.ensures c.in_ok-add_text.ensures
