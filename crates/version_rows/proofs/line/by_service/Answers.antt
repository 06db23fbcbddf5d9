use Rattle.std.proofs.Common.{◌∙◌, None, ap}
use Rattle.version_rows.specs.Lines.{lines_after}
use Rattle.version_rows.proofs.Lined.{few_headed, laid_out}
use Rattle.version_rows.proofs.line.by_service.Goals as goal

pub returns-clause-laid_out : goal.returns-clause-laid_out
returns-clause-laid_out g c =
    laid_out c.args.version.now.graph c.args.chosen.now c.in_ok-numbered.numbered.items c.in_ok-grouped.grouped.items c.in_ok-lines.lines.items c.in_ok-numbered.ensures
    c.in_ok-grouped.ensures.same c.in_ok-grouped.ensures.by_service c.in_ok-grouped.ensures.in_order
    (c.in_ok-lines.ensures ∙ ap (lines_after None) c.as_slice.ensures.value)

pub returns-clause-few : goal.returns-clause-few
returns-clause-few g c =
    few_headed c.args.version.now.graph c.args.chosen.now c.in_ok-numbered.numbered.items c.in_ok-grouped.grouped.items c.in_ok-lines.lines.items c.in_ok-numbered.ensures
    c.in_ok-grouped.ensures.same (c.in_ok-lines.ensures ∙ ap (lines_after None) c.as_slice.ensures.value)
