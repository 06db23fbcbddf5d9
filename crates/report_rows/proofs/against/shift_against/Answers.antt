use Rattle.std.proofs.Common.{ap, ◌∙◌}
use Rattle.report_rows.specs.Shifts.{shift_from}
use Rattle.report_rows.specs.Standings.{done_of}
use Rattle.report_rows.proofs.against.shift_against.Goals as goal

pub returns : goal.returns
returns g c =
    let there = c.args.against.now.graph in
    c.shift_from.ensures
    ∙ ap (λ met. shift_from met c.moment.result) (c.done_of-there.ensures ∙ ap (done_of there) c.as_str.ensures)
    ∙ ap (shift_from (done_of there c.args.view.now.stage.now.name)) c.moment.ensures
