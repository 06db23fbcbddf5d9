use Rattle.std.proofs.Common.{ap, ◌∙◌, ◌++◌}
use Rattle.many_scripts.specs.Gathered.{IsWhole}
use Rattle.many_scripts.specs.Outputs.{log_line}
use Rattle.many_scripts.proofs.GatheredMore.{ok_and}
use Rattle.many_scripts.proofs.desk_scripts.output_of.Goals as goal

pub returns-clause-ok : goal.returns-clause-ok
returns-clause-ok g c =
    let closed = c.in_ok-count.ensures.ok in
    ok_and c.args.gathered c.in_ok-ended.ended
    (λ ended. IsWhole c.args.format g.N.Naming.opening ended.clients.items ended.texts.items c.in_ok-with_log_line.field-0.items)
    c.in_ok-ended.was
    (record { log = closed.0; closed = closed.1; opened = closed.2; output_is = c.in_ok-with_log_line.ensures ∙ ap (λ n. c.in_ok-ended.ended.texts.items ++ log_line c.args.format n) closed.3 })
