use Rattle.std.proofs.Common.{◌∙◌, ap}
use Rattle.std.specs.Prelude.{unwrap_or}
use Rattle.trace_relations.proofs.ClockFinding.{clock_read}
use Rattle.trace_relations.proofs.Finding.{got, got_none}
use Rattle.trace_relations.proofs.clocks.clock_at.Goals as goal

pub returns-in-Some : goal.returns-in-Some
returns-in-Some c = λ spans are. clock_read spans c.args.clocks.now c.args.place are ∙ ap (λ o. unwrap_or o c.args.place) (got c.args.clocks.now c.args.place c.in-Some.clock c.in-Some.ensures.lookup)

pub returns-in-None : goal.returns-in-None
returns-in-None c = λ spans are. clock_read spans c.args.clocks.now c.args.place are ∙ ap (λ o. unwrap_or o c.args.place) (got_none c.args.clocks.now c.args.place c.in-None.ensures.lookup)
