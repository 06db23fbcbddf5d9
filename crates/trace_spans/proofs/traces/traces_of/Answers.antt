use Rattle.std.proofs.Common.{ap, map, ◌∙◌}
use Rattle.trace_spans.specs.Groups.{trace_of}
use Rattle.trace_spans.proofs.Grouping.{all_counted}
use Rattle.trace_spans.proofs.traces.traces_of.Goals as goal

pub returns : goal.returns
returns c = c.in_ok-traces.ensures ∙ ap (map (trace_of c.args.told.is_cut)) c.in_ok-groups.ensures.0 ∙ all_counted c.args.told
