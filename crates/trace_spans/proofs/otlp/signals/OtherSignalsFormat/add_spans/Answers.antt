use Rattle.std.proofs.Common.{Ok, sym, ap, ◌∙◌}
use Rattle.trace_spans.specs.Otlp.{other_signals_told}
use Rattle.trace_spans.proofs.Formatted.{none_added}
use Rattle.trace_spans.proofs.otlp.signals.OtherSignalsFormat.add_spans.Goals as goal

pub returns : goal.returns
unfolding other_signals_told
returns c = none_added _ c.args._spans.now ∙ ap (λ is. Ok (is, c.args._spans.now)) (sym c.has_signals.ensures)
