use Rattle.std.proofs.Common.{false, sym, ◌∙◌}
use Rattle.trace_spans.specs.Texts.{nothing_more}
use Rattle.trace_spans.proofs.Texts.{after_text, is_itself}
use Rattle.trace_spans.proofs.lines.last_told.Goals as goal

pub returns : goal.returns
returns c = is_itself c.told.result _ (after_text c.args.so_far c.in_ok-reading.reading c.args.text.now c.in_ok-reading.ensures (nothing_more false) ∙ sym c.told.ensures)
