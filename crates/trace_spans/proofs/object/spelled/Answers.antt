use Rattle.std.proofs.Common.{ap, ◌∙◌}
use Rattle.trace_spans.specs.Members.{spelled}
use Rattle.trace_spans.proofs.Spelling.{spells}
use Rattle.trace_spans.proofs.object.spelled.Goals as goal

pub returns : goal.returns
returns c =
    c.ok.ensures.value
    ∙ spells c.as_bytes-digits.result.now c.parse_u64.result c.if-digits-eq43.false c.parse_u64.ensures
    ∙ ap spelled c.as_bytes-digits.ensures.value
