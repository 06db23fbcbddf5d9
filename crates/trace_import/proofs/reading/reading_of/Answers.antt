use Rattle.std.proofs.Common.{◌∙◌, ap, arith, refl}
use Rattle.trace_relations.specs.Relations.{moved_of, plain}
use Rattle.trace_import.proofs.Made.{made_from}
use Rattle.trace_import.proofs.reading.reading_of.Goals as goal

pub returns-then-len-gt-MOST_STAGES : goal.returns-then-len-gt-MOST_STAGES
returns-then-len-gt-MOST_STAGES c = (
  plain c.in_ok-relations.relations,
  c.in_ok-stages.stages,
  made_from c.args.mapping c.args.trace.now c.as_slice-spans.result.now c.in_ok-relations.relations c.in_ok-stages.stages c.as_slice-spans.ensures c.tells_texts.ensures c.in_ok-relations.ensures c.in_ok-stages.ensures,
  omega (arith, c.len.ensures, c.if-len-gt-MOST_STAGES.true),
)

pub returns : goal.returns
returns c = (
  refl,
  made_from c.args.mapping c.args.trace.now c.as_slice-spans.result.now c.in_ok-relations.relations c.in_ok-stages.stages c.as_slice-spans.ensures c.tells_texts.ensures c.in_ok-relations.ensures c.in_ok-stages.ensures,
  omega (arith, c.len.ensures, c.if-len-gt-MOST_STAGES.false),
  c.in_ok-relations.ensures.2 ∙ ap (moved_of c.args.mapping.as_told) c.as_slice-spans.ensures,
)
