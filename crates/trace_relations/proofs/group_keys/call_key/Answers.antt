use Rattle.std.proofs.Common.{arith, rules}
use Rattle.trace_relations.proofs.CallKeys.{call_is_short}
use Rattle.trace_relations.proofs.group_keys.call_key.Goals as goal

pub returns-clause-short : goal.returns-clause-short
returns-clause-short c = call_is_short c.args.caller c.args.span.now c.as_str.result.now (omega arith) (search rules) c.in_ok-push_text.ensures.short c.in_ok-push_call.ensures.short
