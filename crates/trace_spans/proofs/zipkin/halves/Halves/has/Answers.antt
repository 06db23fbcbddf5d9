use Rattle.std.proofs.Common.{refl, ◌∙◌}
use Rattle.trace_spans.proofs.HalvesHeld.{looked_up, none_held}
use Rattle.trace_spans.proofs.zipkin.halves.Halves.has.Goals as goal

pub returns-then-is_empty : goal.returns-then-is_empty
returns-then-is_empty c = λ known are. none_held c.args.self.now.all known c.args.trace.now c.args.id.now c.args.service.now are (c.if-is_empty.ensures.0 refl)

pub returns : goal.returns
returns c = λ known are.
    c.contains.ensures
    ∙ looked_up c.args.self.now.all (record { trace = c.in_ok-own_trace.own_trace; id = c.in_ok-own_id.own_id; service = c.in_ok-own_service.own_service }) known c.args.trace.now c.args.id.now c.args.service.now are (c.in_ok-own_trace.ensures.ok ∙ c.as_str.ensures) (c.in_ok-own_id.ensures.ok ∙ c.as_str-2.ensures) c.in_ok-own_service.ensures.ok
