use Rattle.std.proofs.Common.{◌≡◌}
use Rattle.std.proofs.lemmas.Result.{IfOk-weaker}
use Rattle.trace_relations.specs.Attempts.{attempts_of, tried_once}
use Rattle.trace_relations.specs.KeptAttempts.{calls_with, plain_attempts}
use Rattle.trace_relations.specs.Relations.{tried_of}
use Rattle.trace_relations.proofs.LeftAsTold.{tries_found, tries_told}
use Rattle.trace_relations.proofs.relations.tried_of.Goals as goal

pub returns-then-as_told : goal.returns-then-as_told
returns-then-as_told c =
    let calls = c.args.calls in
    IfOk-weaker c.tried_once.result (λ attempts. plain_attempts attempts ≡ tried_once) (λ attempts. plain_attempts attempts ≡ tried_of c.args.as_told calls.spans.now calls.intervals.now c.args.order.now calls.hosts.now calls.waiting.now)
    (λ attempts is. tries_told c.args.as_told calls.spans.now calls.intervals.now c.args.order.now calls.hosts.now calls.waiting.now (plain_attempts attempts) c.if-as_told.true is) c.tried_once.ensures.once

pub returns-else-as_told : goal.returns-else-as_told
returns-else-as_told c =
    let calls = c.args.calls in
    IfOk-weaker c.attempts_of.result (λ attempts. plain_attempts attempts ≡ attempts_of (calls_with calls) c.args.order.now) (λ attempts. plain_attempts attempts ≡ tried_of c.args.as_told calls.spans.now calls.intervals.now c.args.order.now calls.hosts.now calls.waiting.now)
    (λ attempts is. tries_found c.args.as_told calls.spans.now calls.intervals.now c.args.order.now calls.hosts.now calls.waiting.now (plain_attempts attempts) c.if-as_told.false is) c.attempts_of.ensures
