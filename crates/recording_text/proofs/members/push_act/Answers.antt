use Rattle.std.proofs.Common.{◌≡◌, ◌++◌, OnOk, codes, sym, subst}
use Rattle.json.specs.Json.{string}
use Rattle.json.specs.Tree.{members_tokens}
use Rattle.stage_graph.specs.declared.end.Act.{Act}
use Rattle.recording_text.specs.Json.{act_rows, count, members_of, row, value_json}
use Rattle.recording_text.proofs.Pushing.{three_closed, two_closed}
use Rattle.recording_text.proofs.members.push_act.Goals as goal

pub returns-in_ok-push_named_value-in-Complete : goal.returns-in_ok-push_named_value-in-Complete
returns-in_ok-push_named_value-in-Complete c =
    subst (λ (act : Act). OnOk c.token.result (c.token.new.self ≡ c.args.line.now ++ members_tokens (members_of (act_rows act)))) (sym c.in-Complete.is)
    (two_closed c.token.result (row (codes "do") (string (codes "complete"))) (row (codes "value") (value_json c.in-Complete.value))
    c.args.line.now c.push_text.new.line c.push_named_value.new.line c.token.new.self c.in_ok-push_text-in-Complete.ensures c.in_ok-push_named_value-in-Complete.ensures c.token.ensures)

pub returns-in_ok-push_exception-in-CompleteExceptionally : goal.returns-in_ok-push_exception-in-CompleteExceptionally
returns-in_ok-push_exception-in-CompleteExceptionally c =
    let last = c.token-in-CompleteExceptionally in
    subst (λ (act : Act). OnOk last.result (last.new.self ≡ c.args.line.now ++ members_tokens (members_of (act_rows act)))) (sym c.in-CompleteExceptionally.is)
    (two_closed last.result (row (codes "do") (string (codes "completeExceptionally"))) (row (codes "throws") (string c.in-CompleteExceptionally.name))
    c.args.line.now c.push_text-in-CompleteExceptionally.new.line c.push_exception.new.line last.new.self
    c.in_ok-push_text-in-CompleteExceptionally.ensures c.in_ok-push_exception-in-CompleteExceptionally.ensures last.ensures)

pub returns-in_ok-push_count-in-OrTimeout : goal.returns-in_ok-push_count-in-OrTimeout
returns-in_ok-push_count-in-OrTimeout c =
    let last = c.token-in-OrTimeout in
    subst (λ (act : Act). OnOk last.result (last.new.self ≡ c.args.line.now ++ members_tokens (members_of (act_rows act)))) (sym c.in-OrTimeout.is)
    (two_closed last.result (row (codes "do") (string (codes "orTimeout"))) (row (codes "delay") (count c.in-OrTimeout.delay))
    c.args.line.now c.push_text-in-OrTimeout.new.line c.push_count.new.line last.new.self
    c.in_ok-push_text-in-OrTimeout.ensures c.in_ok-push_count-in-OrTimeout.ensures last.ensures)

pub returns-in_ok-push_named_value-in-CompleteOnTimeout : goal.returns-in_ok-push_named_value-in-CompleteOnTimeout
returns-in_ok-push_named_value-in-CompleteOnTimeout c =
    let last = c.token-in-CompleteOnTimeout in
    subst (λ (act : Act). OnOk last.result (last.new.self ≡ c.args.line.now ++ members_tokens (members_of (act_rows act)))) (sym c.in-CompleteOnTimeout.is)
    (three_closed last.result (row (codes "do") (string (codes "completeOnTimeout"))) (row (codes "delay") (count c.in-CompleteOnTimeout.delay)) (row (codes "value") (value_json c.in-CompleteOnTimeout.value))
    c.args.line.now c.push_text-in-CompleteOnTimeout.new.line c.push_count-in-CompleteOnTimeout.new.line c.push_named_value-in-CompleteOnTimeout.new.line last.new.self
    c.in_ok-push_text-in-CompleteOnTimeout.ensures c.in_ok-push_count-in-CompleteOnTimeout.ensures c.in_ok-push_named_value-in-CompleteOnTimeout.ensures last.ensures)
