use Rattle.std.proofs.Common.{◌∙◌, Some, refl, subst, sym}
use Rattle.trace_relations.specs.Groups.{AreGroups}
use Rattle.trace_relations.specs.KeptAttempts.{calls_with, plain_attempts}
use Rattle.trace_relations.proofs.Trying.{again_within, call_within, not_tried, tried_with}
use Rattle.trace_relations.proofs.attempts.try_call.Goals as goal

pub returns-then-not-is_failed_call : goal.returns-then-not-is_failed_call
returns-then-not-is_failed_call c = λ order turn kept groups among. record {
  tried = not_tried (calls_with c.args.calls) order (plain_attempts c.args.attempts.now) c.args.call (sym c.if-not-is_failed_call.ensures);
  kept = kept;
  groups_are = groups;
}

pub returns-in_default : goal.returns-in_default
returns-in_default c = λ order turn kept groups among.
    let fails = sym c.if-not-is_failed_call.ensures in record {
      tried = tried_with (calls_with c.args.calls) order (plain_attempts c.args.attempts.now) c.args.call _ fails (c.in_default.ensures.first (calls_with c.args.calls) order (plain_attempts c.args.attempts.now) refl turn groups (record { failed = fails; among = among }));
      kept = kept;
      groups_are = c.in_default.ensures.taken (calls_with c.args.calls) order (plain_attempts c.args.attempts.now) refl turn groups (record { failed = fails; among = among });
    }

pub returns : goal.returns
returns c = λ order turn kept groups among.
    let fails = sym c.if-not-is_failed_call.ensures in
    let first = c.in-Some.ensures.first (calls_with c.args.calls) order (plain_attempts c.args.attempts.now) refl turn groups (record { failed = fails; among = among }) in
    let within = call_within (calls_with c.args.calls) c.args.call fails in
    let tried = c.try_again.ensures.tried _ kept within (again_within (calls_with c.args.calls) order (plain_attempts c.args.attempts.now) c.args.call c.in-Some.again first) in record {
      tried = tried ∙ tried_with (calls_with c.args.calls) order (plain_attempts c.args.attempts.now) c.args.call (Some c.in-Some.again) fails first;
      kept = c.try_again.ensures.kept _ kept within;
      groups_are = subst (λ those. AreGroups (calls_with c.args.calls) order those c.take_after.new.self) (sym tried) (c.in-Some.ensures.taken (calls_with c.args.calls) order (plain_attempts c.args.attempts.now) refl turn groups (record { failed = fails; among = among }));
    }
