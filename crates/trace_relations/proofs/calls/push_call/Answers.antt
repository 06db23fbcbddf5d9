use Rattle.std.proofs.Common.{◌++◌, ◌∙◌, ap, subst}
use Rattle.std.specs.Prelude.{string_bytes}
use Rattle.std.specs.List.{flat_map}
use Rattle.trace_relations.specs.Calls.{aim_texts}
use Rattle.trace_relations.specs.Keys.{AreShort, key_of, measured}
use Rattle.trace_relations.proofs.Keying.{call_key_is, call_short}
use Rattle.trace_relations.proofs.calls.push_call.Goals as goal

pub returns-clause-texts : goal.returns-clause-texts
returns-clause-texts c =
    call_key_is c.args.span.now (string_bytes c.args.key.now) (string_bytes c.push_target.new.key) c.as_str.result.now c.as_str-2.result.now c.kind_text.result.now c.as_str.ensures c.as_str-2.ensures c.kind_text.ensures
    (c.in_ok-push_target.ensures.texts ∙ ap (λ target. string_bytes c.push_text-3.new.key ++ key_of (flat_map aim_texts target)) c.as_slice.ensures
    ∙ ap (λ k. k ++ key_of (flat_map aim_texts c.args.span.now.target)) (c.in_ok-push_text-3.ensures.text ∙ ap (λ k. k ++ measured c.kind_text.result.now) (c.in_ok-push_text-2.ensures.text ∙ ap (λ k. k ++ measured c.as_str-2.result.now) c.in_ok-push_text.ensures.text)))

pub returns-clause-short : goal.returns-clause-short
returns-clause-short c =
    call_short c.args.span.now c.as_str.result.now c.as_str-2.result.now c.kind_text.result.now c.as_str.ensures c.as_str-2.ensures c.kind_text.ensures c.in_ok-push_text.ensures.short c.in_ok-push_text-2.ensures.short c.in_ok-push_text-3.ensures.short
    (subst (λ target. AreShort (flat_map aim_texts target)) c.as_slice.ensures c.in_ok-push_target.ensures.short)
