use Rattle.std.proofs.Common.{◌≡◌, Some, None, map, string_bytes, lit<, ap, ◌∙◌}
use Rattle.std.specs.Char.{to_ascii_lowercase}
use Rattle.std.specs.Str.{chars, encode_utf8_all}
use Rattle.std.proofs.lemmas.Result.{IfOk-weaker}
use Rattle.std.proofs.lemmas.Str.{IsUtf8-past_char}
use Rattle.std.proofs.lemmas.Str.Pattern.{strip_prefix_char}
use Rattle.trace_spans.specs.Identifiers.{without_zeros}
use Rattle.trace_spans.proofs.Digits.{after_zero, lowered, zero_as_character}
use Rattle.trace_spans.proofs.identifier.significant.Goals as goal

pub loop-after-preserved : goal.loop-after-preserved
loop-after-preserved c =
    let front = strip_prefix_char 48 c.loop-after.digits.now (Some c.in-Some.after) c.in-Some.ensures.cases (lit< tt) in
    let text = IsUtf8-past_char c.loop-after.digits.now c.in-Some.after.now 48 c.loop-after.invariant.1 (zero_as_character c.loop-after.digits.now c.in-Some.after.now front) in
    (c.loop-after.invariant.0 ∙ ap (λ bs. without_zeros (chars bs)) front ∙ after_zero c.in-Some.after.now, text, text)

pub returns : goal.returns
returns c =
    let none = strip_prefix_char 48 c.loop-after.digits.now None c.in_default.ensures.cases (lit< tt) in
    let is = lowered c.args.id.now c.loop-after.digits.now c.loop-after.invariant.1 c.loop-after.invariant.0 none in
    IfOk-weaker c.to_ascii_lowercase.result (λ s. string_bytes s ≡ map to_ascii_lowercase c.loop-after.digits.now) (λ s. string_bytes s ≡ encode_utf8_all (map to_ascii_lowercase (without_zeros (chars c.args.id.now)))) (λ s h. h ∙ is) c.to_ascii_lowercase.ensures.ok
