use Rattle.std.proofs.Common.{◌≡◌, ◌-◌, length, sym, ap, ◌∙◌, arith}
use Rattle.std.specs.Prelude.{slice_get, string_bytes}
use Rattle.trace_stages.proofs.Cutting.{cut_dash, cut_none}
use Rattle.trace_stages.proofs.span_names.words.cut.Goals as goal

pub returns-then-eq : goal.returns-then-eq
returns-then-eq c =
    let front : c.len.result - 1 ≡ length (string_bytes c.truncate.new.self) - 1 = omega arith in
    c.truncate-then-eq.ensures.bytes
    ∙ cut_dash (string_bytes c.args.words.now) (string_bytes c.truncate.new.self) c.args.most (c.len.result - 1) c.copied.result c.truncate.ensures.bytes
    (c.copied.ensures ∙ c.last.ensures.value ∙ ap (λ bytes. slice_get bytes (length bytes - 1)) c.as_bytes.ensures.value) (sym c.eq.ensures ∙ c.if-eq.true) front

pub returns-else-eq : goal.returns-else-eq
returns-else-eq c =
    cut_none (string_bytes c.args.words.now) (string_bytes c.truncate.new.self) c.args.most c.copied.result c.truncate.ensures.bytes
    (c.copied.ensures ∙ c.last.ensures.value ∙ ap (λ bytes. slice_get bytes (length bytes - 1)) c.as_bytes.ensures.value) (sym c.eq.ensures ∙ c.if-eq.false)
