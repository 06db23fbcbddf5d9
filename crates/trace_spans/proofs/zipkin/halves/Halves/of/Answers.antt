use Rattle.std.proofs.Common.{◌++◌, Ok, refl, ap}
use Rattle.trace_spans.specs.Halves.{half_of, halves_of}
use Rattle.trace_spans.specs.HalfMarks.{told_of}
use Rattle.trace_spans.specs.Members.{then_on}
use Rattle.trace_spans.proofs.HalvesHeld.{none_read}
use Rattle.trace_spans.proofs.Reading.{none_left, part_added, part_refused}
use Rattle.std.proofs.lemmas.Result.{err_from_is_err_and}
use Rattle.trace_spans.proofs.zipkin.halves.Halves.of.Goals as goal

pub spans-init : goal.spans-init
spans-init c = none_read c.new-all.result c.args.spans c.new-all.ensures.empty

pub returns-in_err-half : goal.returns-in_err-half
returns-in_err-half c =
    let p = err_from_is_err_and c.from_residual.result c.from_residual.ensures.1 in
    let l = c.spans in
    rw (p.1, p.2) (part_refused _ halves_of (halves_of c.args.spans) l.spans c.next.new.self c.in-Some.span (half_of c.in-Some.span) _ l.invariant.0 l.invariant.1 c.in-Some.ensures.value refl c.in_err-half.ensures)

pub spans-preserved : goal.spans-preserved
spans-preserved c =
    let l = c.spans in
    let known = l.invariant.0 in
    let more = told_of c.in_ok-half.half in (
      known ++ more,
      part_added halves_of (halves_of c.args.spans) l.spans c.next.new.self c.in-Some.span (half_of c.in-Some.span) known (known ++ more) l.invariant.1 c.in-Some.ensures.value refl (ap (λ r. then_on r (λ own. Ok (known ++ own))) c.in_ok-half.ensures),
      c.in_ok-hold.ensures known l.invariant.2,
    )

pub returns : goal.returns
returns c =
    let l = c.spans in
    (l.invariant.0, none_left halves_of (halves_of c.args.spans) l.spans l.invariant.0 l.invariant.1 c.in_default.ensures.value.0 refl, l.invariant.2)
