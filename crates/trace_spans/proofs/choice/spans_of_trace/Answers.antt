use Rattle.std.proofs.Common.{refl}
use Rattle.trace_spans.proofs.Marking.{counted, repeated, passed_by}
use Rattle.trace_spans.proofs.choice.spans_of_trace.Goals as goal
use Rattle.trace_spans.proofs.choice.spans_of_trace.Goals.{else-same-via-then-same+in_ok-note+else-branch, else-same-via-else-same}

pub loop-span-preserved-then-branch : goal.loop-span-preserved-then-branch
loop-span-preserved-then-branch c =
    counted c.args.trace.now c.loop-span.marks c.note.new.marks c.loop-span.chosen c.push.new.self c.loop-span.yielded c.in-Some.span c.in_ok-note.field-0
    (c.if-same.ensures.0 refl) c.if-branch.true c.loop-span.invariant (c.in_ok-note.ensures c.loop-span.chosen c.loop-span.invariant.1) c.in_ok-push.ensures.added

pub loop-span-preserved-else-same : goal.loop-span-preserved-else-same
loop-span-preserved-else-same c = elim c.else-same.branch [
  | else-same-via-then-same+in_ok-note+else-branch w ↦
      repeated c.args.trace.now c.loop-span.marks w.note.new.marks c.else-same.marks c.loop-span.chosen c.loop-span.yielded c.in-Some.span w.in_ok-note.field-0
      w.if-branch.false c.loop-span.invariant (w.in_ok-note.ensures c.loop-span.chosen c.loop-span.invariant.1) w.marks-is
  | else-same-via-else-same w ↦
      passed_by c.args.trace.now c.loop-span.marks c.else-same.marks c.loop-span.chosen c.loop-span.yielded c.in-Some.span w.if-same.ensures.1 c.loop-span.invariant w.marks-is
]

pub loop-span-preserved : goal.loop-span-preserved
loop-span-preserved c = elim c.else-same.branch [
  | else-same-via-then-same+in_ok-note+else-branch w ↦
      repeated c.args.trace.now c.loop-span.marks w.note.new.marks c.else-same.marks c.loop-span.chosen c.loop-span.yielded c.in-Some.span w.in_ok-note.field-0
      w.if-branch.false c.loop-span.invariant (w.in_ok-note.ensures c.loop-span.chosen c.loop-span.invariant.1) w.marks-is
  | else-same-via-else-same w ↦
      passed_by c.args.trace.now c.loop-span.marks c.else-same.marks c.loop-span.chosen c.loop-span.yielded c.in-Some.span w.if-same.ensures.1 c.loop-span.invariant w.marks-is
]
