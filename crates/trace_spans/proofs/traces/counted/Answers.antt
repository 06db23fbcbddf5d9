use Rattle.std.proofs.Common.{[], ◌∷◌, ◌++◌, sym, ap, ◌∙◌}
use Rattle.std.proofs.lemmas.List.{map-append}
use Rattle.trace_spans.specs.Groups.{trace_of}
use Rattle.trace_spans.proofs.traces.counted.Goals as goal

pub loop-group-preserved : goal.loop-group-preserved
loop-group-preserved c =
    c.in_ok-add_trace.ensures
    ∙ ap (λ traces. traces ++ trace_of c.args.is_cut c.in-Some.group ∷ []) c.loop-group.invariant
    ∙ sym (map-append (trace_of c.args.is_cut) c.loop-group.yielded (c.in-Some.group ∷ []))
