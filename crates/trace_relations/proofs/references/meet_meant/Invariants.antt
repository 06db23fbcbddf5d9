use Rattle.std.proofs.Common.{ℕ, List, take}
use Rattle.trace_spans.specs.declared.span.Span.{Span}
use Rattle.trace_relations.specs.MetPlaces.{HasMet}
use Rattle.trace_relations.specs.Parents.{IsPlacing, with_meant}
use Rattle.trace_relations.proofs.references.meet_meant.Given as goal

-- those that the ids so far mean were met
abbrev pub invariant-loop-id : goal.invariant-loop-id
invariant-loop-id l = (spans : List Span) (others : List ℕ) → IsPlacing l.places spans → HasMet l.fn.met others → HasMet l.met (with_meant spans l.place others (take l.id-index l.id-items))
