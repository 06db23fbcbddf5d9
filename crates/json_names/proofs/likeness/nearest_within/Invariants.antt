use Rattle.json_names.specs.Nearness.{distance, FindsNearestBelow}
use Rattle.json_names.proofs.likeness.nearest_within.Given as goal

abbrev pub invariant-loop-name : goal.invariant-loop-name
invariant-loop-name l = FindsNearestBelow (λ name. distance l.word name.now) l.most l.names l.name-index l.least l.near
