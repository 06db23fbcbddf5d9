use Rattle.std.proofs.Common.{Err, subst}
use Rattle.stage_graph.specs.Plain.{PlainGraph}
use Rattle.change_words.specs.Making.{IsMade, edits_of}
use Rattle.tried_changes.proofs.TryingLemmas.{all_made, still_of, taken_of}
use Rattle.tried_changes.proofs.trying.tried.Goals as goal

pub returns-in-Err : goal.returns-in-Err
returns-in-Err g c = subst (λ (graph : PlainGraph). IsMade (Err c.in-Err.fault) (edits_of c.args.changes.now graph)) c.graph.ensures.graph c.in-Err.ensures.made

pub drafted-requires-clause-accepted : goal.drafted-requires-clause-accepted
drafted-requires-clause-accepted g c κs within = taken_of c.graph.result.now c.args.version.now.graph c.in-Ok.edits c.in_ok-edits.edits c.graph.ensures.graph c.in_ok-edits.ensures c.in-Ok.ensures.accepted

pub drafted-requires-clause-unmoved : goal.drafted-requires-clause-unmoved
drafted-requires-clause-unmoved g c κs within = still_of c.in-Ok.edits c.in_ok-edits.edits c.in_ok-edits.ensures c.in-Ok.ensures.unmoved

pub returns : goal.returns
returns g c =
    all_made c.args.version.now c.args.changes.now c.graph.result.now c.in-Ok.edits c.in_ok-edits.edits c.in_ok-drafted.field-0 c.graph.ensures.graph c.in-Ok.ensures.made c.in_ok-edits.ensures c.in_ok-drafted.ensures
