use Rattle.std.proofs.Common.{◌≡◌, ap, map, ◌∙◌}
use Rattle.std.proofs.lemmas.List.Elements.{All-same}
use Rattle.stage_ends.specs.Ends.{ends, fates_at}
use Rattle.stage_ends.specs.Told.{IsTold, end_of}
use Rattle.stage_ends.proofs.Collecting.{all_told, collects, next_number}
use Rattle.stage_ends.proofs.Placing.{each_end}
use Rattle.stage_ends.proofs.Telling.{each_told}
use Rattle.stage_ends.proofs.ends.ends_of.Goals as goal

pub loop-place-preserved : goal.loop-place-preserved
loop-place-preserved g c =
    collects _ _ _ _ _ _ c.loop-place.invariant
    (next_number (fates_at c.args.version.now.graph) c.loop-place.place c.len-place-end.result c.loop-place-test.true)
    c.in_ok-push_fates_at.ensures

pub returns-clause-each : goal.returns-clause-each
returns-clause-each g c =
    let graph = c.args.version.now.graph in
    let all : c.loop-place.found.items ≡ ends graph =
    all_told (fates_at graph) c.loop-place.found.items (ends graph) c.loop-place.place c.len-place-end.result c.loop-place.invariant c.loop-place-test.false in
    ap (map end_of) all ∙ each_end graph c.graph.ensures.ranked

pub returns-clause-told : goal.returns-clause-told
returns-clause-told g c =
    let graph = c.args.version.now.graph in
    let all : c.loop-place.found.items ≡ ends graph =
    all_told (fates_at graph) c.loop-place.found.items (ends graph) c.loop-place.place c.len-place-end.result c.loop-place.invariant c.loop-place-test.false in
    All-same (IsTold graph) c.loop-place.found.items (ends graph) all (each_told graph c.graph.ensures.ranked)
