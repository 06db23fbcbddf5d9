use Rattle.std.proofs.Common.{◌<◌, ◌^◌, arith}
use Rattle.recording_back.proofs.Objects.{object_tokens}
use Rattle.recording_back.proofs.graphs.object_has_its_tokens.Goals as goal

pub returns : goal.returns
returns g c =
    let fits : c.args.number < 2 ^ 64 = omega arith in
    object_tokens c.args.answered c.args.number c.args.graph.now c.count_is_typed.ensures fits c.len-places.ensures.sound c.stages_are_typed.ensures
