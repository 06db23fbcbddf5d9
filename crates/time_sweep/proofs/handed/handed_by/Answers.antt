use Rattle.std.proofs.Common.{◌∙◌, sym}
use Rattle.time_sweep.proofs.Further.{handed_by_stage, source_feed}
use Rattle.time_sweep.proofs.handed.handed_by.Goals as goal

pub is_only_reader-requires-clause-live : goal.is_only_reader-requires-clause-live
is_only_reader-requires-clause-live g c κs inside =
    let feed = c.in_ok-handed.handed.feed in
    c.requires.ranks.live feed
    (c.requires.ranks.feeds c.args.place feed c.requires.known
    (source_feed c.args.version.now.graph c.graph.ensures.ranked c.args.ranks.now c.args.before.now c.requires.states c.args.place c.in_ok-stage.stage.now (sym c.in_ok-stage.ensures.stage)
    (sym c.reads_in.ensures ∙ c.in_ok-handed.ensures.reads) feed c.in_ok-handed.ensures.source))

pub is_only_reader-requires-clause-known : goal.is_only_reader-requires-clause-known
is_only_reader-requires-clause-known g c κs inside =
    let feed = c.in_ok-handed.handed.feed in
    c.requires.ranks.feeds c.args.place feed c.requires.known
    (source_feed c.args.version.now.graph c.graph.ensures.ranked c.args.ranks.now c.args.before.now c.requires.states c.args.place c.in_ok-stage.stage.now (sym c.in_ok-stage.ensures.stage)
    (sym c.reads_in.ensures ∙ c.in_ok-handed.ensures.reads) feed c.in_ok-handed.ensures.source)

pub returns-then-is_only_reader : goal.returns-then-is_only_reader
returns-then-is_only_reader g c =
    let handed = c.in_ok-handed.handed in
    handed_by_stage c.args.version.now.graph c.graph.ensures.ranked c.args.ranks.now c.args.before.now c.requires.states c.args.place c.in_ok-stage.stage.now (sym c.in_ok-stage.ensures.stage)
    (sym c.reads_in.ensures ∙ c.in_ok-handed.ensures.reads) handed.feed handed.most c.requires.known c.in_ok-handed.ensures.source c.in_ok-handed.ensures.hands_on
    (c.is_only_reader.ensures c.if-is_only_reader.true)
