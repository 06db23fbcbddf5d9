use Rattle.std.proofs.Common.{◌≡◌, ◌∙◌, ap}
use Rattle.std.specs.List.{list_any}
use Rattle.scratch_eval.specs.Path.{path}
use Rattle.span_groups.specs.Grouping.{counts_to}
use Rattle.fleet_facts.specs.OnPath.{queued_on, ran_on}
use Rattle.fleet_facts.proofs.Gathering.{same_facts}
use Rattle.fleet_facts.proofs.group_facts.group_facts.Goals as goal

pub returns-clause-facts : goal.returns-clause-facts
returns-clause-facts g c =
    let graph = c.args.version.now.graph in
    let stages = c.args.stages.now in
    let reply = c.args.reply.now in
    let along : c.as_slice.result.now ≡ path graph reply.start.target = c.as_slice.ensures ∙ c.requires.path in
    same_facts c.in_ok-copy.ensures
    (c.share_of-share.ensures.on_path ∙ ap (list_any (counts_to stages c.args.number)) along)
    (c.share_of-share.ensures.ran ∙ ap (ran_on graph stages c.args.number) along)
    (c.share_of-share.ensures.queued ∙ ap (queued_on graph stages c.args.number) along)
    c.in_ok-time_then.ensures.time
