use Rattle.std.proofs.Common.{◌∙◌, is_some, sym, ap}
use Rattle.stage_graph.specs.Checks.{checks_alone, first_refusal}
use Rattle.stage_graph.specs.Names.{found}
use Rattle.stage_graph.proofs.Feeds.{is_some-known_feeds}
use Rattle.stage_graph.proofs.name_table.NameTable.checked_stage.Goals as goal

pub returns-in-Some-clause-fault : goal.returns-in-Some-clause-fault
returns-in-Some-clause-fault c =
    let known = c.is_some.ensures ∙ ap is_some c.in_ok-feeds.ensures ∙ is_some-known_feeds (found c.args.self.now) c.args.spec.now.sources c.args.spec.now.inner in
    ap (λ known. first_refusal (record (checks_alone c.args.place c.args.spec.now) { free = c.args.free; known = known })) (sym known)
    ∙ ap first_refusal (sym c.checks_of-checks.ensures) ∙ sym c.in-Some.ensures

pub returns-clause-passes : goal.returns-clause-passes
returns-clause-passes c =
    let known = c.is_some.ensures ∙ ap is_some c.in_ok-feeds.ensures ∙ is_some-known_feeds (found c.args.self.now) c.args.spec.now.sources c.args.spec.now.inner in
    ap (λ known. first_refusal (record (checks_alone c.args.place c.args.spec.now) { free = c.args.free; known = known })) (sym known)
    ∙ ap first_refusal (sym c.checks_of-checks.ensures) ∙ sym c.in_default.ensures
