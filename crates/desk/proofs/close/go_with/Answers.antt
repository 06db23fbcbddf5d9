use Rattle.std.proofs.Common.{ℕ, slice_index_or, subst, ◌∙◌, below_more}
use Rattle.std.proofs.lemmas.List.{get_or_default}
use Rattle.desk.specs.Clients.{ClientView}
use Rattle.desk.specs.Closing.{GoesWith}
use Rattle.desk.proofs.close.go_with.Goals as goal

pub loop-client-preserved : goal.loop-client-preserved
loop-client-preserved g c =
    let clients = c.args.clients.now in
    let i = c.loop-client.client-index in
    let goes = c.goes_with.ensures in
    let here : (d : ClientView) → GoesWith c.args.front.now (slice_index_or clients i d) =
    λ d. subst (GoesWith c.args.front.now) (c.client-item.is ∙ get_or_default clients i c.client-item.result d c.loop-client-test.true) goes in
    λ k d below. below_more (λ (j : ℕ). (e : ClientView) → GoesWith c.args.front.now (slice_index_or clients j e)) i (λ j lower e. c.loop-client.invariant j e lower) here k below d
