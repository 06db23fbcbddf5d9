use Rattle.std.proofs.Common.{◌≡◌, length, refl, arith}
use Rattle.std.specs.Prelude.{All}
use Rattle.std.specs.List.{sum_by}
use Rattle.desk.specs.Clients.{ClientView}
use Rattle.desk.specs.Closing.{HaveOwnNumbers, GoesWith}
use Rattle.desk.proofs.Ending.{ends}
use Rattle.desk.proofs.close.may_end.Goals as goal

pub returns-clause-ends : goal.returns-clause-ends
returns-clause-ends g c =
    let clients = c.args.clients.now in
    let table = c.shared.inside.table in
    let locked = c.shared.invariant.0 in
    let own : HaveOwnNumbers clients = c.if-not-have_own_numbers.ensures.0 refl in
    let tallied = c.tally.ensures.counted in
    let counted : sum_by (λ (x : ClientView). length x.calls) clients ≡ length table.history = omega (arith, tallied, c.shared.invariant.2, locked.counted_is) in
    let seen : All (GoesWith table.state.versions) clients = rw (c.tally.ensures.clients, locked.listed_is) at c.go_with.ensures in
    let agree = rw (c.tally.ensures.clients, c.history.ensures.history) at c.agree.ensures in
    rw (← c.shared.view_is) (ends g.N.Naming.opening g.N.Ledger.parts table clients c.agree.result locked.replayed locked.begins own counted seen agree)
