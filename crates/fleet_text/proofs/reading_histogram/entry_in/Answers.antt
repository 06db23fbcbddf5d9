use Rattle.std.proofs.Common.{arith}
use Rattle.serde_json.specs.View.{view}
use Rattle.fleet_text.proofs.ReadLists.{two_values}
use Rattle.fleet_text.proofs.reading_histogram.entry_in.Goals as goal

pub returns-in_default-clause-back : goal.returns-in_default-clause-back
returns-in_default-clause-back c entry counted some says =
    let two = two_values (view c.args.value.now) c.in_ok-items_in.field-0.now entry c.in_ok-items_in.ensures says in
    absurd (omega (arith, two))

pub returns-in_default-2-clause-back : goal.returns-in_default-2-clause-back
returns-in_default-2-clause-back c entry counted some says =
    let two = two_values (view c.args.value.now) c.in_ok-items_in.field-0.now entry c.in_ok-items_in.ensures says in
    absurd (omega (arith, two))
