use Rattle.serde_json.specs.View.{view}
use Rattle.fleet_text.proofs.Said.{basis_one}
use Rattle.fleet_text.proofs.reading.basis_in.Goals as goal

pub returns-clause-back : goal.returns-clause-back
returns-clause-back c basis says =
    basis_one (view c.args.value.now) _ basis
    (record { by = c.in_ok-grouped_by.ensures.said; reply = c.in_ok-optional_text_of.ensures.said; unit = c.in_ok-optional_text_of-2.ensures.said; tried = c.in_ok-optional_text_of-3.ensures.said }) says
