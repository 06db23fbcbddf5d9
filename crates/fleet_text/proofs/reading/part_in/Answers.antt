use Rattle.serde_json.specs.View.{view}
use Rattle.fleet_text.proofs.Said.{part_one}
use Rattle.fleet_text.proofs.reading.part_in.Goals as goal

pub returns-clause-back : goal.returns-clause-back
returns-clause-back c part sound says =
    part_one (view c.args.value.now) _ part
    (record { form = c.in_ok-check_form.ensures.said; basis = c.in_ok-basis_in.ensures.said; summary = c.in_ok-summary_in.ensures.said }) says
