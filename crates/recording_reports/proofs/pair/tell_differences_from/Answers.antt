use Rattle.stage_graph.specs.Plain.{stage_at}
use Rattle.text_io.proofs.Writing.{of_the_text}
use Rattle.run_comparison.proofs.Counterparts.{none_is_not_live}
use Rattle.recording_reports.proofs.Pairing.{all_of_the_text, of_bad_view}
use Rattle.recording_reports.proofs.pair.tell_differences_from.Goals as goal

pub unreachable-requires : goal.unreachable-requires
unreachable-requires g c = none_is_not_live (stage_at c.args.bad.now.graph.places c.args.at_bad) c.in-None.ensures.stage c.requires.live

pub returns-clause-ok : goal.returns-clause-ok
returns-clause-ok g c =
    let good = c.args.good.now in
    all_of_the_text _ _ _ _ _
    (of_bad_view c.args.form good.version.now.graph good.place _ _ _ _ c.in-Some.ensures.version c.in-Some.ensures.place)
    c.tell_differences.ensures.ok

pub returns-clause-err : goal.returns-clause-err
returns-clause-err g c =
    let good = c.args.good.now in
    of_the_text _ _ _ _ _
    (of_bad_view c.args.form good.version.now.graph good.place _ _ _ _ c.in-Some.ensures.version c.in-Some.ensures.place)
    c.tell_differences.ensures.err
