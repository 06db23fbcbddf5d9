use Rattle.stage_graph.specs.Plain.{stage_at}
use Rattle.text_io.proofs.Writing.{of_the_text}
use Rattle.run_comparison.proofs.Counterparts.{none_is_not_live}
use Rattle.recording_reports.proofs.Pairing.{all_of_the_text, of_good_view}
use Rattle.recording_reports.proofs.pair.tell_differences_at.Goals as goal

pub unreachable-requires : goal.unreachable-requires
unreachable-requires g c = none_is_not_live (stage_at c.args.good.now.graph.places c.args.at_good) c.in-None.ensures.stage c.requires.good_live

pub returns-clause-ok : goal.returns-clause-ok
returns-clause-ok g c =
    all_of_the_text _ _ _ _ _
    (of_good_view c.args.form c.args.bad.now.graph c.args.at_bad _ _ _ _ c.in-Some.ensures.version c.in-Some.ensures.place)
    c.tell_differences_from.ensures.ok

pub returns-clause-err : goal.returns-clause-err
returns-clause-err g c =
    of_the_text _ _ _ _ _
    (of_good_view c.args.form c.args.bad.now.graph c.args.at_bad _ _ _ _ c.in-Some.ensures.version c.in-Some.ensures.place)
    c.tell_differences_from.ensures.err
