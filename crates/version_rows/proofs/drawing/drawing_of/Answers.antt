use Rattle.std.proofs.Common.{◌≤◌, List, length, subst, sym}
use Rattle.version_rows.specs.declared.candidate.Candidate.{Candidate}
use Rattle.version_rows.specs.Rooms.{most_rows}
use Rattle.version_rows.proofs.Few.{as_few}
use Rattle.version_rows.proofs.Lined.{few_lines}
use Rattle.version_rows.proofs.drawing.drawing_of.Goals as goal

pub returns-clause-few : goal.returns-clause-few
returns-clause-few g c =
    let few = subst (λ (some : List Candidate). length some ≤ most_rows c.args.room) (sym c.as_slice-2.ensures.value) c.in_ok-chosen.ensures.few in
    as_few 2000 _ _ _ _ _ c.in_ok-rows.ensures c.as_slice-3.ensures.value
    (few_lines c.args.room (length c.as_slice-2.result.now) (length c.in_ok-lines.lines.items) few c.in_ok-lines.ensures.few)
