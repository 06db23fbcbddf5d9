use Rattle.std.proofs.Common.{◌≤◌, length, subst}
use Rattle.version_rows.proofs.Few.{at_most}
use Rattle.version_rows.proofs.chosen.chosen.Goals as goal

pub returns-clause-few : goal.returns-clause-few
returns-clause-few c =
    subst (λ most. length c.in_ok-chosen.chosen.items ≤ most) c.most_rows-most.ensures.value
    (at_most c.most_rows-most.result c.in_ok-ranked.ranked.items c.truncate.new.self.items c.in_ok-chosen.chosen.items c.truncate.ensures.items c.in_ok-chosen.ensures.same)
