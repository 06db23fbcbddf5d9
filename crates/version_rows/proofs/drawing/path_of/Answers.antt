use Rattle.version_rows.proofs.drawing.path_of.Goals as goal

pub returns-in_ok-path-in-Some-clause-path : goal.returns-in_ok-path-in-Some-clause-path
returns-in_ok-path-in-Some-clause-path g c = rw (c.in-Some.ensures.version, c.in-Some.ensures.place) at c.in_ok-path-in-Some.ensures.path
