use Rattle.scratch_eval.specs.Path.{path}
use Rattle.version_store.proofs.PathsOf.{list_of}
use Rattle.version_store.proofs.version.Version.path.Goals as goal

pub returns-in_ok-path-in-Some-clause-answer : goal.returns-in_ok-path-in-Some-clause-answer
returns-in_ok-path-in-Some-clause-answer g c =
    list_of path _ _ _ _ _ _ _ c.in-Some.ensures.version c.in-Some.ensures.place c.in-Some.ensures.stage c.in_ok-path-in-Some.ensures.path
