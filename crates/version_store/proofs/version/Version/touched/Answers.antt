use Rattle.std.proofs.Common.{IfSome, subst}
use Rattle.version_store.specs.Plain.{PlainVersion}
use Rattle.version_store.specs.Queries.{KeepsOthers}
use Rattle.version_store.proofs.version.Version.touched.Goals as goal

pub returns-clause-others : goal.returns-clause-others
returns-clause-others g c = subst (λ (version : PlainVersion). IfSome version.origin (λ origin. KeepsOthers origin version.graph)) c.self.view_is c.self.invariant.1
