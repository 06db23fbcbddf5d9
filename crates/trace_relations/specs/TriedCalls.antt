-- One call is tried again.
use Rattle.std.specs.Prelude.{◌≡◌, ℕ, List, length, if◌then◌else◌}
use Rattle.trace_relations.specs.declared.attempts.Attempts.{Attempts as Kept}
use Rattle.trace_relations.specs.declared.call_groups.Groups.{Groups}
use Rattle.trace_relations.specs.Attempts.{CallsOf, is_failed_call, tried_again}
use Rattle.trace_relations.specs.Groups.{AreGroups}
use Rattle.trace_relations.specs.KeptAttempts.{AreKept, plain_attempts}

-- a call that failed was tried again, and the groups are those of the attempts then
pub record HasTried (calls : CallsOf) (order : List ℕ) (call : ℕ) (old new : Kept) (groups : Groups) : Type 0 where
  pub tried : plain_attempts new ≡ (if is_failed_call calls call then tried_again calls order (plain_attempts old) call else plain_attempts old)
  pub kept : AreKept (length calls.spans) new
  pub groups_are : AreGroups calls order (plain_attempts new) groups
