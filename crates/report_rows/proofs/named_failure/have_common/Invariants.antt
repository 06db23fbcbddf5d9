use Rattle.std.proofs.Common.{◌≡◌, ℕ, List, false, take}
use Rattle.report_rows.specs.Failures.{have_common}
use Rattle.report_rows.specs.Known.{Knows}
use Rattle.report_rows.proofs.named_failure.have_common.Given as goal

-- none of those so far
abbrev pub invariant-loop-place : goal.invariant-loop-place
invariant-loop-place l = (on : List ℕ) → Knows l.path on → have_common (take l.place-index l.places) on ≡ false
