-- What is answered of a summary.
use Rattle.std.specs.Prelude.{ℕ, ◌≡◌, ◌<◌, List, Option, Some, None}
use Rattle.std.specs.List.{AllZip}
use Rattle.fleet_summary.specs.Histogram.{total_of}
use Rattle.fleet_summary.specs.declared.summary.Summary.{Summary}
use Rattle.fleet_answer.specs.declared.answer.Answer.{Answer}
use Rattle.fleet_answer.specs.declared.shares.Slowest.{Slowest}
use Rattle.fleet_answer.specs.declared.tried.Tried.{Tried}
use Rattle.fleet_answer.specs.Rows.{AreRankedRows, IsReplyRow, IsTryRow, failure_rows}
use Rattle.fleet_answer.specs.Shares.{AreSlowest, slow_rank}

-- the slowest are told where they are asked for, and there is one
abbrev pub AreSlowestAsked : Option ℕ → Summary → Option Slowest → Type 0
AreSlowestAsked None summary slowest = slowest ≡ None
AreSlowestAsked (Some percent) summary None = total_of summary.replies.times < slow_rank percent (total_of summary.replies.times)
AreSlowestAsked (Some percent) summary (Some slowest) = AreSlowest percent summary.replies.times slowest

pub record IsAnswerOf (summary : Summary) (tries : List Tried) (percent : Option ℕ) (answer : Answer) : Type 0 where
  pub replies_are : IsReplyRow summary.replies answer.replies
  pub groups_are : AreRankedRows summary.replies.times answer.slowest summary.groups answer.groups.items
  pub tries_are : AllZip IsTryRow tries answer.tries.items
  pub slowest_are : AreSlowestAsked percent summary answer.slowest
  pub failures_are : answer.failures.items ≡ failure_rows summary.failures
