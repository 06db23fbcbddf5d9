use Rattle.std.proofs.Common.{ℕ, ◌<◌, Option, Some, None}
use Rattle.std.specs.Prelude.{MatchOption}
use Rattle.fleet_summary.specs.declared.summary.Summary.{Summary}
use Rattle.fleet_summary.specs.Histogram.{total_of}
use Rattle.fleet_answer.specs.declared.shares.Slowest.{Slowest}
use Rattle.fleet_answer.specs.Answers.{AreSlowestAsked}
use Rattle.fleet_answer.specs.Shares.{AreSlowest, slow_rank}
use Rattle.fleet_answer.proofs.answering.slowest_asked.Goals as goal

asked : (percent : ℕ) (summary : Summary) (found : Option Slowest) →
    MatchOption found (total_of summary.replies.times < slow_rank percent (total_of summary.replies.times)) (AreSlowest percent summary.replies.times) → AreSlowestAsked (Some percent) summary found
asked percent summary None is = is
asked percent summary (Some slowest) is = is

pub returns : goal.returns
returns c = rw c.in_ok-percent.was (asked c.in_ok-percent.percent c.args.summary.now c.slowest_of.result c.slowest_of.ensures)
