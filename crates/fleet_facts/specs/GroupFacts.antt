-- What the groups of a trace had to do with its reply.
use Rattle.std.specs.Prelude.{ℕ, ◌≡◌, List, length, Option, Some, slice_get}
use Rattle.std.specs.List.{list_any}
use Rattle.std.specs.Option.{option_map_or}
use Rattle.stage_graph.specs.Plain.{PlainGraph}
use Rattle.stage_ops.specs.declared.state.Done.{Done}
use Rattle.scratch_eval.specs.Path.{path}
use Rattle.fleet_summary.specs.declared.facts.GroupFacts.{GroupFacts}
use Rattle.span_groups.specs.Grouping.{counts_to}
use Rattle.span_groups.specs.declared.grouping.Counted.{Counted}
use Rattle.span_groups.specs.declared.grouping.Group.{Group}
use Rattle.span_groups.specs.declared.grouping.Grouping.{Grouping}
use Rattle.fleet_facts.specs.declared.group_facts.Reply.{Reply}
use Rattle.fleet_facts.specs.Hurried.{completion_then}
use Rattle.fleet_facts.specs.OnPath.{queued_on, ran_on}

-- the tick at which a reply comes where all work of a group takes no time; that at which it came, where it would never come then
abbrev pub time_then : PlainGraph → List (Option Counted) → ℕ → ℕ → ℕ → ℕ
time_then graph stages group reply time = option_map_or (λ (done : Done). done.moment) (completion_then graph stages group reply) time

-- what the group of a number had to do with a reply that came at a tick
abbrev pub group_facts : PlainGraph → List (Option Counted) → ℕ → ℕ → ℕ → Group → GroupFacts
group_facts graph stages reply time number group = record {
  name = group.name;
  spans = group.spans;
  is_on_path = list_any (counts_to stages number) (path graph reply);
  ran = ran_on graph stages number (path graph reply);
  queued = queued_on graph stages number (path graph reply);
  time_then = time_then graph stages number reply time;
}

-- the same of each of them, in the order of their numbers
pub record AreFactsOfGroups (graph : PlainGraph) (grouping : Grouping) (reply time : ℕ) (facts : List GroupFacts) : Type 0 where
  pub count : length facts ≡ length grouping.groups.items
  pub each : (number : ℕ) (group : Group) → slice_get grouping.groups.items number ≡ Some group
      → slice_get facts number ≡ Some (group_facts graph grouping.stages.items reply time number group)

-- what is kept of a reply is its path
abbrev pub IsOfPath : PlainGraph → Reply → Type 0
IsOfPath graph reply = reply.path ≡ path graph reply.start.target
