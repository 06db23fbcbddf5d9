use Rattle.std.proofs.Common.{◌≡◌, length, take, vec_len}
use Rattle.std.specs.Prelude.{All}
use Rattle.trace_relations.specs.GroupKeys.{IsShort, group_key}
use Rattle.trace_relations.specs.Groupings.{IsGrouping}
use Rattle.trace_relations.specs.KeptAttempts.{calls_with}
use Rattle.trace_relations.proofs.call_groups.groups_of.Given as goal

-- the calls so far stand in groups
abbrev pub invariant-loop-place : goal.invariant-loop-place
invariant-loop-place l = record {
  grouping : IsGrouping (group_key (calls_with l.calls) l.failing.items) (take l.place-index l.order) l.grouping.known l.grouping.groups.items l.grouping.of_spans.items;
  short : All (IsShort (calls_with l.calls) l.failing.items) (take l.place-index l.order);
  count : vec_len l.grouping.of_spans ≡ length l.calls.spans.now;
}
