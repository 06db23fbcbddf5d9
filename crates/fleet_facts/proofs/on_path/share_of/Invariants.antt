use Rattle.std.proofs.Common.{◌≡◌, take}
use Rattle.std.specs.List.{list_any}
use Rattle.span_groups.specs.Grouping.{counts_to}
use Rattle.fleet_facts.specs.OnPath.{queued_on, ran_on}
use Rattle.fleet_facts.proofs.on_path.share_of.Given as goal

-- of the stages so far
abbrev pub invariant-loop-place : goal.invariant-loop-place
invariant-loop-place g l = record {
  on_path : l.share.is_on_path ≡ list_any (counts_to l.stages l.group) (take l.place-index l.path);
  ran : l.share.ran ≡ ran_on l.version.graph l.stages l.group (take l.place-index l.path);
  queued : l.share.queued ≡ queued_on l.version.graph l.stages l.group (take l.place-index l.path);
}
