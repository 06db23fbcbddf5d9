use Rattle.std.proofs.Common.{◌≡◌, ◌++◌, map, take}
use Rattle.std.specs.Prelude.{filter}
use Rattle.trace_stages.specs.Beginnings.{is_linked, option_list}
use Rattle.trace_stages.specs.declared.walk.stage_id.StageId.TheVariants.{Whole}
use Rattle.trace_stages.proofs.beginnings.with_links.Given as goal

-- those so far
abbrev pub invariant-loop-link : goal.invariant-loop-link
invariant-loop-link l = l.sources.items ≡ option_list l.from ++ map Whole (filter (is_linked l.intervals l.bound l.place l.from) (take l.link-index l.links))
