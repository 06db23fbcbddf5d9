-- Joins, as they are kept.
use Rattle.std.specs.Prelude.{List, map, Vec}
use Rattle.std.specs.declared.alloc.Global.{Global}
use Rattle.trace_stages.specs.declared.walk.stage_id.StageId.{StageId}

-- the sources of each join
abbrev pub plain_joins : List (Vec StageId Global) → List (List StageId)
plain_joins joins = map (λ sources. sources.items) joins
