-- Joins: one stage for several.
use Rattle.std.specs.Prelude.{ℕ, List, [], ◌∷◌, ◌++◌, length, map, nat_lt, if◌then◌else◌, Option, Some, None, Vec, fold}
use Rattle.std.specs.declared.alloc.Global.{Global}
use Rattle.trace_stages.specs.declared.walk.joins.Gathering.{Gathering}
use Rattle.trace_stages.specs.declared.walk.joins.Joined.{Joined}
use Rattle.trace_stages.specs.declared.walk.joins.JoinsOf.{JoinsOf}
use Rattle.trace_stages.specs.declared.walk.joins.JoinsOf.TheVariants as joins_of
use Rattle.trace_stages.specs.declared.walk.stage_id.StageId.{StageId}
use Rattle.trace_stages.specs.declared.walk.stage_id.StageId.TheVariants as stage

abbrev pub join_id : JoinsOf → ℕ → StageId
join_id (joins_of.Entry span) number = stage.Entry span number
join_id (joins_of.Holding span) number = stage.Join span number

-- the sources of each join
abbrev pub plain_joins : Vec (Vec StageId Global) Global → List (List StageId)
plain_joins joins = map (λ sources. sources.items) joins.items

-- joins, and the sources that are gathered for the next
pub record PlainGathering : Type 0 where
  pub joins : List (List StageId)
  pub together : List StageId

abbrev pub plain_gathering : Gathering → PlainGathering
plain_gathering gathering = record { joins = plain_joins gathering.joins; together = gathering.together.items }

-- a join has 1,024 sources; more go on in the next, whose first source it is
abbrev pub gathered : JoinsOf → PlainGathering → StageId → PlainGathering
gathered of gathering source =
    if nat_lt (length gathering.together) 1_024 then record { joins = gathering.joins; together = gathering.together ++ source ∷ [] }
    else record { joins = gathering.joins ++ gathering.together ∷ []; together = join_id of (length gathering.joins) ∷ source ∷ [] }

-- joins, and the stage that stands for all sources
pub record PlainJoined : Type 0 where
  pub joins : List (List StageId)
  pub stage : Option StageId

abbrev pub plain_joined : Joined → PlainJoined
plain_joined joined = record { joins = plain_joins joined.joins; stage = joined.stage }

abbrev pub finished_with : JoinsOf → List (List StageId) → List StageId → PlainJoined
finished_with of joins [] = record { joins = joins; stage = None }
finished_with of joins (only ∷ []) = record { joins = joins; stage = Some only }
finished_with of joins (first ∷ second ∷ others) = record { joins = joins ++ (first ∷ second ∷ others) ∷ []; stage = Some (join_id of (length joins)) }

abbrev pub finished : JoinsOf → PlainGathering → PlainJoined
finished of gathering = finished_with of gathering.joins gathering.together

-- one stage for several: itself where it is one, else a join
abbrev pub joined_of : JoinsOf → List (List StageId) → List StageId → PlainJoined
joined_of of joins sources = finished of (fold (gathered of) (record { joins = joins; together = [] }) sources)
