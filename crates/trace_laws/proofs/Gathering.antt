-- What one stage for several stands for: where it has a property that goes on to the sources of joins, each of them has it.
use Rattle.std.proofs.Common.{◌≡◌, ℕ, List, [], ◌∷◌, ◌++◌, Bool, true, false, cond, length, Some, refl}
use Rattle.std.specs.Prelude.{IfSome, fold, nat_lt, slice_get}
use Rattle.trace_stages.specs.Joins.{PlainGathering, PlainJoined, finished, finished_with, gathered, join_id, joined_of}
use Rattle.trace_stages.specs.declared.walk.joins.JoinsOf.{JoinsOf}
use Rattle.trace_stages.specs.declared.walk.stage_id.StageId.{StageId}
use Rattle.trace_laws.proofs.Each.{Each}
use Rattle.trace_laws.proofs.Joining.{Extends, extends-refl, extends-trans}
use Rattle.trace_laws.proofs.Ticking.{at-extends}

pub each-split : {X : Type 0} (P : X → Type 0) (xs ys : List X) → Each P (xs ++ ys) → Each P xs × Each P ys
each-split P [] ys all = (tt, all)
each-split P (x ∷ xs) ys all = let rest = each-split P xs ys all.1 in ((all.0, rest.0), rest.1)

last_at : {X : Type 0} (xs : List X) (x : X) → slice_get (xs ++ x ∷ []) (length xs) ≡ Some x
last_at [] x = refl
last_at (y ∷ ys) x = last_at ys x

module _ (of : JoinsOf) where
  one_extends : (gathering : PlainGathering) (source : StageId) (few : Bool)
      → Extends gathering.joins (cond {A = PlainGathering} few (record { joins = gathering.joins; together = gathering.together ++ source ∷ [] })
      (record { joins = gathering.joins ++ gathering.together ∷ []; together = join_id of (length gathering.joins) ∷ source ∷ [] })).joins
  one_extends gathering source true = extends-refl gathering.joins
  one_extends gathering source false = (gathering.together ∷ [], refl)

  all_extend : (gathering : PlainGathering) (sources : List StageId) → Extends gathering.joins (fold (gathered of) gathering sources).joins
  all_extend gathering [] = extends-refl gathering.joins
  all_extend gathering (source ∷ sources) =
      extends-trans gathering.joins (gathered of gathering source).joins (fold (gathered of) (gathered of gathering source) sources).joins
      (one_extends gathering source (nat_lt (length gathering.together) 1_024)) (all_extend (gathered of gathering source) sources)

  finish_extends : (joins : List (List StageId)) (together : List StageId) → Extends joins (finished_with of joins together).joins
  finish_extends joins [] = extends-refl joins
  finish_extends joins (only ∷ []) = extends-refl joins
  finish_extends joins (first ∷ second ∷ others) = ((first ∷ second ∷ others) ∷ [], refl)

  -- all joins, and a property that goes on to their sources
  module _ (P : StageId → Type 0) (all : List (List StageId)) (down : (k : ℕ) (sources : List StageId) → slice_get all k ≡ Some sources → P (join_id of k) → Each P sources) where
    finished_all : (joins : List (List StageId)) (together : List StageId) → Extends (finished_with of joins together).joins all → IfSome (finished_with of joins together).stage P → Each P together
    finished_all joins [] extends stage = tt
    finished_all joins (only ∷ []) extends stage = (stage, tt)
    finished_all joins (first ∷ second ∷ others) extends stage =
        down (length joins) (first ∷ second ∷ others)
        (at-extends (joins ++ (first ∷ second ∷ others) ∷ []) all (length joins) (first ∷ second ∷ others) extends (last_at joins (first ∷ second ∷ others))) stage

    one_all : (gathering : PlainGathering) (source : StageId) (few : Bool)
        → Extends (cond {A = PlainGathering} few (record { joins = gathering.joins; together = gathering.together ++ source ∷ [] })
        (record { joins = gathering.joins ++ gathering.together ∷ []; together = join_id of (length gathering.joins) ∷ source ∷ [] })).joins all
        → Each P (cond {A = PlainGathering} few (record { joins = gathering.joins; together = gathering.together ++ source ∷ [] })
        (record { joins = gathering.joins ++ gathering.together ∷ []; together = join_id of (length gathering.joins) ∷ source ∷ [] })).together
        → Each P gathering.together × P source
    one_all gathering source true extends each = let both = each-split P gathering.together (source ∷ []) each in (both.0, both.1.0)
    one_all gathering source false extends each = (
      down (length gathering.joins) gathering.together
          (at-extends (gathering.joins ++ gathering.together ∷ []) all (length gathering.joins) gathering.together extends (last_at gathering.joins gathering.together)) each.0,
      each.1.0,
    )

    abbrev End : PlainGathering → List StageId → PlainJoined
    End gathering sources = finished of (fold (gathered of) gathering sources)

    gathered_all : (gathering : PlainGathering) (sources : List StageId) → Extends (End gathering sources).joins all → IfSome (End gathering sources).stage P → Each P gathering.together × Each P sources
    gathered_all gathering [] extends stage = (finished_all gathering.joins gathering.together extends stage, tt)
    gathered_all gathering (source ∷ sources) extends stage =
        let rest = gathered_all (gathered of gathering source) sources extends stage in
        let last : PlainGathering = fold (gathered of) (gathered of gathering source) sources in
        let here : Extends (gathered of gathering source).joins (End (gathered of gathering source) sources).joins =
        extends-trans (gathered of gathering source).joins last.joins (End (gathered of gathering source) sources).joins (all_extend (gathered of gathering source) sources) (finish_extends last.joins last.together) in
        let one = one_all gathering source (nat_lt (length gathering.together) 1_024) (extends-trans (gathered of gathering source).joins (End (gathered of gathering source) sources).joins all here extends) rest.0 in
        (one.0, (one.1, rest.1))

    pub joined_all : (joins : List (List StageId)) (sources : List StageId) → Extends (joined_of of joins sources).joins all → IfSome (joined_of of joins sources).stage P → Each P sources
    joined_all joins sources extends stage = (gathered_all (record { joins = joins; together = [] }) sources extends stage).1
