-- What a fate tells of when its stage completed.
use Rattle.std.specs.Prelude.{ℕ, ◌≡◌, ◌≤◌, ◌+◌, List, [], Option, None, Some, length, map}
use Rattle.std.specs.Option.{option_map}
use Rattle.std.specs.List.{flat_map, range_with_len}
use Rattle.stage_graph.specs.declared.stage.Stage.{Stage}
use Rattle.stage_graph.specs.Plain.{PlainGraph, all_places, stage_at}
use Rattle.version_store.specs.Queries.{moment_in, state_of}
use Rattle.stage_ends.specs.declared.fate.EndFate.{EndFate}
use Rattle.stage_ends.specs.declared.fate.Fate.{Fate}
use Rattle.stage_ends.specs.declared.fate.Fate.TheVariants.{Struck, CutOff, NotReached, TooLate}

-- an end by the place of its stage and its index there
pub record PlaceOfEnd : Type 0 where
  pub place : ℕ
  pub index : ℕ

abbrev pub end_of : EndFate → PlaceOfEnd
end_of one = record { place = one.place; index = one.index }

abbrev pub end_at : ℕ → ℕ → PlaceOfEnd
end_at place index = record { place = place; index = index }

-- the ends of the stage at a place
abbrev pub ends_in : ℕ → Option Stage → List PlaceOfEnd
ends_in place None = []
ends_in place (Some stage) = map (end_at place) (range_with_len 0 (length stage.ends))

-- those of all live stages, whatever became of them
abbrev pub all_ends : PlainGraph → List PlaceOfEnd
all_ends graph = flat_map (λ place. ends_in place (stage_at graph.places place)) (all_places graph.places)

-- the end that struck did so at the moment of the completion, and no action is cut off after more ticks than it takes; each other end acts the ticks after it that are told
abbrev pub IsTrueAt : Option ℕ → ℕ → Fate → Type 0
IsTrueAt moment tick Struck = moment ≡ Some tick
IsTrueAt moment tick (CutOff ran of) = (moment ≡ Some tick) × (ran ≤ of)
IsTrueAt moment tick (NotReached by) = option_map (λ completed. completed + by) moment ≡ Some tick
IsTrueAt moment tick (TooLate by) = option_map (λ completed. completed + by) moment ≡ Some tick

abbrev pub IsTold : PlainGraph → EndFate → Type 0
IsTold graph one = IsTrueAt (moment_in (state_of graph one.place)) one.moment one.fate
