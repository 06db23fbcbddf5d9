-- When a stage is another than the one of its name in another version.
use Rattle.std.specs.Prelude.{ℕ, Bool, true, false, not, ◌&&◌, nat_eq, Option, None, Some}
use Rattle.std.specs.Str.{bytes_eq}
use Rattle.stage_graph.specs.declared.stage.Stage.{Stage}
use Rattle.stage_graph.specs.Plain.{PlainGraph}
use Rattle.stage_ops.specs.declared.state.Done.{Done}
use Rattle.propagate.specs.Completions.{same_outcome}
use Rattle.version_store.specs.Plain.{PlainVersion}
use Rattle.version_store.specs.Queries.{state_of}
use Rattle.report_rows.specs.Names.{name_at}
use Rattle.report_rows.specs.Standings.{done_of}

-- whether two completions, each in its graph, blame stages of one name, or both none
abbrev pub same_blamed : PlainGraph → Option ℕ → PlainGraph → Option ℕ → Bool
same_blamed graph None other None = true
same_blamed graph (Some place) other (Some there) = bytes_eq (name_at graph place) (name_at other there)
same_blamed graph place other there = false

-- whether two stages, each in its graph, are both pending, or completed in the same way
abbrev pub same_done : PlainGraph → Option Done → PlainGraph → Option Done → Bool
same_done graph None other None = true
same_done graph (Some done) other (Some there) =
    same_outcome done.outcome there.outcome && (nat_eq done.moment there.moment && same_blamed graph done.from other there.from)
same_done graph here other there = false

-- whether a stage differs from the one of its name, or that one is not there
abbrev pub is_unlike : PlainGraph → Option Done → PlainGraph → Option (Option Done) → Bool
is_unlike graph here other None = true
is_unlike graph here other (Some there) = not (same_done graph here other there)

abbrev pub is_changed : PlainVersion → PlainVersion → ℕ → Stage → Bool
is_changed version against place stage = is_unlike version.graph (state_of version.graph place).done against.graph (done_of against.graph stage.name)
