-- The sources of stages of spans, without what else they do.
use Rattle.std.proofs.Common.{◌≡◌, ℕ, true, false, Option, Some, None, refl}
use Rattle.std.specs.Prelude.{is_some}
use Rattle.std.proofs.lemmas.Bool.{false≢true, true≢false}
use Rattle.trace_stages.specs.Known.{has_ended}
use Rattle.trace_stages.specs.Scene.{PlainScene, entry_at}
use Rattle.trace_stages.specs.Works.{at_end, begin_from, whole_with, whole_work}
use Rattle.trace_stages.specs.declared.stage.Action.{Action}
use Rattle.trace_stages.specs.declared.walk.stage_id.StageId.{StageId}

begun_so : (scene : PlainScene) (place runs : ℕ) (action : Action) (source : Option StageId) → (begin_from scene place runs action source).source ≡ source
begun_so scene place runs action None = refl
begun_so scene place runs action (Some from) = refl

-- the first stage of a span that has two has the source from which the span begins
pub start_source : (scene : PlainScene) (place : ℕ) (action : Action) → (begin_from scene place 0 action (entry_at scene.entries place).stage).source ≡ (entry_at scene.entries place).stage
start_source scene place action = begun_so scene place 0 action (entry_at scene.entries place).stage

open_so : (scene : PlainScene) (place : ℕ) (end : Option ℕ) → is_some end ≡ false → (whole_with scene place end).source ≡ None
open_so scene place None is = refl
open_so scene place (Some tick) is = absurd (true≢false is)

two_so : (scene : PlainScene) (place : ℕ) (end : Option ℕ) → is_some end ≡ true → scene.known.has_two place ≡ true → (whole_with scene place end).source ≡ Some (at_end scene place)
two_so scene place None is two = absurd (false≢true is)
two_so scene place (Some tick) is two = rw two refl

one_so : (scene : PlainScene) (place : ℕ) (end : Option ℕ) → is_some end ≡ true → scene.known.has_two place ≡ false → (whole_with scene place end).source ≡ (entry_at scene.entries place).stage
one_so scene place None is one = absurd (false≢true is)
one_so scene place (Some tick) is one = rw one (begun_so scene place _ _ (entry_at scene.entries place).stage)

-- an open span waits for nothing
pub open_source : (scene : PlainScene) (place : ℕ) → has_ended scene.known.relations.intervals place ≡ false → (whole_work scene place).source ≡ None
open_source scene place is = open_so scene place _ is

-- the last stage of a span that has two waits for what that has at its end
pub two_source : (scene : PlainScene) (place : ℕ) → has_ended scene.known.relations.intervals place ≡ true → scene.known.has_two place ≡ true → (whole_work scene place).source ≡ Some (at_end scene place)
two_source scene place is two = two_so scene place _ is two

-- the only stage of a span waits for what that begins from
pub one_source : (scene : PlainScene) (place : ℕ) → has_ended scene.known.relations.intervals place ≡ true → scene.known.has_two place ≡ false → (whole_work scene place).source ≡ (entry_at scene.entries place).stage
one_source scene place is one = one_so scene place _ is one
