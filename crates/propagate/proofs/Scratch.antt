-- The result of evaluation from scratch depends only on what is read.
use Rattle.std.proofs.Common.{◌≡◌, ℕ, List, [], Option, Some, None, refl, ap, ◌∙◌, inl, inr, ⊎_elim, arith}
use Rattle.std.specs.Prelude.{Contains, slice_get}
use Rattle.std.specs.Option.{option_to_list}
use Rattle.std.proofs.lemmas.List.Elements.{Contains-append_left, Contains-append_right, Contains-append_cases, Contains-push_cases}
use Rattle.std.proofs.lemmas.Option.{slice_get_within, get_or_from_slice_get}
use Rattle.stage_graph.specs.declared.stage.Stage.{Stage}
use Rattle.stage_graph.specs.Plain.{feeds_of, feeds_of_place}
use Rattle.stage_graph.specs.Walk.{IsRanked, AsksFeeds, MeetsEach}
use Rattle.stage_graph.proofs.Following.{found_meets_each}
use Rattle.stage_ops.specs.declared.state.State.{State}
use Rattle.stage_ops.specs.declared.state.Reads.{Reads}
use Rattle.stage_ops.specs.declared.state.Reads.TheVariants.{Nothing, Sources, Picked}
use Rattle.stage_ops.specs.States.{pending, seen_at, IsReadBy}
use Rattle.stage_ops.specs.Evaluation.{at, on_states, ReadsDecide}
use Rattle.propagate.specs.Reach.{Stages, Step, come_to, read_places, reads_of}

-- a picked element of a list is in the list
picked : (xs : List ℕ) (i s : ℕ) (o : Option ℕ) → slice_get xs i ≡ o → o ≡ Some s → Contains xs s
picked xs i s o e h = let here : slice_get xs i ≡ Some s = e ∙ h in (i, slice_get_within xs i s here, get_or_from_slice_get xs i s s here)

-- what was read is a feed
read_is_feed : (stage : Stage) (reads : Reads) (s : ℕ) → IsReadBy stage reads s → Contains (feeds_of stage) s
read_is_feed stage Nothing s h = absurd h
read_is_feed stage Sources s h = Contains-append_left stage.sources stage.inner s h
read_is_feed stage (Picked index) s h =
    ⊎_elim (λ l. Contains-append_left stage.sources stage.inner s l)
    (λ r. Contains-append_right stage.sources stage.inner s (picked stage.inner index s (slice_get stage.inner index) refl r)) h

-- the list of what was read
listed : (o : Option ℕ) (s : ℕ) → o ≡ Some s → Contains (option_to_list o) s
listed None s h = cc
listed (Some x) s h = (0, omega arith, the x s h) where
  the : (x s : ℕ) → Some x ≡ Some s → x ≡ s
  the x s h = cc

unlisted : (o : Option ℕ) (s : ℕ) → Contains (option_to_list o) s → o ≡ Some s
unlisted None s h = absurd (omega arith)
unlisted (Some x) s h = ⊎_elim (λ (none : Contains [] s). absurd (omega arith)) (λ same. ap (λ (n : ℕ). Some n) same) (Contains-push_cases [] x s h)

pub read_listed : (stage : Stage) (reads : Reads) (s : ℕ) → IsReadBy stage reads s → Contains (read_places stage reads) s
read_listed stage Nothing s h = absurd h
read_listed stage Sources s h = h
read_listed stage (Picked index) s h =
    ⊎_elim (λ l. Contains-append_left stage.sources (option_to_list (slice_get stage.inner index)) s l)
    (λ r. Contains-append_right stage.sources (option_to_list (slice_get stage.inner index)) s (listed (slice_get stage.inner index) s r)) h

listed_read : (stage : Stage) (reads : Reads) (s : ℕ) → Contains (read_places stage reads) s → IsReadBy stage reads s
listed_read stage Nothing s h = absurd (omega arith)
listed_read stage Sources s h = h
listed_read stage (Picked index) s h =
    ⊎_elim (λ l. inl l) (λ r. inr (unlisted (slice_get stage.inner index) s r))
    (Contains-append_cases stage.sources (option_to_list (slice_get stage.inner index)) s h)

pub reads_are_feeds : (here : Option Stage) (reads : Reads) (s : ℕ) → Contains (reads_of here reads) s → Contains (feeds_of_place here) s
reads_are_feeds None reads s h = h
reads_are_feeds (Some stage) reads s h = read_is_feed stage reads s (listed_read stage reads s h)

-- the state of a place depends only on what it read
pub same_on_reads : {step : Step} → ReadsDecide step → (here : Option Stage) (states others : ℕ → State)
    → ((read : ℕ) → Contains (reads_of here (come_to step here states).reads) read → seen_at states read ≡ seen_at others read) → come_to step here states ≡ come_to step here others
same_on_reads law None states others same = refl
same_on_reads {step} law (Some stage) states others same =
    law stage (seen_at states) (seen_at others) (λ feed h. same feed (read_listed stage (step stage (seen_at states)).reads feed h))

pub same_on_feeds : {step : Step} → ReadsDecide step → (here : Option Stage) (states others : ℕ → State)
    → ((feed : ℕ) → Contains (feeds_of_place here) feed → seen_at states feed ≡ seen_at others feed) → come_to step here states ≡ come_to step here others
same_on_feeds {step} law here states others same =
    same_on_reads law here states others (λ read h. same read (reads_are_feeds here (come_to step here states).reads read h))

asks_feeds : {step : Step} → ReadsDecide step → AsksFeeds (on_states step)
asks_feeds {step} law stage states others same = same_on_feeds law (Some stage) states others (λ feed h. ap (λ (state : State). seen_at (λ _. state) 0) (same feed h))

-- evaluation from scratch meets the equation of each place
pub scratch_meets : {step : Step} → ReadsDecide step → (stages : Stages) → IsRanked stages → MeetsEach pending (on_states step) stages (at step stages)
scratch_meets {step} law stages ranked = found_meets_each pending (on_states step) stages (asks_feeds law) ranked
