-- Marks of the stages that read a place.
use Rattle.std.proofs.Common.{◌≡◌, ℕ, ◌+◌, ◌<◌, Bool, true, false, List, length, get_or, take, refl, ap, sym, ◌∙◌, arith, subst}
use Rattle.std.specs.Prelude.{◌==◌, ◌&&◌, ◌||◌, Option, Some, None, Ok, Err, is_some}
use Rattle.std.specs.List.{list_any}
use Rattle.std.proofs.lemmas.Bool.{eqb-true, eq-eqb, and_parts, and_from, true≢false, false≢true}
use Rattle.std.proofs.lemmas.List.Elements.{Contains-get_or}
use Rattle.std.proofs.lemmas.List.Folds.{list_any_more}
use Rattle.stage_graph.specs.declared.stage.Stage.{Stage}
use Rattle.stage_graph.specs.Plain.{stage_at, feeds_of_place, feeds_at, uses}
use Rattle.stage_ops.specs.declared.state.State.{State}
use Rattle.stage_ops.specs.States.{seen_at}
use Rattle.rank_order.specs.Lists.{is_among}
use Rattle.rank_order.specs.Orders.{at_live}
use Rattle.stage_graph.specs.Plain.{all_places, dependents}
use Rattle.stage_graph.specs.declared.fault.NoStage.{NoStage}
use Rattle.rank_order.proofs.Members.{among_more}
use Rattle.propagate.specs.Completions.{differ}
use Rattle.propagate.specs.Reach.{Stages, reads_of, has_read, is_told}
use Rattle.propagate.proofs.Members.{same_tests, some_passes, passes, among_contains, contains_among, or_assoc, or_nothing}
use Rattle.propagate.proofs.Ranks.{live_within}
use Rattle.propagate.proofs.Ascending.{among_filter, filter_among, range_among}
use Rattle.propagate.proofs.Steps.{has_feed_live}

pub live_from_ok : {A : Type 0} (here : Option Stage) (answer told : A) → at_live here answer ≡ Ok told → (is_some here ≡ true) × (told ≡ answer)
live_from_ok None answer told e = cc
live_from_ok (Some stage) answer told e = (refl, cc)

pub empty_from_err : {A : Type 0} (here : Option Stage) (answer : A) (fault : NoStage) → at_live here answer ≡ Err fault → is_some here ≡ false
empty_from_err None answer fault e = refl
empty_from_err (Some stage) answer fault e = cc

-- a place is marked, if a stage stands there
pub mark_live : (live was same : Bool) → live ≡ true → (was || same) ≡ (was || (live && same))
mark_live true was same e = refl
mark_live false was same e = absurd (false≢true e)

pub mark_empty : (live was same : Bool) → live ≡ false → was ≡ (was || (live && same))
mark_empty true was same e = absurd (true≢false e)
mark_empty false was same e = sym (or_nothing was)

-- a place that is marked already need not be marked again
pub marked_already : (marked : ℕ → Bool) (reads_it : Bool) (place other : ℕ) → marked place ≡ true → marked other ≡ (marked other || (reads_it && other == place))
marked_already marked reads_it place other here = by (marked other) reads_it (other == place) (λ same. ap marked (eqb-true other place same) ∙ here) where
  by : (was reads_it same : Bool) → (same ≡ true → was ≡ true) → was ≡ (was || (reads_it && same))
  by true reads_it same h = refl
  by false true true h = h refl
  by false true false h = refl
  by false false same h = refl

-- one more of the edited places
pub first_next : (live : ℕ → Bool) (edited : List ℕ) (i s : ℕ) → i < length edited
    → ((live s && is_among s (take i edited)) || (live (get_or edited i 0) && s == get_or edited i 0)) ≡ (live s && is_among s (take (i + 1) edited))
first_next live edited i s within =
    turn (s == get_or edited i 0) (live (get_or edited i 0)) (live s) (is_among s (take i edited)) (λ same. ap live (sym (eqb-true s (get_or edited i 0) same)))
    ∙ ap (λ b. live s && b) (sym (among_more s i edited within)) where
      turn : (same there here among : Bool) → (same ≡ true → there ≡ here) → ((here && among) || (there && same)) ≡ (here && (among || same))
      turn true true true among e = or_true among where
        or_true : (b : Bool) → (b || true) ≡ (b || true)
        or_true b = refl
      turn true false false among e = refl
      turn true true false among e = absurd (true≢false (e refl))
      turn true false true among e = absurd (false≢true (e refl))
      turn false there true among e = ap (λ b. among || b) (and_false there) ∙ refl where
        and_false : (b : Bool) → (b && false) ≡ false
        and_false true = refl
        and_false false = refl
      turn false there false among e = and_false there where
        and_false : (b : Bool) → (b && false) ≡ false
        and_false true = refl
        and_false false = refl

-- whether s is among the dependents, and has read the place
abbrev pub among_readers : (ℕ → Bool) → List ℕ → ℕ → Bool
among_readers reads_it dependents s = list_any (λ dependent. (s == dependent) && reads_it dependent) dependents

-- only a stage reads anything
pub reader_live : (stages : Stages) (states : ℕ → State) (feed place : ℕ) → has_read stages states feed place ≡ true → is_some (stage_at stages place) ≡ true
reader_live stages states feed place h = live (stage_at stages place) h where
  live : (here : Option Stage) → is_among feed (reads_of here (states place).reads) ≡ true → is_some here ≡ true
  live None e = absurd (false≢true e)
  live (Some stage) e = refl

-- one more dependent
pub readers_next : (reads_it : ℕ → Bool) (dependents : List ℕ) (i s : ℕ) (was : Bool) → i < length dependents
    → ((was || among_readers reads_it (take i dependents) s) || (reads_it (get_or dependents i 0) && s == get_or dependents i 0)) ≡ (was || among_readers reads_it (take (i + 1) dependents) s)
readers_next reads_it dependents i s was within =
    or_assoc was (among_readers reads_it (take i dependents) s) (reads_it (get_or dependents i 0) && s == get_or dependents i 0)
    ∙ ap (λ b. was || (among_readers reads_it (take i dependents) s || b)) (turn (reads_it (get_or dependents i 0)) (s == get_or dependents i 0))
    ∙ ap (λ b. was || b) (sym (list_any_more (λ dependent. (s == dependent) && reads_it dependent) dependents i 0 within)) where
      turn : (a b : Bool) → (a && b) ≡ (b && a)
      turn true true = refl
      turn true false = refl
      turn false true = refl
      turn false false = refl

uses_among : (place : ℕ) (here : Option Stage) → uses place here ≡ is_among place (feeds_of_place here)
uses_among place None = refl
uses_among place (Some stage) = refl

-- a dependent of a place has it as a feed
pub dependent_uses : (stages : Stages) (u i : ℕ) → i < length (dependents stages u) → is_among u (feeds_at stages (get_or (dependents stages u) i 0)) ≡ true
dependent_uses stages u i within =
    let dependent = get_or (dependents stages u) i 0 in
    let (there, f) = among_filter (λ dependent. uses u (stage_at stages dependent)) dependent (all_places stages) (contains_among dependent (dependents stages u) (Contains-get_or (dependents stages u) i 0 within)) in
    sym (uses_among u (stage_at stages dependent)) ∙ f

-- the dependents of a place that have read it, in terms of the place's feeds
pub among_readers_all : (stages : Stages) (reads_it : ℕ → Bool) (u s : ℕ) → among_readers reads_it (dependents stages u) s ≡ (is_among u (feeds_at stages s) && reads_it s)
among_readers_all stages reads_it u s =
    same_tests (among_readers reads_it (dependents stages u) s) (is_among u (feeds_at stages s) && reads_it s)
    (λ h.
    let (dependent, c, t) = some_passes (λ dependent. (s == dependent) && reads_it dependent) (dependents stages u) h in
    let (same, r) = and_parts (s == dependent) (reads_it dependent) t in
    let e : dependent ≡ s = sym (eqb-true s dependent same) in
    let (within, f) = among_filter (λ dependent. uses u (stage_at stages dependent)) dependent (all_places stages) (contains_among dependent (dependents stages u) c) in
    subst (λ x. (is_among u (feeds_at stages x) && reads_it x) ≡ true) e (and_from (is_among u (feeds_at stages dependent)) (reads_it dependent) (sym (uses_among u (stage_at stages dependent)) ∙ f) r))
    (λ h.
    let (f, r) = and_parts (is_among u (feeds_at stages s)) (reads_it s) h in
    let within : s < length stages = live_within stages s (has_feed_live stages s u (among_contains u (feeds_at stages s) f)) in
    passes (λ dependent. (s == dependent) && reads_it dependent) (dependents stages u) s
    (among_contains s (dependents stages u)
    (filter_among (λ dependent. uses u (stage_at stages dependent)) s (all_places stages) (range_among s 0 (length stages) (omega arith) (omega arith)) (uses_among u (stage_at stages s) ∙ f)))
    (and_from (s == s) (reads_it s) (eq-eqb s s refl) r))

module _ (stages : Stages) (before : ℕ → State) (after : ℕ → State) (level : List ℕ) (i s : ℕ) (within : i < length level) (was : Bool) where
  more : list_any (is_told stages before after s) (take (i + 1) level) ≡ (list_any (is_told stages before after s) (take i level) || is_told stages before after s (get_or level i 0))
  more = list_any_more (is_told stages before after s) level i 0 within

  -- one more place of the level, whose state changes
  pub told_more : (now : Bool) → now ≡ (was || list_any (is_told stages before after s) (take i level)) → differ (seen_at before (get_or level i 0)) (seen_at after (get_or level i 0)) ≡ true
      → (now || (is_among (get_or level i 0) (feeds_at stages s) && has_read stages before (get_or level i 0) s)) ≡ (was || list_any (is_told stages before after s) (take (i + 1) level))
  told_more now so_far changed =
      let reads : Bool = is_among (get_or level i 0) (feeds_at stages s) && has_read stages before (get_or level i 0) s in
      ap (λ b. b || reads) so_far
      ∙ or_assoc was (list_any (is_told stages before after s) (take i level)) reads
      ∙ ap (λ b. was || (list_any (is_told stages before after s) (take i level) || (b && reads))) (sym changed)
      ∙ ap (λ b. was || b) (sym more)

  -- and one whose state stays
  pub told_same : (now : Bool) → now ≡ (was || list_any (is_told stages before after s) (take i level)) → differ (seen_at before (get_or level i 0)) (seen_at after (get_or level i 0)) ≡ false
      → now ≡ (was || list_any (is_told stages before after s) (take (i + 1) level))
  told_same now so_far same =
      let reads : Bool = is_among (get_or level i 0) (feeds_at stages s) && has_read stages before (get_or level i 0) s in
      so_far
      ∙ ap (λ b. was || b) (sym (or_nothing (list_any (is_told stages before after s) (take i level))))
      ∙ ap (λ b. was || (list_any (is_told stages before after s) (take i level) || (b && reads))) (sym same)
      ∙ ap (λ b. was || b) (sym more)

and_nothing : (b : Bool) → (b && false) ≡ false
and_nothing true = refl
and_nothing false = refl

pub none_yet : (live marked : Bool) → marked ≡ false → marked ≡ (live && false)
none_yet live marked e = e ∙ sym (and_nothing live)
