-- The stages of spans, and that their sources are stages.
use Rattle.std.proofs.Common.{◌≡◌, ℕ, suc, zero, ◌+◌, ◌-◌, ◌<◌, ◌≤◌, List, [], ◌∷◌, ◌++◌, Bool, true, false, cond, length, fold, map, Option, Some, None, is_some, refl, sym, ap, ◌∙◌, inl, inr, subst, arith, zero-add}
use Rattle.std.specs.Prelude.{◌⊎◌, ◌&&◌, ◌||◌, filter, find, is_none, nat_eq, not, option_map, slice_get, unwrap_or}
use Rattle.std.specs.List.{AllByRecursion as Each, range_with_len}
use Rattle.std.specs.Option.{option_eq}
use Rattle.std.proofs.lemmas.Bool.{true≢false}
use Rattle.std.proofs.lemmas.Bool.Decides.{nat_tests}
use Rattle.std.proofs.lemmas.List.{length-append, length-map}
use Rattle.std.proofs.lemmas.List.FromFn.{get_or-map-range_with_len}
use Rattle.std.proofs.lemmas.List.Sums.{count_by-le-length, length-filter}
use Rattle.std.proofs.lemmas.Option.{none-some, same_Some, unwrap_or-slice_get}
use Rattle.trace_relations.specs.Ancestry.{known as known_parent, parent_at}
use Rattle.trace_relations.specs.Moments.{interval_at}
use Rattle.trace_relations.specs.Relations.{PlainRelations}
use Rattle.trace_relations.specs.Ticks.{last_tick}
use Rattle.trace_relations.specs.declared.as_told.AsTold.{AsTold}
use Rattle.trace_relations.specs.declared.hosts.Host.{Host}
use Rattle.trace_relations.specs.declared.hosts.Host.TheVariants.{Nowhere, Inside, After}
use Rattle.trace_spans.specs.declared.span.Span.{Span}
use Rattle.trace_stages.specs.Beginnings.{all_begins, begun, bound_at, by_attempt, by_host, entry, from_host, is_begun, is_linked, links_at, nothing_joined, option_list, sources_of}
use Rattle.trace_stages.specs.Called.{call_end}
use Rattle.trace_stages.specs.EndOutcomes.{end_outcome}
use Rattle.trace_stages.specs.Failures.{action_of, thrown}
use Rattle.trace_stages.specs.Fates.{fate_at}
use Rattle.trace_stages.specs.HandedOn.{handed_from, handed_sources, is_handed, last_of, later_of, takes_over, thrower}
use Rattle.trace_stages.specs.Holdings.{held}
use Rattle.trace_stages.specs.Joins.{PlainJoined, joined_of}
use Rattle.trace_stages.specs.Known.{PlainHad, PlainKnown, gave_up, had_at, has_ended}
use Rattle.trace_stages.specs.Moments.{AreMoments, At}
use Rattle.trace_stages.specs.Naming.{end_of_next, next_attempt}
use Rattle.trace_stages.specs.Order.{after_of, entry_sources, join_sources, source_of}
use Rattle.trace_stages.specs.Outcomes.{has_failed}
use Rattle.trace_stages.specs.Scene.{PlainScene, entry_at, handed_join, list_at, scene_of}
use Rattle.trace_stages.specs.StagesOf.{had, known_of}
use Rattle.trace_stages.specs.TwoStages.{has_two}
use Rattle.trace_stages.specs.Visits.{is_child_of}
use Rattle.trace_stages.specs.Works.{answer_from, answer_work, at_end, begin_from, begin_work, end_with, last_work, own_work, whole_with, work_after}
use Rattle.trace_stages.specs.declared.stage.Action.{Action}
use Rattle.trace_stages.specs.declared.stage.Action.TheVariants.{Null}
use Rattle.trace_stages.specs.declared.stage.Exception.{Exception}
use Rattle.trace_stages.specs.declared.walk.holding.Answer.{Answer as AnswerOf}
use Rattle.trace_stages.specs.declared.walk.holding.Begin.{Begin}
use Rattle.trace_stages.specs.declared.walk.holding.OwnWork.{OwnWork}
use Rattle.trace_stages.specs.declared.walk.joins.JoinsOf.TheVariants as joins_of
use Rattle.trace_stages.specs.declared.walk.stage_id.StageId.{StageId}
use Rattle.trace_stages.specs.declared.walk.stage_id.StageId.TheVariants.{Start, Whole, Entry, Join, Work, Tried, Limit, Answer}
use Rattle.trace_laws.proofs.Apart.{IsSmall}
use Rattle.trace_laws.proofs.Happened.{begun_two, ends_call, gave_two, held_walked, joins_few, two_waiting, works_few}
use Rattle.trace_laws.proofs.Joined.{AreJoins, IfStage, IsJoin as AreSources, are_joined, few_joins}
use Rattle.trace_laws.proofs.Members.{IsIn, each_in, each_of, in_filter, in_flat_map, in_map}
use Rattle.trace_laws.proofs.Ordered.{IsNeeded, lead}
use Rattle.trace_laws.proofs.Placed.{places_below}
use Rattle.trace_laws.proofs.Shaped.{IsTimely}
use Rattle.trace_laws.proofs.Standing.{IsStanding}
use Rattle.trace_laws.proofs.Walked.{IfAnswer, IsEnd, IsHeld, IsWork}

-- ---- lists

in_range : (n a q : ℕ) → IsIn q (range_with_len a n) → q < a + n
in_range zero a q h = absurd h
in_range (suc n) a q h = elim h [ inl e ↦ omega arith | inr t ↦ (let low = in_range n (a + 1) q t in omega arith) ]

find_in : {X : Type 0} (p : X → Bool) (xs : List X) (x : X) → find p xs ≡ Some x → IsIn x xs
find_in p [] x h = absurd (none-some x h)
find_in p (y ∷ ys) x h = by (p y) h (find_in p ys x)
  where
    by : (b : Bool) → cond b (Some y) (find p ys) ≡ Some x → (find p ys ≡ Some x → IsIn x ys) → IsIn x (y ∷ ys)
    by true e more = inl (sym (same_Some y x e))
    by false e more = inr (more e)

mapped_at : {X : Type 0} (f : ℕ → X) (n p : ℕ) (d : X) → p < n → unwrap_or (slice_get (map f (range_with_len 0 n)) p) d ≡ f p
mapped_at f n p d low = unwrap_or-slice_get (map f (range_with_len 0 n)) p d ∙ get_or-map-range_with_len f 0 n p p d low (zero-add p)

each_at : {X : Type 0} (P : X → Type 0) (xs : List X) (k : ℕ) (x : X) → Each P xs → slice_get xs k ≡ Some x → P x
each_at P [] k x all at = absurd (none-some x at)
each_at P (y ∷ ys) zero x all at = subst P (same_Some y x at) all.0
each_at P (y ∷ ys) (suc k) x all at = each_at P ys k x all.1 at

each_weaker : {X : Type 0} (P : X → Type 0) (Q : X → Type 0) → ((x : X) → P x → Q x) → (xs : List X) → Each P xs → Each Q xs
each_weaker P Q f [] h = tt
each_weaker P Q f (x ∷ xs) h = (f x h.0, each_weaker P Q f xs h.1)

sources_weaker : (First : StageId → Type 0) (Second : StageId → Type 0) (Other : StageId → Type 0) → ((id : StageId) → First id → Second id) → (sources : List StageId) → AreSources First Other sources → AreSources Second Other sources
sources_weaker First Second Other f [] h = absurd h
sources_weaker First Second Other f (first ∷ others) h = (f first h.0, h.1, h.2)

some_equal : (o : Option ℕ) (p : ℕ) → option_eq nat_eq o (Some p) ≡ true → o ≡ Some p
some_equal None p h = absurd (true≢false (sym h))
some_equal (Some q) p h = let e : q ≡ p = grind (arith, nat_tests) in ap Some e

both_of : (a b : Bool) → (a && b) ≡ true → (a ≡ true) × (b ≡ true)
both_of true b h = (refl, h)
both_of false b h = absurd (true≢false (sym h))

known_some : (o : Option (Option ℕ)) (parent : ℕ) → known_parent o ≡ Some parent → o ≡ Some (Some parent)
known_some None parent is = absurd (none-some parent is)
known_some (Some p) parent is = ap Some is

at_some : {X : Type 0} (xs : List X) (k : ℕ) → slice_get xs k ≡ None → k < length xs → ⊥
at_some [] k e low = omega arith
at_some (x ∷ xs) zero e low = none-some x (sym e)
at_some (x ∷ xs) (suc k) e low = at_some xs k e (omega arith)

among_option : (o : Option StageId) (s : StageId) → IsIn s (option_list o) → o ≡ Some s
among_option None s h = absurd h
among_option (Some id) s h = elim h [ inl e ↦ ap Some (sym e) | inr none ↦ absurd none ]

module _ (n : ℕ) (spans : List Span) (relations : PlainRelations) (as_told : AsTold) (moments : List At) (failures : ℕ → Option Exception) (stand : IsStanding n relations) (are : AreMoments relations.intervals moments) where
  abbrev pub the_known : PlainKnown
  the_known = known_of spans relations as_told moments

  abbrev pub the_scene : PlainScene
  the_scene = scene_of the_known failures

  abbrev pub two : ℕ → Bool
  two place = has_two relations.hosts relations.waiting place

  abbrev next : ℕ → Option ℕ
  next place = relations.attempts.next place

  -- the stages of so many spans
  abbrev pub IsStage : StageId → Type 0
  IsStage (Start place) = (place < n) × (two place ≡ true)
  IsStage (Whole place) = place < n
  IsStage (Tried place) = (place < n) × (is_some (next place) ≡ true)
  IsStage (Limit place) = (place < n) × (gave_up the_known place ≡ true)
  IsStage (Answer place) = (place < n) × (gave_up the_known place ≡ true)
  IsStage (Entry span number) = (span < n) × (number < length (entry_at the_scene.entries span).joins)
  IsStage (Join span number) = (span < n) × (two span ≡ true) × (number < length (had_at the_known.hads span).joins + length (handed_join (list_at the_scene.handed span)))
  IsStage (Work span number) = (span < n) × (two span ≡ true) × (number < length (had_at the_known.hads span).works)

  abbrev End : StageId → Type 0
  End id = IsEnd n relations.attempts.next id

  abbrev HeldBy : ℕ → StageId → Type 0
  HeldBy place id = IsHeld place n relations.attempts.next (length (held relations moments place).joins) (length (held relations moments place).works) id

  intervals_count : length relations.intervals ≡ n
  intervals_count = let calls = stand.calls in calls.intervals

  below : (place : ℕ) → place < n → place < length relations.intervals
  below place low = subst (λ (m : ℕ). place < m) (sym intervals_count) low

  pub had_is : (place : ℕ) → place < n → had_at the_known.hads place ≡ had relations moments place
  had_is place low = mapped_at (had relations moments) (length relations.intervals) place _ (below place low)

  pub entry_is : (place : ℕ) → place < n → entry_at the_scene.entries place ≡ entry the_known (begun the_known) place
  entry_is place low = mapped_at (entry the_known (begun the_known)) (length relations.intervals) place nothing_joined (below place low)

  pub handed_is : (place : ℕ) → place < n → list_at the_scene.handed place ≡ handed_sources the_known failures place
  handed_is place low = mapped_at (handed_sources the_known failures) (length relations.intervals) place [] (below place low)

  end_stage : (id : StageId) → End id → IsStage id
  end_stage (Whole place) h = h
  end_stage (Tried place) h = h
  end_stage other h = absurd h

  -- a stage that is always put
  abbrev pub IsSure : StageId → Type 0
  IsSure id = (IsNeeded id → ⊥) × IsStage id

  end_sure : (id : StageId) → End id → IsSure id
  end_sure (Whole place) h = (λ need. need, h)
  end_sure (Tried place) h = (λ need. need, h)
  end_sure other h = absurd h

  -- what a span has is a stage, where it has two
  held_stage : (place : ℕ) → place < n → two place ≡ true → (id : StageId) → HeldBy place id → IsStage id
  held_stage place low has (Start other) h = (subst (λ (p : ℕ). p < n) (sym h) low, ap two h ∙ has)
  held_stage place low has (Whole other) h = h
  held_stage place low has (Tried other) h = h
  held_stage place low has (Join other number) h =
      let same : other ≡ place = h.0 in
      let few : number < length (had_at the_known.hads place).joins = subst (λ (l : List (List StageId)). number < length l) (sym (ap (λ (x : PlainHad). x.joins) (had_is place low))) h.1 in (
        subst (λ (p : ℕ). p < n) (sym same) low,
        ap two same ∙ has,
        subst (λ (p : ℕ). number < length (had_at the_known.hads p).joins + length (handed_join (list_at the_scene.handed p))) (sym same) (omega arith),
      )
  held_stage place low has (Work other number) h =
      let same : other ≡ place = h.0 in
      let few : number < length (had_at the_known.hads place).works = subst (λ (l : List OwnWork). number < length l) (sym (ap (λ (x : PlainHad). x.works) (had_is place low))) h.1 in (
        subst (λ (p : ℕ). p < n) (sym same) low,
        ap two same ∙ has,
        subst (λ (p : ℕ). number < length (had_at the_known.hads p).works) (sym same) few,
      )
  held_stage place low has other h = absurd h

  -- a span that gave calls up has two stages
  pub gave_has_two : (place : ℕ) → place < n → gave_up the_known place ≡ true → two place ≡ true
  gave_has_two place low gave = gave_two n relations moments stand.calls are place (sym (ap (λ (x : PlainHad). is_some x.answer) (had_is place low)) ∙ gave)

  -- ---- from what spans begin

  pub begun_stage : (place : ℕ) (id : StageId) → begun the_known place ≡ Some id → IsStage id
  begun_stage place id h =
      let begin = found (find (λ begin. nat_eq begin.span place) (all_begins the_known.hads)) refl h in
      let at = in_flat_map (λ (x : PlainHad). x.begins) the_known.hads begin.0 (find_in (λ (b : Begin). nat_eq b.span place) (all_begins the_known.hads) begin.0 begin.1) in
      let of = in_map (had relations moments) (range_with_len 0 (length relations.intervals)) at.0 at.1 in
      let low : of.0 < n = subst (λ (m : ℕ). of.0 < m) (zero-add (length relations.intervals) ∙ intervals_count) (in_range (length relations.intervals) 0 of.0 of.1) in
      let here : IsIn begin.0 (held relations moments of.0).begins = subst (λ (x : PlainHad). IsIn begin.0 x.begins) of.2 at.2 in
      let walk = held_walked n relations moments stand.calls are of.0 in
      let has = begun_two n relations moments stand.calls are of.0 begin.0 here in
      held_stage of.0 low has id (subst (λ (x : StageId). HeldBy of.0 x) begin.2 (each_in (λ (b : Begin). HeldBy of.0 b.from) (held relations moments of.0).begins begin.0 walk.begins here))
    where
      found : (o : Option Begin) → find (λ begin. nat_eq begin.span place) (all_begins the_known.hads) ≡ o → option_map (λ begin. begin.from) o ≡ Some id → (begin : Begin) × (find (λ b. nat_eq b.span place) (all_begins the_known.hads) ≡ Some begin) × (begin.from ≡ id)
      found None e is = absurd (none-some id is)
      found (Some begin) e is = (begin, e, same_Some begin.from id is)

  hosted : (place : ℕ) (o : Option Host) (id : StageId) → slice_get relations.hosts place ≡ o → by_host (begun the_known) place (unwrap_or o Nowhere) ≡ Some id → IsStage id
  hosted place None id at h = absurd (none-some id h)
  hosted place (Some Nowhere) id at h = absurd (none-some id h)
  hosted place (Some (Inside host)) id at h = begun_stage place id h
  hosted place (Some (After host)) id at h = subst IsStage (same_Some (Whole host) id h) (stand.after place host at)

  from_stage : (place : ℕ) (o : Option ℕ) (id : StageId) → relations.attempts.previous place ≡ o → by_attempt o (by_host (begun the_known) place (unwrap_or (slice_get relations.hosts place) Nowhere)) ≡ Some id → IsStage id
  from_stage place None id e h = hosted place (slice_get relations.hosts place) id refl h
  from_stage place (Some previous) id e h =
      let attempts = stand.attempts in
      let low = attempts.low previous place (attempts.back previous place e) in
      subst IsStage (same_Some (Whole previous) id h) low.0

  host_stage : (place : ℕ) (id : StageId) → from_host the_known (begun the_known) place ≡ Some id → IsStage id
  host_stage place id h = from_stage place (relations.attempts.previous place) id refl h

  -- ---- the joins at the starts of spans

  abbrev from : ℕ → Option StageId
  from place = from_host the_known (begun the_known) place

  abbrev linked : ℕ → List ℕ
  linked place = filter (is_linked relations.intervals (bound_at the_known.bounds place) place (from place)) (links_at relations.references place)

  linked_ends : (place : ℕ) → Each End (map Whole (linked place))
  linked_ends place = each_of End (map Whole (linked place)) ends
    where
      ends : (id : StageId) → IsIn id (map Whole (linked place)) → End id
      ends id h =
          let of = in_map Whole (linked place) id h in
          let link = in_filter (is_linked relations.intervals (bound_at the_known.bounds place) place (from place)) (links_at relations.references place) of.0 of.1 in
          subst End (sym of.2) (stand.links place of.0 link.0)

  joined_stages : (place : ℕ) → place < n → (sources : List StageId) (joined : PlainJoined) → joined_of (joins_of.Entry place) [] sources ≡ joined → joined.joins ≡ (entry_at the_scene.entries place).joins
      → ((id : StageId) (others : List StageId) → sources ≡ id ∷ others → IsStage id × Each End others) → AreJoins IsStage End joined
  joined_stages place low [] joined e same are_sources = subst (AreJoins IsStage End) e (record { joins = tt; stage = tt })
  joined_stages place low (first ∷ others) joined e same are_sources =
      let both = are_sources first others refl in
      let few : length (joined_of (joins_of.Entry place) [] (first ∷ others)).joins ≤ length (entry_at the_scene.entries place).joins =
      subst (λ (l : List (List StageId)). length (joined_of (joins_of.Entry place) [] (first ∷ others)).joins ≤ length l) (ap (λ (x : PlainJoined). x.joins) e ∙ same) (omega arith) in
      subst (AreJoins IsStage End) e
      (are_joined (joins_of.Entry place) IsStage End (length (entry_at the_scene.entries place).joins) end_stage (λ j lower. (low, lower)) [] first others tt both.0 both.1 few)

  sources_good : (place : ℕ) (o : Option StageId) → from place ≡ o → (ends : List StageId) → Each End ends → (id : StageId) (others : List StageId) → option_list o ++ ends ≡ id ∷ others → IsStage id × Each End others
  sources_good place None e [] all id others is = absurd (cc)
  sources_good place None e (end ∷ ends) all id others is =
      let first : end ≡ id = cc in
      let rest : ends ≡ others = cc in
      (subst IsStage first (end_stage end all.0), subst (Each End) rest all.1)
  sources_good place (Some origin) e ends all id others is =
      let first : origin ≡ id = cc in
      let rest : ends ≡ others = cc in
      (subst IsStage first (host_stage place origin e), subst (Each End) rest all)

  entry_by : (place : ℕ) → place < n → (b : Bool) → is_begun the_known place ≡ b → entry_at the_scene.entries place ≡ cond b (joined_of (joins_of.Entry place) [] (sources_of the_known (begun the_known) place)) nothing_joined
  entry_by place low b e = entry_is place low ∙ ap (λ c. cond c (joined_of (joins_of.Entry place) [] (sources_of the_known (begun the_known) place)) nothing_joined) e

  pub entry_stages : (place : ℕ) → place < n → AreJoins IsStage End (entry_at the_scene.entries place)
  entry_stages place low = by (is_begun the_known place) refl
    where
      by : (b : Bool) → is_begun the_known place ≡ b → AreJoins IsStage End (entry_at the_scene.entries place)
      by true e =
          joined_stages place low (sources_of the_known (begun the_known) place) (entry_at the_scene.entries place) (sym (entry_by place low true e)) refl
          (sources_good place (from place) refl (map Whole (linked place)) (linked_ends place))
      by false e = subst (AreJoins IsStage End) (sym (entry_by place low false e)) (record { joins = tt; stage = tt })

  -- ---- the joins of what spans have, and their own work

  had_stages : (place : ℕ) → place < n → two place ≡ true → Each (AreSources IsStage End) (had_at the_known.hads place).joins
  had_stages place low has =
      let walk = held_walked n relations moments stand.calls are place in
      subst (λ (x : PlainHad). Each (AreSources IsStage End) x.joins) (sym (had_is place low))
      (each_weaker (AreSources (HeldBy place) End) (AreSources IsStage End) (sources_weaker (HeldBy place) IsStage End (held_stage place low has)) (held relations moments place).joins walk.joins)

  has_stage : (place : ℕ) → place < n → two place ≡ true → IsStage (had_at the_known.hads place).has
  has_stage place low has =
      let walk = held_walked n relations moments stand.calls are place in
      subst (λ (x : PlainHad). IsStage x.has) (sym (had_is place low)) (held_stage place low has (held relations moments place).has walk.has)

  works_stages : (place : ℕ) → place < n → two place ≡ true → Each (IsWork IsStage) (had_at the_known.hads place).works
  works_stages place low has =
      let walk = held_walked n relations moments stand.calls are place in
      subst (λ (x : PlainHad). Each (IsWork IsStage) x.works) (sym (had_is place low))
      (each_weaker (IsWork (HeldBy place)) (IsWork IsStage) (λ work is. record { after = held_stage place low has work.after is.after; until = is.until }) (held relations moments place).works walk.works)

  answer_stage : (place : ℕ) → place < n → two place ≡ true → IfAnswer IsStage (had_at the_known.hads place).answer
  answer_stage place low has =
      let walk = held_walked n relations moments stand.calls are place in
      subst (λ (x : PlainHad). IfAnswer IsStage x.answer) (sym (had_is place low)) (weaker (held relations moments place).answer walk.answer)
    where
      weaker : (o : Option AnswerOf) → IfAnswer (HeldBy place) o → IfAnswer IsStage o
      weaker None h = tt
      weaker (Some answer) h = (held_stage place low has answer.stage h.0, h.1)

  -- ---- calls whose failures are handed on

  last_in : (places : List ℕ) (last : Option ℕ) (child : ℕ) → fold (last_of relations.intervals) last places ≡ Some child → (last ≡ Some child) ⊎ IsIn child places
  last_in [] last child h = inl h
  last_in (p ∷ ps) last child h = elim (last_in ps (last_of relations.intervals last p) child h) [
    | inl e ↦ later last (same_Some _ child e)
    | inr t ↦ inr (inr t)
  ]
    where
      later : (o : Option ℕ) → later_of relations.intervals o p ≡ child → (o ≡ Some child) ⊎ IsIn child (p ∷ ps)
      later None e = inr (inl (sym e))
      later (Some other) e = pick _ e
        where
          pick : (b : Bool) → cond b p other ≡ child → (Some other ≡ Some child) ⊎ IsIn child (p ∷ ps)
          pick true same = inr (inl (sym same))
          pick false same = inl (ap Some same)

  -- a child of so many, that the span waits for
  record IsChild (place : ℕ) (child : ℕ) : Type 0 where
    low : child < n
    waits : two place ≡ true

  is_child : (place child : ℕ) → thrower the_known failures place ≡ Some child → IsChild place child
  is_child place child h = elim (last_in (filter (is_handed the_known failures place) (the_known.children place)) None child h) [
    | inl e ↦ absurd (none-some child e)
    | inr t ↦ (
        let of = in_filter (is_handed the_known failures place) (the_known.children place) child t in
        let within = in_filter (is_child_of relations.parents place) relations.order child of.0 in
        let both = both_of (option_eq nat_eq (parent_at relations.waiting child) (Some place)) (is_none (relations.attempts.next child) && takes_over the_known.hands_on (fate_at the_known.fates place) (failures child)) of.1 in
        record {
          low = subst (λ (m : ℕ). child < m) intervals_count (places_below relations.intervals relations.order stand.by_start child within.0);
          waits = two_waiting relations.hosts relations.waiting place child (known_some (slice_get relations.waiting child) place (some_equal (parent_at relations.waiting child) place both.0));
        }
        )
  ]

  -- what the span has, and the end of a call
  record IsHandedOn (place : ℕ) (sources : List StageId) : Type 0 where
    call : StageId
    is : sources ≡ (had_at the_known.hads place).has ∷ call ∷ []
    end : End call
    waits : two place ≡ true

  handed_shape : (place : ℕ) → (handed_sources the_known failures place ≡ []) ⊎ IsHandedOn place (handed_sources the_known failures place)
  handed_shape place = by (gave_up the_known place || not (has_ended relations.intervals place))
    where
      sources : (child : ℕ) (failed : Bool) → IsChild place child
          → (cond failed [] ((had_at the_known.hads place).has ∷ call_end relations.attempts (relations.attempts.first child) ∷ []) ≡ []) ⊎ IsHandedOn place (cond failed [] ((had_at the_known.hads place).has ∷ call_end relations.attempts (relations.attempts.first child) ∷ []))
      sources child true of = inl refl
      sources child false of =
          let attempts = stand.attempts in
          inr (record { call = call_end relations.attempts (relations.attempts.first child); is = refl; end = ends_call n relations (relations.attempts.first child) (attempts.first child of.low); waits = of.waits })

      thrown_by : (o : Option ℕ) → thrower the_known failures place ≡ o → (handed_from the_known failures place o ≡ []) ⊎ IsHandedOn place (handed_from the_known failures place o)
      thrown_by None e = inl refl
      thrown_by (Some child) e = sources child (has_failed (end_outcome the_known failures place)) (is_child place child e)

      by : (b : Bool) → (cond b [] (handed_from the_known failures place (thrower the_known failures place)) ≡ []) ⊎ IsHandedOn place (cond b [] (handed_from the_known failures place (thrower the_known failures place)))
      by true = inl refl
      by false = thrown_by (thrower the_known failures place) refl

  handed_good : (place : ℕ) → place < n → two place ≡ true → (number : ℕ) → slice_get (had_at the_known.hads place).joins number ≡ None
      → number < length (had_at the_known.hads place).joins + length (handed_join (list_at the_scene.handed place)) → AreSources IsStage End (list_at the_scene.handed place)
  handed_good place low has number e few = elim (handed_shape place) [
    | inl none ↦ (
        let empty : list_at the_scene.handed place ≡ [] = handed_is place low ∙ none in
        let fewer = subst (λ (l : List StageId). number < length (had_at the_known.hads place).joins + length (handed_join l)) empty few in
        absurd (at_some (had_at the_known.hads place).joins number e (omega (arith, fewer)))
        )
    | inr on ↦ subst (AreSources IsStage End) (sym (handed_is place low ∙ on.is)) (has_stage place low has, (on.end, tt), omega arith)
  ]

  pub join_good : (place number : ℕ) → IsStage (Join place number) → AreSources IsStage End (join_sources the_scene place number)
  join_good place number is = by (slice_get (had_at the_known.hads place).joins number) refl
    where
      by : (o : Option (List StageId)) → slice_get (had_at the_known.hads place).joins number ≡ o → AreSources IsStage End (unwrap_or o (list_at the_scene.handed place))
      by None e = handed_good place is.0 is.1 number e is.2
      by (Some sources) e = each_at (AreSources IsStage End) (had_at the_known.hads place).joins number sources (had_stages place is.0 is.1) e

  pub entry_good : (place number : ℕ) → IsStage (Entry place number) → AreSources IsStage End (entry_sources the_scene place number)
  entry_good place number is = by (slice_get (entry_at the_scene.entries place).joins number) refl
    where
      entries : AreJoins IsStage End (entry_at the_scene.entries place)
      entries = entry_stages place is.0

      by : (o : Option (List StageId)) → slice_get (entry_at the_scene.entries place).joins number ≡ o → AreSources IsStage End (unwrap_or o [])
      by None e = absurd (at_some (entry_at the_scene.entries place).joins number e is.1)
      by (Some sources) e = each_at (AreSources IsStage End) (entry_at the_scene.entries place).joins number sources entries.joins e

  -- ---- sources

  -- the source of a stage of a span
  first_source_is : (place runs : ℕ) (action : Action) → (begin_work the_scene place runs action).source ≡ (entry_at the_scene.entries place).stage
  first_source_is place runs action = by (entry_at the_scene.entries place).stage
    where
      by : (o : Option StageId) → (begin_from the_scene place runs action o).source ≡ o
      by None = refl
      by (Some source) = refl

  if_stage : (o : Option StageId) (s : StageId) → IfStage IsStage o → o ≡ Some s → IsStage s
  if_stage None s h e = absurd (none-some s e)
  if_stage (Some id) s h e = subst IsStage (same_Some id s e) h

  begins_from : (place : ℕ) → place < n → (s : StageId) → (entry_at the_scene.entries place).stage ≡ Some s → IsStage s
  begins_from place low s e = let entries = entry_stages place low in if_stage (entry_at the_scene.entries place).stage s entries.stage e

  at_end_stage : (place : ℕ) → place < n → two place ≡ true → IsStage (at_end the_scene place)
  at_end_stage place low has = by (list_at the_scene.handed place) refl
    where
      by : (l : List StageId) → list_at the_scene.handed place ≡ l → IsStage (end_with the_scene place l)
      by [] e = has_stage place low has
      by (source ∷ sources) e = (
        low,
        has,
        subst (λ (t : List StageId). length (had_at the_known.hads place).joins < length (had_at the_known.hads place).joins + length (handed_join t)) (sym e) (omega arith),
      )

  whole_from : (place : ℕ) → place < n → (o : Option ℕ) → (s : StageId) → (whole_with the_scene place o).source ≡ Some s → IsStage s
  whole_from place low None s e = absurd (none-some s e)
  whole_from place low (Some end) s e = by (two place) refl e
    where
      by : (b : Bool) → two place ≡ b → (cond b (last_work the_scene place end) (begin_work the_scene place (end - (interval_at the_scene.known.relations.intervals place).start) (action_of (thrown (fate_at the_scene.known.fates place))))).source ≡ Some s → IsStage s
      by true has h = subst IsStage (same_Some (at_end the_scene place) s h) (at_end_stage place low has)
      by false has h = begins_from place low s (sym (first_source_is place _ _) ∙ h)

  work_from : (place number : ℕ) → IsStage (Work place number) → (o : Option OwnWork) → slice_get (had_at the_known.hads place).works number ≡ o → (s : StageId) → after_of o ≡ Some s → IsStage s
  work_from place number is None at s e = absurd (none-some s e)
  work_from place number is (Some work) at s e =
      let good = each_at (IsWork IsStage) (had_at the_known.hads place).works number work (works_stages place is.0 is.1) at in
      subst IsStage (same_Some work.after s e) good.after

  answer_of : (o : Option AnswerOf) (s : StageId) → IfAnswer IsStage o → option_map (λ (answer : AnswerOf). answer.stage) o ≡ Some s → IsStage s
  answer_of None s h e = absurd (none-some s e)
  answer_of (Some answer) s h e = subst IsStage (same_Some answer.stage s e) h.0

  first_of_sources : (sources : List StageId) (s : StageId) → AreSources IsStage End sources → slice_get sources 0 ≡ Some s → IsStage s
  first_of_sources [] s h e = absurd h
  first_of_sources (first ∷ others) s h e = subst IsStage (same_Some first s e) h.0

  pub leads : (id s : StageId) → IsStage id → lead the_scene IsStage id ≡ Some s → IsStage s
  leads (Start place) s is e = begins_from place is.0 s (sym (first_source_is place 0 Null) ∙ e)
  leads (Whole place) s is e = by (gave_up the_known place) e
    where
      by : (b : Bool) → cond b None (source_of the_scene (Whole place)) ≡ Some s → IsStage s
      by true none = absurd (none-some s none)
      by false some = whole_from place is (interval_at the_scene.known.relations.intervals place).end s some
  leads (Answer place) s is e = answer_of (had_at the_known.hads place).answer s (answer_stage place is.0 (gave_has_two place is.0 is.1)) e
  leads (Entry span number) s is e = first_of_sources (entry_sources the_scene span number) s (entry_good span number is) e
  leads (Join span number) s is e = first_of_sources (join_sources the_scene span number) s (join_good span number is) e
  leads (Work span number) s is e = work_from span number is (slice_get (had_at the_known.hads span).works number) refl s e
  leads other s is e = absurd (none-some s e)

  abbrev pub all_sources : StageId → List StageId
  all_sources (Start place) = option_list (source_of the_scene (Start place))
  all_sources (Whole place) = cond (gave_up the_known place) (Limit place ∷ Answer place ∷ []) (option_list (source_of the_scene (Whole place)))
  all_sources (Tried place) = Whole place ∷ []
  all_sources (Limit place) = Start place ∷ []
  all_sources (Answer place) = option_list (answer_work the_scene place).source
  all_sources (Work span number) = option_list (own_work the_scene span number).source
  all_sources (Entry span number) = entry_sources the_scene span number
  all_sources (Join span number) = join_sources the_scene span number

  abbrev pub all_inner : StageId → List StageId
  all_inner (Tried place) = next_attempt the_known place ∷ []
  all_inner other = []

  among_sources : (sources : List StageId) → AreSources IsStage End sources → (s : StageId) → IsIn s sources → (slice_get sources 0 ≡ Some s) ⊎ IsSure s
  among_sources [] h s t = absurd h
  among_sources (first ∷ others) h s t = elim t [ inl e ↦ inl (ap Some (sym e)) | inr rest ↦ inr (end_sure s (each_in End others s h.1 rest)) ]

  answer_is : (start : ℕ) (o : Option AnswerOf) (end : Option ℕ) (s : StageId) → IsIn s (option_list (answer_from the_scene start o end).source) → option_map (λ (answer : AnswerOf). answer.stage) o ≡ Some s
  answer_is start (Some answer) (Some end) s h = among_option (Some answer.stage) s h
  answer_is start (Some answer) None s h = absurd h
  answer_is start None (Some end) s h = absurd h
  answer_is start None None s h = absurd h

  after_is : (o : Option OwnWork) (s : StageId) → IsIn s (option_list (work_after the_scene o).source) → after_of o ≡ Some s
  after_is None s h = absurd h
  after_is (Some work) s h = among_option (Some work.after) s h

  only_one : (only s : StageId) → IsSure only → IsIn s (only ∷ []) → IsSure s
  only_one only s is h = elim h [ inl e ↦ subst IsSure (sym e) is | inr none ↦ absurd none ]

  -- a source is the one that may be a join or own work, or a stage that is always put
  pub source_is : (id : StageId) → IsStage id → (s : StageId) → IsIn s (all_sources id) → (lead the_scene IsStage id ≡ Some s) ⊎ IsSure s
  source_is (Start place) is s h = inl (among_option (source_of the_scene (Start place)) s h)
  source_is (Whole place) is s h = by (gave_up the_known place) refl h
    where
      by : (b : Bool) → gave_up the_known place ≡ b → IsIn s (cond b (Limit place ∷ Answer place ∷ []) (option_list (source_of the_scene (Whole place)))) → (cond b None (source_of the_scene (Whole place)) ≡ Some s) ⊎ IsSure s
      by true gave t = elim t [
        | inl e ↦ (let sure : IsSure (Limit place) = (λ need. need, (is, gave)) in inr (subst IsSure (sym e) sure))
        | inr rest ↦ (let sure : IsSure (Answer place) = (λ need. need, (is, gave)) in inr (only_one (Answer place) s sure rest))
      ]
      by false gave t = inl (among_option (source_of the_scene (Whole place)) s t)
  source_is (Tried place) is s h = let sure : IsSure (Whole place) = (λ need. need, is.0) in inr (only_one (Whole place) s sure h)
  source_is (Limit place) is s h = let sure : IsSure (Start place) = (λ need. need, (is.0, gave_has_two place is.0 is.1)) in inr (only_one (Start place) s sure h)
  source_is (Answer place) is s h = inl (answer_is (interval_at relations.intervals place).start (had_at the_known.hads place).answer (interval_at relations.intervals place).end s h)
  source_is (Work span number) is s h = inl (after_is (slice_get (had_at the_known.hads span).works number) s h)
  source_is (Entry span number) is s h = among_sources (entry_sources the_scene span number) (entry_good span number is) s h
  source_is (Join span number) is s h = among_sources (join_sources the_scene span number) (join_good span number is) s h

  -- what a call comes to with the next attempt
  pub inner_is : (id : StageId) → IsStage id → (s : StageId) → IsIn s (all_inner id) → IsSure s
  inner_is (Tried place) is s h = only_one (next_attempt the_known place) s (by (next place) refl is.1) h
    where
      by : (o : Option ℕ) → next place ≡ o → is_some o ≡ true → IsSure (end_of_next relations.attempts place o)
      by None e none = absurd (true≢false (sym none))
      by (Some again) e some = let attempts = stand.attempts in let low = attempts.low place again e in end_sure (call_end relations.attempts again) (ends_call n relations again low.1)
  inner_is other is s h = absurd h

  -- ---- how many joins there are

  option_few : (o : Option StageId) → length (option_list o) ≤ 1
  option_few None = omega arith
  option_few (Some id) = omega arith

  sources_few : (place : ℕ) → length (sources_of the_known (begun the_known) place) ≤ n + 1
  sources_few place =
      let test = is_linked relations.intervals (bound_at the_known.bounds place) place (from place) in
      let count : length (linked place) ≤ length (links_at relations.references place) = omega (arith, length-filter test (links_at relations.references place), count_by-le-length test (links_at relations.references place)) in
      omega (arith, length-append (option_list (from place)) (map Whole (linked place)), length-map (linked place) Whole, option_few (from place), count, stand.links_few place)

  pub entries_few : (place : ℕ) → place < n → length (entry_at the_scene.entries place).joins ≤ 100
  entries_few place low = by (is_begun the_known place) refl
    where
      by : (b : Bool) → is_begun the_known place ≡ b → length (entry_at the_scene.entries place).joins ≤ 100
      by true e =
          let count = few_joins (joins_of.Entry place) [] (sources_of the_known (begun the_known) place) in
          let low_count : length (joined_of (joins_of.Entry place) [] (sources_of the_known (begun the_known) place)).joins ≤ 100 = omega (arith, count.few, sources_few place, stand.few) in
          subst (λ (x : PlainJoined). length x.joins ≤ 100) (sym (entry_by place low true e)) low_count
      by false e = subst (λ (x : PlainJoined). length x.joins ≤ 100) (sym (entry_by place low false e)) (omega arith)

  handed_few : (sources : List StageId) → length (handed_join sources) ≤ 1
  handed_few [] = omega arith
  handed_few (source ∷ sources) = omega arith

  had_few : (place : ℕ) → place < n → length (had_at the_known.hads place).joins ≤ n + 258
  had_few place low = subst (λ (x : PlainHad). length x.joins ≤ n + 258) (sym (had_is place low)) (joins_few n relations moments stand.calls are place stand.few)

  had_works_few : (place : ℕ) → place < n → length (had_at the_known.hads place).works ≤ n
  had_works_few place low = subst (λ (x : PlainHad). length x.works ≤ n) (sym (had_is place low)) (works_few n relations moments stand.calls are place stand.few)

  pub small_stages : (id : StageId) → IsStage id → IsSmall the_scene id
  small_stages (Entry span number) h = (h.1, entries_few span h.0)
  small_stages (Join span number) h = (omega (arith, h.2, had_few span h.0, handed_few (list_at the_scene.handed span), stand.few), entries_few span h.0)
  small_stages (Work span number) h = omega (arith, h.2, had_works_few span h.0, stand.few)
  small_stages other h = tt

  few_sources : (sources : List StageId) → AreSources IsStage End sources → length sources ≤ 1024
  few_sources [] h = absurd h
  few_sources (first ∷ others) h = omega (arith, h.2)

  since_low : (o : Option AnswerOf) (answer : AnswerOf) → IfAnswer IsStage o → o ≡ Some answer → answer.since ≤ last_tick
  since_low None answer h e = absurd (none-some answer e)
  since_low (Some told) answer h e = subst (λ (x : AnswerOf). x.since ≤ last_tick) (same_Some told answer e) h.1

  -- joins have few sources, and no work ends later than the last tick
  pub timely : (id : StageId) → IsStage id → IsTimely the_scene id
  timely (Entry span number) h = few_sources (entry_sources the_scene span number) (entry_good span number h)
  timely (Join span number) h = few_sources (join_sources the_scene span number) (join_good span number h)
  timely (Work span number) h = λ work at. let good = each_at (IsWork IsStage) (had_at the_known.hads span).works number work (works_stages span h.0 h.1) at in good.until
  timely (Answer place) h = λ answer e. since_low (had_at the_known.hads place).answer answer (answer_stage place h.0 (gave_has_two place h.0 h.1)) e
  timely other h = tt
