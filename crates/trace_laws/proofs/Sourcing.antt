-- What a stage of a trace waits for is a stage.
use Rattle.std.proofs.Common.{◌≡◌, ℕ, suc, zero, ◌+◌, ◌-◌, ◌<◌, ◌≤◌, inl, inr, List, [], ◌∷◌, ◌++◌, Bool, true, false, cond, length, map, Option, Some, None, refl, sym, ap, ◌∙◌, subst, arith}
use Rattle.std.specs.Prelude.{IfSome, filter, find, is_some, nat_eq, nat_le, slice_get, unwrap_or}
use Rattle.std.specs.List.{AllByRecursion, IsDistinct, list_any}
use Rattle.std.specs.Option.{option_map}
use Rattle.std.proofs.lemmas.Bool.{cases_lt, eq-eqb, false≢true, le-leb, ne_eqb, or_left, or_right}
use Rattle.std.proofs.lemmas.Map.Steps.{length-le_from_distinct_below}
use Rattle.std.proofs.lemmas.Option.{none-some, same_Some}
use Rattle.trace_relations.specs.Ancestry.{host_of, line, most_spans, parent_at, start_at}
use Rattle.trace_relations.specs.Hosts.{host_at, hosts_of}
use Rattle.trace_relations.specs.Moments.{end_after, end_moment, ended_before, interval_at, start_moment}
use Rattle.trace_relations.specs.Relations.{PlainRelations}
use Rattle.trace_relations.specs.declared.as_told.AsTold.{AsTold}
use Rattle.trace_relations.specs.declared.hosts.Host.{Host}
use Rattle.trace_relations.specs.declared.hosts.Host.TheVariants.{Nowhere, Inside, After}
use Rattle.trace_spans.specs.declared.span.Span.{Span}
use Rattle.trace_stages.specs.Beginnings.{all_begins, begun, bound_at, by_attempt, by_host, from_host, is_begun, is_linked, links_at, nothing_joined, option_list, sources_of as begin_sources}
use Rattle.trace_stages.specs.Called.{call_end}
use Rattle.trace_stages.specs.Failures.{action_of, failures_by, thrown}
use Rattle.trace_stages.specs.Fates.{fate_at}
use Rattle.trace_stages.specs.HandedOn.{all_handed, handed_from, thrower}
use Rattle.trace_stages.specs.Joins.{joined_of}
use Rattle.trace_stages.specs.Known.{PlainKnown, gave_up, had_at}
use Rattle.trace_stages.specs.Moments.{AreMoments, At}
use Rattle.trace_stages.specs.Naming.{end_of_next}
use Rattle.trace_stages.specs.Order.{attempts_before, entry_sources, join_sources, most_needed}
use Rattle.trace_stages.specs.Scene.{PlainScene, entry_at, handed_join, list_at}
use Rattle.trace_stages.specs.StagesOf.{had, known_of}
use Rattle.trace_stages.specs.TwoStages.{has_two, hosts, waits}
use Rattle.trace_stages.specs.Visits.{visits}
use Rattle.trace_stages.specs.Works.{answer_from, at_end, begin_work, last_work, own_work, whole_with, whole_work, work_after}
use Rattle.trace_stages.specs.declared.stage.Action.{Action}
use Rattle.trace_stages.specs.declared.stage.Action.TheVariants.{Null}
use Rattle.trace_stages.specs.declared.stage.Exception.{Exception}
use Rattle.trace_stages.specs.declared.tour.visit.Visit.TheVariants.{Enters, Leaves}
use Rattle.trace_stages.specs.declared.walk.holding.Answer.{Answer as Answered}
use Rattle.trace_stages.specs.declared.walk.holding.Begin.{Begin}
use Rattle.trace_stages.specs.declared.walk.holding.OwnWork.{OwnWork}
use Rattle.trace_stages.specs.declared.walk.joins.JoinsOf.TheVariants as joins_of
use Rattle.trace_stages.specs.declared.walk.stage_id.StageId.{StageId}
use Rattle.trace_stages.specs.declared.walk.stage_id.StageId.TheVariants.{Start, Whole, Entry, Join, Work, Tried, Limit, Answer}
use Rattle.trace_laws.specs.Circles.{HaveSources, sources_of, trace_scene, trace_stages}
use Rattle.trace_laws.proofs.Climbing.{ancestors_step, any_in}
use Rattle.trace_laws.proofs.Each.{Each, In, contains_in, each-append, each-in, each-map, each-weaker, filter_each, in-at, in_contains, in_flat_map}
use Rattle.trace_laws.proofs.Falling.{Piece, handed_is, in_mapped_range, join_place, joins_are_made, work_inside}
use Rattle.trace_laws.proofs.GivingUp.{GaveUp, end_exists, gave_up_is}
use Rattle.trace_laws.proofs.Having.{BeganWell, GivenCall, HadBase, WaitedCall, given_where_answered, held_well}
use Rattle.trace_laws.proofs.Joining.{Extends, Joins, Made, extends-refl, joins_made, made-at}
use Rattle.trace_laws.proofs.Keys.{had_is, joins_at, least, own_joins}
use Rattle.trace_laws.proofs.Leading.{IsEnd, IsLed, Led, all_ends, call_is_end, ends_led, held_led, joined_led}
use Rattle.trace_laws.proofs.Lesser.{begin_source, end_piece, entry_is, gave_up_end, last_ended, no_entry}
use Rattle.trace_laws.proofs.Making.{no_had, no_join, option_in}
use Rattle.trace_laws.proofs.Numbers.{end_number, number, start_number}
use Rattle.trace_laws.proofs.Presence.{all_visited}
use Rattle.trace_laws.proofs.Putting.{HasReason, IsNeeded, all_led, all_reasons, answer_put, lead, limit_put, start_put, tried_put, whole_put}
use Rattle.trace_laws.proofs.Relations.{IsFamily, Parents, after_is, and_left, child_below, ended_number, ended_place, found_in, mapped_range, parents_count, parents_within}
use Rattle.trace_laws.proofs.Rising.{EndedCall}
use Rattle.trace_laws.proofs.Ticking.{at-extends, tick_of_end}
use Rattle.trace_laws.proofs.Trying as trying
use Rattle.trace_laws.proofs.Trying.{ends_later, last_same, tried, tried_by}
use Rattle.trace_laws.proofs.Walking.{Base, WorkedBy}

-- ---- lists

any_at : {X : Type 0} (test : X → Bool) (xs : List X) (k : ℕ) (x : X) → slice_get xs k ≡ Some x → test x ≡ true → list_any test xs ≡ true
any_at test [] k x at passes = absurd (none-some x at)
any_at test (y ∷ ys) zero x at passes = or_left (test y) (list_any test ys) (ap test (same_Some y x at) ∙ passes)
any_at test (y ∷ ys) (suc k) x at passes = or_right (test y) (list_any test ys) (any_at test ys k x at passes)

get_each : {X : Type 0} (P : X → Type 0) (xs : List X) (k : ℕ) (x : X) → Each P xs → slice_get xs k ≡ Some x → P x
get_each P [] k x all here = absurd (none-some x here)
get_each P (y ∷ ys) zero x all here = subst P (same_Some y x here) all.0
get_each P (y ∷ ys) (suc k) x all here = get_each P ys k x all.1 here

-- ---- a source that is needed first leads

end_unneeded : (id : StageId) → IsEnd id → IsNeeded id → ⊥
end_unneeded (Start place) end need = need
end_unneeded (Whole place) end need = need
end_unneeded (Tried place) end need = need
end_unneeded (Limit place) end need = need
end_unneeded (Answer place) end need = need
end_unneeded (Work place count) (other, inl same) need = absurd (cc)
end_unneeded (Work place count) (other, inr same) need = absurd (cc)
end_unneeded (Entry place count) (other, inl same) need = absurd (cc)
end_unneeded (Entry place count) (other, inr same) need = absurd (cc)
end_unneeded (Join place count) (other, inl same) need = absurd (cc)
end_unneeded (Join place count) (other, inr same) need = absurd (cc)

led_first : (sources : List StageId) (source : StageId) → Led sources → In sources source → IsNeeded source → slice_get sources 0 ≡ Some source
led_first [] source led here need = absurd here
led_first (first ∷ others) source led (inl same) need = ap Some same
led_first (first ∷ others) source led (inr further) need = absurd (end_unneeded source (each-in IsEnd others led source further) need)

is_led_led : (sources : List StageId) → IsLed sources → Led sources
is_led_led [] led = absurd led
is_led_led (first ∷ []) led = absurd led
is_led_led (first ∷ second ∷ others) led = led

-- ---- attempts before the last

Back : (ℕ → Option ℕ) → ℕ → ℕ → ℕ → Type 0
Back previous zero place call = place ≡ call
Back previous (suc n) place call = (before : ℕ) × (previous place ≡ Some before) × Back previous n before call

back_push : (previous : ℕ → Option ℕ) (n place call before : ℕ) → Back previous n place call → previous call ≡ Some before → Back previous (suc n) place before
unfolding Back
back_push previous zero place call before same is = (before, ap previous same ∙ is, refl)
back_push previous (suc n) place call before (first, at, rest) is = (first, at, back_push previous n first call before rest is)

in_before : (scene : PlainScene) (k n place call : ℕ) (previous : Option ℕ) → scene.known.relations.attempts.previous place ≡ previous → Back scene.known.relations.attempts.previous (suc k) place call → k < n
    → In (map Tried (attempts_before scene n previous)) (Tried call)
unfolding Back attempts_before
in_before scene k zero place call previous is back lt = absurd (omega arith)
in_before scene k (suc n) place call None is (before, at, rest) lt = absurd (none-some before (sym is ∙ at))
in_before scene zero (suc n) place call (Some first) is (before, at, rest) lt = inl (ap Tried (same_Some first before (sym is ∙ at) ∙ rest))
in_before scene (suc k) (suc n) place call (Some first) is (before, at, rest) lt =
    let same : before ≡ first = same_Some before first (sym at ∙ is) in
    inr (in_before scene k n first call (scene.known.relations.attempts.previous first) refl (subst (λ p. Back scene.known.relations.attempts.previous (suc k) p call) same rest) (omega arith))

module _ {as_told : AsTold} (spans : List Span) (relations : PlainRelations) (is : IsFamily as_told spans relations) (moments : List At) (are : AreMoments relations.intervals moments) where
  abbrev scene : PlainScene
  scene = trace_scene spans relations as_told moments

  abbrev known : PlainKnown
  known = known_of spans relations as_told moments

  abbrev failed : ℕ → Option Exception
  failed = failures_by (known_of spans relations as_told moments) (visits relations.parents relations.order)

  abbrev stages : List StageId
  stages = trace_stages spans relations as_told moments

  abbrev Part_of : ℕ → ℕ → StageId → Type 0
  Part_of place n id = Piece spans relations is moments are failed place n id

  -- ---- which spans have two stages

  abbrev HasTwo : ℕ → Type 0
  HasTwo place = has_two relations.hosts relations.waiting place ≡ true

  inside_two : (child host : ℕ) → slice_get relations.hosts child ≡ Some (Inside host) → HasTwo host
  inside_two child host inside =
      or_left (list_any (hosts host) relations.hosts) (list_any (waits host) relations.waiting) (any_at (hosts host) relations.hosts child (Inside host) inside (eq-eqb host host refl))

  waits_two : (child parent : ℕ) → slice_get relations.waiting child ≡ Some (Some parent) → HasTwo parent
  waits_two child parent waiting =
      or_right (list_any (hosts parent) relations.hosts) (list_any (waits parent) relations.waiting) (any_at (waits parent) relations.waiting child (Some parent) waiting (eq-eqb parent parent refl))

  -- what was given up starts inside its caller
  given_inside : (child caller : ℕ) → GaveUp spans relations is caller child → slice_get relations.hosts child ≡ Some (Inside caller)
  given_inside child caller gave =
      let line_is : line (Parents spans relations is) most_spans (parent_at (Parents spans relations is) child) ≡ caller ∷ line (Parents spans relations is) most_spans (parent_at (Parents spans relations is) caller) =
      ancestors_step relations.intervals _ (length spans) is.few (parents_within spans) child caller gave.child in
      let sooner : nat_le (start_at relations.intervals caller) (start_at relations.intervals child) ≡ true = le-leb (start_at relations.intervals caller) (start_at relations.intervals child) gave.since in
      let host_is : host_of relations.intervals (Parents spans relations is) child ≡ Some caller =
      ap (find (λ other. nat_le (start_at relations.intervals other) (start_at relations.intervals child))) line_is
      ∙ ap (λ b. cond b (Some caller) (find (λ other. nat_le (start_at relations.intervals other) (start_at relations.intervals child)) (line (Parents spans relations is) most_spans (parent_at (Parents spans relations is) caller)))) sooner in
      let not_past : ended_before (interval_at relations.intervals caller) (start_moment (interval_at relations.intervals child)) ≡ false = still (ended_before (interval_at relations.intervals caller) (start_moment (interval_at relations.intervals child))) refl in
      let inside : host_at relations.intervals child (host_of relations.intervals (Parents spans relations is) child) ≡ Inside caller =
      ap (host_at relations.intervals child) host_is ∙ ap (λ b. cond b (After caller) (Inside caller)) not_past in
      let lt : child < length relations.intervals = child_below spans relations is child caller gave.child in
      ap (λ those. slice_get those child) (is.hosts ∙ ap (hosts_of relations.intervals) is.parents)
      ∙ mapped_range (λ p. host_at relations.intervals p (host_of relations.intervals (Parents spans relations is) p)) (length (Parents spans relations is)) child (within child (length relations.intervals) (length spans) (length (Parents spans relations is)) lt is.count (parents_count spans relations is))
      ∙ ap Some inside
    where
      within : (a b c d : ℕ) → a < b → b ≡ c → d ≡ c → a < d
      within a b c d lt one two = omega arith

      apart : (a b : ℕ) → a < b → b < a → ⊥
      apart a b lt more = omega arith

      still : (b : Bool) → ended_before (interval_at relations.intervals caller) (start_moment (interval_at relations.intervals child)) ≡ b → b ≡ false
      still true past =
          let ended = ended_number relations.intervals caller child past in
          let same : ended.0 ≡ gave.end = same_Some ended.0 gave.end (sym ended.1 ∙ gave.ends) in
          absurd (apart (number gave.end) (start_number relations.intervals child) (subst (λ m. number m < start_number relations.intervals child) same ended.2) gave.sooner)
      still false past = refl

  given_two : (caller : ℕ) (id : StageId) → GivenCall relations caller id → HasTwo caller
  given_two caller id call = inside_two call.child caller (given_inside call.child caller (gave_up_is spans relations is call.child caller call.gave))

  pub gave_up_two : (place : ℕ) → gave_up known place ≡ true → HasTwo place
  gave_up_two place gave = elim (cases_lt place (length relations.intervals)) [
    | inl lt ↦
        let answers : is_some (had relations moments place).answer ≡ true = ap (λ those. is_some those.answer) (sym (had_is spans relations is moments are failed place lt)) ∙ gave in
        let given = given_where_answered relations place moments are answers in
        given_two place given.0 given.1
    | inr ge ↦ absurd (false≢true (sym (ap (λ those. is_some those.answer) (no_had spans relations is moments are failed place ge)) ∙ gave))
  ]

  -- ---- what stands among the stages

  abbrev There : StageId → Type 0
  There (Start place) = (place < length relations.intervals) × HasTwo place
  There (Whole place) = place < length relations.intervals
  There (Tried place) = (again : ℕ) × (relations.attempts.next place ≡ Some again)
  There (Limit place) = gave_up known place ≡ true
  There (Answer place) = gave_up known place ≡ true
  There (Work span number) = (work : OwnWork) × (slice_get (had_at known.hads span).works number ≡ Some work)
  There (Entry span number) = Unit {0}
  There (Join span number) = Unit {0}

  call_there : (call : ℕ) (next : Option ℕ) → relations.attempts.next call ≡ next → call < length relations.intervals → There (cond (is_some next) (Tried call) (Whole call))
  call_there call None none lt = lt
  call_there call (Some again) some lt = (again, some)

  pub tried_within : (call again : ℕ) → relations.attempts.next call ≡ Some again → (call < length relations.intervals) × (again < length relations.intervals)
  tried_within call again next =
      let by = tried_by spans relations is call again next in
      let last = end_exists (end_moment (interval_at relations.intervals again)) (end_moment (interval_at relations.intervals by.caller)) by.waits_again.ends in
      (ended_place relations.intervals call by.end by.ends, ended_place relations.intervals again last.0 last.1)

  first_there : (child : ℕ) (next : Option ℕ) → child < length relations.intervals → relations.attempts.next child ≡ None → relations.attempts.next (relations.attempts.first child) ≡ next
      → There (cond (is_some next) (Tried (relations.attempts.first child)) (Whole (relations.attempts.first child)))
  first_there child None lt last none = subst (λ p. p < length relations.intervals) (sym (trying.first_itself spans relations is child last none)) lt
  first_there child (Some again) lt last some = (again, some)

  waited_there : (parent : ℕ) (id : StageId) → WaitedCall relations parent id → There id
  waited_there parent id call =
      subst There (sym call.is) (first_there call.child (relations.attempts.next (relations.attempts.first call.child)) (ended_place relations.intervals call.child call.end call.ends) call.last refl)

  given_there : (caller : ℕ) (id : StageId) → GivenCall relations caller id → There id
  given_there caller id call =
      subst There (sym call.is)
      (call_there call.child (relations.attempts.next call.child) refl (child_below spans relations is call.child caller (gave_up_is spans relations is call.child caller call.gave).child))

  piece_there : (place n : ℕ) (id : StageId) → place < length relations.intervals → HasTwo place → Part_of place n id → There id
  piece_there place n id lt two (inl (inl same)) = subst There (sym same) (lt, two)
  piece_there place n id lt two (inl (inr (inl (inl call)))) = waited_there place id call
  piece_there place n id lt two (inl (inr (inl (inr call)))) = given_there place id call
  piece_there place n id lt two (inl (inr (inr (count, worked, same)))) =
      subst There (sym same) (worked.0, ap (λ those. slice_get those.works count) (had_is spans relations is moments are failed place lt) ∙ worked.1)
  piece_there place n id lt two (inr (count, less, same)) = subst There (sym same) tt

  early_there : (place now reached n : ℕ) (those : List OwnWork) (id : StageId) → place < length relations.intervals → HasTwo place → Extends those (had relations moments place).works → Made (joins_of.Holding place) (Base place (EndedCall relations place now reached) (WorkedBy those now reached)) n id → There id
  early_there place now reached n those id lt two extends (inl (inl same)) = subst There (sym same) (lt, two)
  early_there place now reached n those id lt two extends (inl (inr (inl ended))) =
      waited_there place id (record { child = ended.child; end = ended.end; ends = ended.ends; waits = ended.waits; last = ended.last; is = ended.is })
  early_there place now reached n those id lt two extends (inl (inr (inr (count, worked, same)))) =
      subst There (sym same)
      (worked.work, ap (λ those. slice_get those.works count) (had_is spans relations is moments are failed place lt) ∙ at-extends those (had relations moments place).works count worked.work extends worked.is)
  early_there place now reached n those id lt two extends (inr (count, less, same)) = subst There (sym same) tt

  -- ---- the first stage of a span

  begun_there : (place : ℕ) (id : StageId) → begun known place ≡ Some id → There id
  begun_there place id begins = by_find (find (λ begin. nat_eq begin.span place) (all_begins known.hads)) refl begins
    where
      by_find : (found : Option Begin) → find (λ begin. nat_eq begin.span place) (all_begins known.hads) ≡ found → option_map (λ begin. begin.from) found ≡ Some id → There id
      by_find None none some = absurd (none-some id some)
      by_find (Some begin) found some =
          let at = found_in (λ those. nat_eq those.span place) (all_begins known.hads) begin found in
          let of_had = in_flat_map (λ those. those.begins) known.hads begin at.0 in
          let of_span = in_mapped_range (had relations moments) 0 (length relations.intervals) of_had.0 of_had.1 in
          let well = held_well relations (0 + of_span.0) moments are in
          let began : BeganWell relations (0 + of_span.0) (had relations moments (0 + of_span.0)).joins (had relations moments (0 + of_span.0)).works begin =
          each-in (BeganWell relations (0 + of_span.0) (had relations moments (0 + of_span.0)).joins (had relations moments (0 + of_span.0)).works) (had relations moments (0 + of_span.0)).begins well.begins begin
          (subst (λ those. In those.begins begin) (sym of_span.2) of_had.2) in
          subst There (same_Some begin.from id some)
          (early_there (0 + of_span.0) (start_number relations.intervals begin.span) began.reached (length began.well.before) began.well.those begin.from (plus_zero of_span.0 (length relations.intervals) of_span.1)
          (inside_two begin.span (0 + of_span.0) began.inside) began.well.more began.well.«from»)
        where
          plus_zero : (a b : ℕ) → a < b → 0 + a < b
          plus_zero a b lt = omega arith

  host_there : (place : ℕ) (host : Option Host) → slice_get relations.hosts place ≡ host → Each There (option_list (by_host (begun known) place (unwrap_or host Nowhere)))
  host_there place None here = tt
  host_there place (Some Nowhere) here = tt
  host_there place (Some (Inside host)) here = by_begin (begun known place) refl
    where
      by_begin : (found : Option StageId) → begun known place ≡ found → Each There (option_list found)
      by_begin None none = tt
      by_begin (Some id) some = (begun_there place id some, tt)
  host_there place (Some (After host)) here = let ended = ended_number relations.intervals host place (after_is spans relations is place host here) in (ended_place relations.intervals host ended.0 ended.1, tt)

  from_there : (place : ℕ) (previous : Option ℕ) → relations.attempts.previous place ≡ previous
      → Each There (option_list (by_attempt previous (by_host (begun known) place (unwrap_or (slice_get relations.hosts place) Nowhere))))
  from_there place None here = host_there place (slice_get relations.hosts place) refl
  from_there place (Some call) here = ((tried_within call place ((tried spans relations is).previous call place here)).0, tt)

  link_there : (place link : ℕ) («from» : Option StageId) → is_linked relations.intervals (bound_at known.bounds place) place «from» link ≡ true → There (Whole link)
  link_there place link «from» here =
      let ended = ended_number relations.intervals link place (and_left (ended_before (interval_at relations.intervals link) (start_moment (interval_at relations.intervals place))) _ here) in
      ended_place relations.intervals link ended.0 ended.1

  begins_there : (place : ℕ) → Each There (begin_sources known (begun known) place)
  begins_there place =
      each-append There (option_list (from_host known (begun known) place))
      (map Whole (filter (is_linked relations.intervals (bound_at known.bounds place) place (from_host known (begun known) place)) (links_at relations.references place)))
      (from_there place (relations.attempts.previous place) refl)
      (each-map There Whole (filter (is_linked relations.intervals (bound_at known.bounds place) place (from_host known (begun known) place)) (links_at relations.references place))
      (each-weaker (λ link. is_linked relations.intervals (bound_at known.bounds place) place (from_host known (begun known) place) link ≡ true) (λ link. There (Whole link)) (λ link here. link_there place link (from_host known (begun known) place) here)
      (filter (is_linked relations.intervals (bound_at known.bounds place) place (from_host known (begun known) place)) (links_at relations.references place))
      (filter_each (is_linked relations.intervals (bound_at known.bounds place) place (from_host known (begun known) place)) (links_at relations.references place))))

  entry_if : (place : ℕ) (b : Bool) → Joins (joins_of.Entry place) There [] (cond b (joined_of (joins_of.Entry place) [] (begin_sources known (begun known) place)) nothing_joined)
  entry_if place true =
      joins_made (joins_of.Entry place) There [] (begin_sources known (begun known) place) tt
      (each-weaker There (Made (joins_of.Entry place) There 0) (λ id base. inl base) (begin_sources known (begun known) place) (begins_there place))
  entry_if place false = record { extends = extends-refl []; joins = tt; stage = tt }

  entry_joins : (place : ℕ) → Joins (joins_of.Entry place) There [] (entry_at scene.entries place)
  entry_joins place = elim (cases_lt place (length relations.intervals)) [
    | inl lt ↦ subst (Joins (joins_of.Entry place) There []) (sym (entry_is spans relations is moments are failed place lt)) (entry_if place (is_begun known place))
    | inr ge ↦ subst (Joins (joins_of.Entry place) There []) (sym (no_entry spans relations is moments are failed place ge)) (record { extends = extends-refl []; joins = tt; stage = tt })
  ]

  made_there : (place n : ℕ) (id : StageId) → Made (joins_of.Entry place) There n id → There id
  made_there place n id (inl base) = base
  made_there place n id (inr (count, less, same)) = subst There (sym same) tt

  begin_there : (place runs : ℕ) (action : Action) (source : StageId) → In (option_list (begin_work scene place runs action).source) source → There source
  begin_there place runs action source here =
      let stage : (entry_at scene.entries place).stage ≡ Some source = sym (begin_source scene place runs action (entry_at scene.entries place).stage) ∙ option_in (begin_work scene place runs action).source source here in
      made_there place (length (entry_at scene.entries place).joins) source (subst (λ found. IfSome found (Made (joins_of.Entry place) There (length (entry_at scene.entries place).joins))) stage (entry_joins place).stage)

  entry_there : (place count : ℕ) (source : StageId) → In (entry_sources scene place count) source → There source
  entry_there place count source here = by_sources (slice_get (entry_at scene.entries place).joins count) refl here
    where
      by_sources : (sources : Option (List StageId)) → slice_get (entry_at scene.entries place).joins count ≡ sources → In (unwrap_or sources []) source → There source
      by_sources None at here = absurd here
      by_sources (Some sources) at here =
          made_there place count source (each-in (Made (joins_of.Entry place) There count) sources (made-at (joins_of.Entry place) There 0 count count (entry_at scene.entries place).joins sources (omega arith) (entry_joins place).joins at) source here)

  -- ---- joins of what a span has

  by_gave_led : (place : ℕ) (b c : Bool) (child : Option ℕ) → Each IsLed (handed_join (cond b [] (handed_from known failed place child)))
  by_gave_led place true c child = tt
  by_gave_led place false c None = tt
  by_gave_led place false c (Some child) = by_failed _
    where
      by_failed : (failing : Bool) → Each IsLed (handed_join (cond failing [] ((had_at known.hads place).has ∷ call_end relations.attempts (relations.attempts.first child) ∷ [])))
      by_failed true = tt
      by_failed false = ((call_is_end relations.attempts (relations.attempts.first child), tt), tt)

  joins_led : (place : ℕ) → place < length relations.intervals → Each IsLed (joins_at spans relations is moments are failed place)
  joins_led place lt =
      each-append IsLed (own_joins spans relations is moments are failed place) (handed_join (list_at (all_handed known failed) place))
      (subst (λ those. Each IsLed those.joins) (sym (had_is spans relations is moments are failed place lt)) (held_led relations moments place))
      (subst (λ those. Each IsLed (handed_join those)) (sym (handed_is spans relations is moments are failed place lt)) (by_gave_led place _ true (thrower known failed place)))

  record JoinAt (place count : ℕ) : Type 0 where
    pub within : place < length relations.intervals
    pub led : IsLed (join_sources scene place count)
    pub parts : Each (Part_of place (least spans relations is moments are failed place count)) (join_sources scene place count)

  join_is_at : (place count : ℕ) (source : StageId) → In (join_sources scene place count) source → JoinAt place count
  join_is_at place count source here = elim (cases_lt place (length relations.intervals)) [
    | inl lt ↦
        let at : slice_get (joins_at spans relations is moments are failed place) (least spans relations is moments are failed place count) ≡ Some (join_sources scene place count) =
        join_place spans relations is moments are failed place count source (slice_get (own_joins spans relations is moments are failed place) count) refl here in
        record {
          within = lt;
          led = get_each IsLed (joins_at spans relations is moments are failed place) (least spans relations is moments are failed place count) (join_sources scene place count) (joins_led place lt) at;
          parts = made-at (joins_of.Holding place) (HadBase relations (had relations moments place).works place) 0 (least spans relations is moments are failed place count) (least spans relations is moments are failed place count)
              (joins_at spans relations is moments are failed place) (join_sources scene place count) (omega arith) (joins_are_made spans relations is moments are failed place lt) at;
        }
    | inr ge ↦ absurd (subst (λ those. In those source) (no_join spans relations is moments are failed place count ge) here)
  ]

  no_end : (place : ℕ) (id : StageId) → id ≡ Start place → IsEnd id → ⊥
  no_end place id same (other, inl whole) = starts_no_whole place other (sym same ∙ whole)
    where
      starts_no_whole : (place other : ℕ) → Start place ≡ Whole other → ⊥
      starts_no_whole place other e = cc
  no_end place id same (other, inr whole) = starts_no_tried place other (sym same ∙ whole)
    where
      starts_no_tried : (place other : ℕ) → Start place ≡ Tried other → ⊥
      starts_no_tried place other e = cc

  no_work_end : (place count : ℕ) (id : StageId) → id ≡ Work place count → IsEnd id → ⊥
  no_work_end place count id same (other, inl whole) = works_no_whole (sym same ∙ whole)
    where
      works_no_whole : Work place count ≡ Whole other → ⊥
      works_no_whole e = cc
  no_work_end place count id same (other, inr whole) = works_no_tried (sym same ∙ whole)
    where
      works_no_tried : Work place count ≡ Tried other → ⊥
      works_no_tried e = cc

  no_join_end : (place count : ℕ) (id : StageId) → id ≡ Join place count → IsEnd id → ⊥
  no_join_end place count id same (other, inl whole) = joins_no_whole (sym same ∙ whole)
    where
      joins_no_whole : Join place count ≡ Whole other → ⊥
      joins_no_whole e = cc
  no_join_end place count id same (other, inr whole) = joins_no_tried (sym same ∙ whole)
    where
      joins_no_tried : Join place count ≡ Tried other → ⊥
      joins_no_tried e = cc

  -- a span with a call has two stages
  part_two : (place n : ℕ) (id : StageId) → IsEnd id → Part_of place n id → HasTwo place
  part_two place n id end (inl (inl same)) = absurd (no_end place id same end)
  part_two place n id end (inl (inr (inl (inl call)))) = waits_two call.child place call.waits
  part_two place n id end (inl (inr (inl (inr call)))) = given_two place id call
  part_two place n id end (inl (inr (inr (count, worked, same)))) = absurd (no_work_end place count id same end)
  part_two place n id end (inr (count, less, same)) = absurd (no_join_end place count id same end)

  led_two : (place n : ℕ) (sources : List StageId) → IsLed sources → Each (Part_of place n) sources → HasTwo place
  led_two place n [] led parts = absurd led
  led_two place n (first ∷ []) led parts = absurd led
  led_two place n (first ∷ second ∷ others) led parts = part_two place n second led.0 parts.1.0

  join_there : (place count : ℕ) (source : StageId) → In (join_sources scene place count) source → There source
  join_there place count source here =
      let join = join_is_at place count source here in
      piece_there place (least spans relations is moments are failed place count) source join.within (led_two place (least spans relations is moments are failed place count) (join_sources scene place count) join.led join.parts)
      (each-in (Part_of place (least spans relations is moments are failed place count)) (join_sources scene place count) join.parts source here)

  -- ---- other stages

  work_there : (place count : ℕ) (source : StageId) → In (option_list (own_work scene place count).source) source → There source
  work_there place count source here = by_work (slice_get (had_at known.hads place).works count) refl here
    where
      by_work : (found : Option OwnWork) → slice_get (had_at known.hads place).works count ≡ found → In (option_list (work_after scene found).source) source → There source
      by_work None at here = absurd here
      by_work (Some work) at here = elim (cases_lt place (length relations.intervals)) [
        | inl lt ↦
            let inside = work_inside spans relations is moments are failed place count work (ap (λ those. slice_get those.works count) (sym (had_is spans relations is moments are failed place lt)) ∙ at) in
            subst There (same_Some work.after source (option_in (Some work.after) source here))
            (early_there place inside.now inside.reached (length inside.well.before) inside.well.those work.after lt (inside_two inside.child place inside.inside) inside.well.more inside.well.«from»)
        | inr ge ↦ absurd (none-some work (sym (ap (λ those. slice_get those.works count) (no_had spans relations is moments are failed place ge)) ∙ at))
      ]

  whole_there : (place : ℕ) (source : StageId) (end : Option ℕ) → (interval_at relations.intervals place).end ≡ end → In (option_list (whole_with scene place end).source) source → There source
  whole_there place source None pending here = absurd here
  whole_there place source (Some end) ends here = by_two (known.has_two place) refl here
    where
      by_two : (b : Bool) → has_two relations.hosts relations.waiting place ≡ b
          → In (option_list (cond b (last_work scene place end) (begin_work scene place (end - (interval_at relations.intervals place).start) (action_of (thrown (fate_at known.fates place))))).source) source → There source
      by_two true two here =
          let moment : end_moment (interval_at relations.intervals place) ≡ Some (end_after (interval_at relations.intervals place).start end) = ap (option_map (end_after (interval_at relations.intervals place).start)) ends in
          let lt : place < length relations.intervals = ended_place relations.intervals place (end_after (interval_at relations.intervals place).start end) moment in
          subst There (same_Some (at_end scene place) source (option_in (Some (at_end scene place)) source here))
          (piece_there place (suc (length (own_joins spans relations is moments are failed place))) (at_end scene place) lt two (end_piece spans relations is moments are failed place (list_at (all_handed known failed) place) refl lt))
      by_two false two here = begin_there place _ _ source here

  end_there : (place : ℕ) (source : StageId) (b : Bool) → gave_up known place ≡ b → In (cond b (Limit place ∷ Answer place ∷ []) (option_list (whole_work scene place).source)) source → There source
  end_there place source true gave (inl same) = subst There same gave
  end_there place source true gave (inr (inl same)) = subst There same gave
  end_there place source true gave (inr (inr never)) = absurd never
  end_there place source false gave here = whole_there place source (interval_at relations.intervals place).end refl here

  limit_there : (place : ℕ) (source : StageId) → gave_up known place ≡ true → In (Start place ∷ []) source → There source
  limit_there place source gave (inl same) =
      let end = gave_up_end spans relations is moments are failed place gave in
      subst There same (ended_place relations.intervals place end.0 end.1, gave_up_two place gave)
  limit_there place source gave (inr never) = absurd never

  answer_there : (place : ℕ) (source : StageId) (answer : Option Answered) (end : Option ℕ) → (had_at known.hads place).answer ≡ answer → (interval_at relations.intervals place).end ≡ end
      → In (option_list (answer_from scene (interval_at relations.intervals place).start answer end).source) source → There source
  answer_there place source None None answers ends here = absurd here
  answer_there place source None (Some end) answers ends here = absurd here
  answer_there place source (Some answer) None answers ends here = absurd here
  answer_there place source (Some answer) (Some end) answers ends here =
      let moment : end_moment (interval_at relations.intervals place) ≡ Some (end_after (interval_at relations.intervals place).start end) = ap (option_map (end_after (interval_at relations.intervals place).start)) ends in
      let lt : place < length relations.intervals = ended_place relations.intervals place (end_after (interval_at relations.intervals place).start end) moment in
      let well = held_well relations place moments are in
      let same : (had relations moments place).answer ≡ Some answer = ap (λ those. those.answer) (sym (had_is spans relations is moments are failed place lt)) ∙ answers in
      subst There (same_Some answer.stage source (option_in (Some answer.stage) source here))
      (piece_there place (length (had relations moments place).joins) answer.stage lt (gave_up_two place (ap is_some answers))
      (subst (λ found. IfSome found (λ those. Part_of place (length (had relations moments place).joins) those.stage)) same well.answer))

  tried_there : (call again : ℕ) (source : StageId) → relations.attempts.next call ≡ Some again → In (Whole call ∷ end_of_next relations.attempts call (relations.attempts.next call) ∷ []) source → There source
  tried_there call again source next (inl same) = subst There same (tried_within call again next).0
  tried_there call again source next (inr (inl same)) =
      subst There (ap (end_of_next relations.attempts call) (sym next) ∙ same) (call_there again (relations.attempts.next again) refl (tried_within call again next).1)
  tried_there call again source next (inr (inr never)) = absurd never

  -- ---- what each stage waits for

  abbrev Reason : StageId → Type 0
  Reason id = HasReason scene id

  sources_there : (id source : StageId) → Reason id → In (sources_of scene id) source → There source
  sources_there (Start place) source reason here = begin_there place 0 Null source here
  sources_there (Whole place) source reason here = end_there place source (gave_up known place) refl here
  sources_there (Work place count) source reason here = work_there place count source here
  sources_there (Tried place) source (again, next) here = tried_there place again source next here
  sources_there (Limit place) source reason here = limit_there place source reason here
  sources_there (Answer place) source reason here = answer_there place source (had_at known.hads place).answer (interval_at relations.intervals place).end refl refl here
  sources_there (Entry place count) source reason here = entry_there place count source here
  sources_there (Join place count) source reason here = join_there place count source here

  -- ---- of what is needed first a stage leads

  begins_led : (place : ℕ) → Led (begin_sources known (begun known) place)
  begins_led place = by_from (from_host known (begun known) place)
    where
      by_from : («from» : Option StageId) → Led (option_list «from» ++ map Whole (filter (is_linked relations.intervals (bound_at known.bounds place) place «from») (links_at relations.references place)))
      by_from None = ends_led _ (all_ends (filter (is_linked relations.intervals (bound_at known.bounds place) place None) (links_at relations.references place)))
      by_from (Some id) = all_ends (filter (is_linked relations.intervals (bound_at known.bounds place) place (Some id)) (links_at relations.references place))

  entry_led : (place : ℕ) → Each IsLed (entry_at scene.entries place).joins
  entry_led place = elim (cases_lt place (length relations.intervals)) [
    | inl lt ↦ subst (λ joined. Each IsLed joined.joins) (sym (entry_is spans relations is moments are failed place lt)) (by_begun (is_begun known place))
    | inr ge ↦ subst (λ joined. Each IsLed joined.joins) (sym (no_entry spans relations is moments are failed place ge)) tt
  ]
    where
      by_begun : (b : Bool) → Each IsLed (cond b (joined_of (joins_of.Entry place) [] (begin_sources known (begun known) place)) nothing_joined).joins
      by_begun true = joined_led (joins_of.Entry place) [] (begin_sources known (begun known) place) tt (begins_led place)
      by_begun false = tt

  entry_sources_led : (place count : ℕ) (source : StageId) → In (entry_sources scene place count) source → IsLed (entry_sources scene place count)
  entry_sources_led place count source here = by_found (slice_get (entry_at scene.entries place).joins count) refl here
    where
      by_found : (found : Option (List StageId)) → slice_get (entry_at scene.entries place).joins count ≡ found → In (unwrap_or found []) source → IsLed (unwrap_or found [])
      by_found None none here = absurd here
      by_found (Some sources) some here = get_each IsLed (entry_at scene.entries place).joins count sources (entry_led place) some

  whole_leads : (place : ℕ) (source : StageId) (b : Bool) → In (cond b (Limit place ∷ Answer place ∷ []) (option_list (whole_work scene place).source)) source → IsNeeded source → cond b None (whole_work scene place).source ≡ Some source
  whole_leads place source true (inl same) need = absurd (subst IsNeeded (sym same) need)
  whole_leads place source true (inr (inl same)) need = absurd (subst IsNeeded (sym same) need)
  whole_leads place source true (inr (inr never)) need = absurd never
  whole_leads place source false here need = option_in (whole_work scene place).source source here

  answer_leads : (place : ℕ) (source : StageId) (answer : Option Answered) (end : Option ℕ) → In (option_list (answer_from scene (interval_at relations.intervals place).start answer end).source) source → option_map (λ those. those.stage) answer ≡ Some source
  answer_leads place source None None here = absurd here
  answer_leads place source None (Some end) here = absurd here
  answer_leads place source (Some answer) None here = absurd here
  answer_leads place source (Some answer) (Some end) here = option_in (Some answer.stage) source here

  work_leads : (place count : ℕ) (source : StageId) (found : Option OwnWork) → In (option_list (work_after scene found).source) source → option_map (λ those. those.after) found ≡ Some source
  work_leads place count source None here = absurd here
  work_leads place count source (Some work) here = option_in (Some work.after) source here

  tried_leads : (call : ℕ) (source : StageId) (next : Option ℕ) → In (Whole call ∷ end_of_next relations.attempts call next ∷ []) source → IsNeeded source → ⊥
  tried_leads call source next (inl same) need = subst IsNeeded (sym same) need
  tried_leads call source None (inr (inl same)) need = subst IsNeeded (sym same) need
  tried_leads call source (Some again) (inr (inl same)) need = end_unneeded source (subst IsEnd same (call_is_end relations.attempts again)) need
  tried_leads call source next (inr (inr never)) need = never

  limit_leads : (place : ℕ) (source : StageId) → In (Start place ∷ []) source → IsNeeded source → ⊥
  limit_leads place source (inl same) need = subst IsNeeded (sym same) need
  limit_leads place source (inr never) need = never

  leads : (id source : StageId) → In (sources_of scene id) source → IsNeeded source → lead scene id ≡ Some source
  leads (Start place) source here need = option_in (begin_work scene place 0 Null).source source here
  leads (Whole place) source here need = whole_leads place source (gave_up known place) here need
  leads (Work place count) source here need = work_leads place count source (slice_get (had_at known.hads place).works count) here
  leads (Tried place) source here need = absurd (tried_leads place source (relations.attempts.next place) here need)
  leads (Limit place) source here need = absurd (limit_leads place source here need)
  leads (Answer place) source here need = answer_leads place source (had_at known.hads place).answer (interval_at relations.intervals place).end here
  leads (Entry place count) source here need = led_first (entry_sources scene place count) source (is_led_led (entry_sources scene place count) (entry_sources_led place count source here)) here need
  leads (Join place count) source here need = led_first (join_sources scene place count) source (is_led_led (join_sources scene place count) (join_is_at place count source here).led) here need

  -- ---- attempts before the last are few

  abbrev Last : ℕ → ℕ
  Last call = relations.attempts.last (relations.attempts.first call)

  record IsBack (call : ℕ) : Type 0 where
    pub steps : ℕ
    pub back : Back relations.attempts.previous steps (Last call) call
    pub those : List ℕ
    pub count : length those ≡ suc steps
    pub distinct : IsDistinct nat_eq those
    pub below : Each (λ p. p < length relations.intervals) those
    pub later : Each (λ p. end_number relations.intervals call ≤ end_number relations.intervals p) those
    pub ends : relations.attempts.next (Last call) ≡ None

  apart_all : (call again : ℕ) (those : List ℕ) → end_number relations.intervals call < end_number relations.intervals again → Each (λ p. end_number relations.intervals again ≤ end_number relations.intervals p) those
      → AllByRecursion (λ p. nat_eq call p ≡ false) those
  apart_all call again [] lt later = tt
  apart_all call again (p ∷ those) lt later = (
    ne_eqb call p (λ same. never (end_number relations.intervals call) (end_number relations.intervals again) (end_number relations.intervals p) lt later.0 (ap (end_number relations.intervals) same)),
    apart_all call again those lt later.1,
  )
    where
      never : (a b c : ℕ) → a < b → b ≤ c → a ≡ c → ⊥
      never a b c lt le same = omega arith

  back_if : (call : ℕ) → call < length relations.intervals → (next : Option ℕ) → relations.attempts.next call ≡ next → ((again : ℕ) → end_number relations.intervals call < end_number relations.intervals again → again < length relations.intervals → IsBack again) → IsBack call
  unfolding Back IsDistinct
  back_if call within None none again =
      let same : Last call ≡ call = (tried spans relations is).last call none in
      record { steps = 0; back = same; those = call ∷ []; count = refl; distinct = (tt, tt); below = (within, tt); later = (omega arith, tt); ends = ap relations.attempts.next same ∙ none }
  back_if call within (Some other) some again =
      let lt : end_number relations.intervals call < end_number relations.intervals other = ends_later spans relations is call other some in
      let rest = again other lt (tried_within call other some).1 in
      let same : Last other ≡ Last call = last_same spans relations is call other some in
      record {
        steps = suc rest.steps;
        back = subst (λ l. Back relations.attempts.previous (suc rest.steps) l call) same (back_push relations.attempts.previous rest.steps (Last other) other call rest.back ((tried spans relations is).next call other some).1);
        those = call ∷ rest.those;
        count = ap suc rest.count;
        distinct = (apart_all call other rest.those lt rest.later, rest.distinct);
        below = (within, rest.below);
        later = (
          omega arith,
          each-weaker (λ p. end_number relations.intervals other ≤ end_number relations.intervals p) (λ p. end_number relations.intervals call ≤ end_number relations.intervals p)
              (λ p le. up_to (end_number relations.intervals call) (end_number relations.intervals other) (end_number relations.intervals p) lt le) rest.those rest.later,
        );
        ends = ap relations.attempts.next (sym same) ∙ rest.ends;
      }
    where
      up_to : (a b c : ℕ) → a < b → b ≤ c → a ≤ c
      up_to a b c lt le = omega arith

  back_in : (fuel call : ℕ) → trying.latest_end relations.intervals < fuel + end_number relations.intervals call → call < length relations.intervals → IsBack call
  back_in zero call few within = absurd (never (trying.latest_end relations.intervals) (end_number relations.intervals call) few (trying.latest_is relations.intervals call))
    where
      never : (a b : ℕ) → a < 0 + b → b ≤ a → ⊥
      never a b lt le = omega arith
  back_in (suc fuel) call few within =
      back_if call within (relations.attempts.next call) refl (λ again lt below. back_in fuel again (more (trying.latest_end relations.intervals) fuel (end_number relations.intervals call) (end_number relations.intervals again) few lt) below)
    where
      more : (a b c d : ℕ) → a < suc b + c → c < d → a < b + d
      more a b c d lt less = omega arith

  -- ---- so it is a stage

  visited : (place : ℕ) → place < length relations.intervals → In (visits relations.parents relations.order) (Enters place) × In (visits relations.parents relations.order) (Leaves place)
  visited place lt = all_visited spans relations is place (within place (length relations.intervals) (length spans) lt is.count)
    where
      within : (a b c : ℕ) → a < b → b ≡ c → a < c
      within a b c lt same = omega arith

  tried_stands : (call again : ℕ) → relations.attempts.next call ≡ Some again → In stages (Tried call)
  tried_stands call again next =
      let both = tried_within call again next in
      let back = back_in (suc (trying.latest_end relations.intervals)) again (enough (trying.latest_end relations.intervals) (end_number relations.intervals again)) both.1 in
      let same : Last again ≡ Last call = last_same spans relations is call again next in
      let few : length back.those ≤ length relations.intervals =
      length-le_from_distinct_below back.those (length relations.intervals) back.distinct (λ q found. each-in (λ p. p < length relations.intervals) back.those back.below q (any_in q back.those found)) in
      let short : back.steps < most_needed = less (length back.those) back.steps (length relations.intervals) (length spans) back.count few is.count is.few in
      let here : In (map Tried (attempts_before scene most_needed (relations.attempts.previous (Last again)))) (Tried call) =
      in_before scene back.steps most_needed (Last again) call (relations.attempts.previous (Last again)) refl
      (back_push relations.attempts.previous back.steps (Last again) again call back.back ((tried spans relations is).next call again next).1) short in
      tried_put scene (Last again) call back.ends here [] (visits relations.parents relations.order) (visited (Last again) (last_within again both.1 back)).1
    where
      enough : (a b : ℕ) → a < suc a + b
      enough a b = omega arith

      less : (a b c d : ℕ) → a ≡ suc b → a ≤ c → c ≡ d → d ≤ 65_536 → b < 65_536
      less a b c d one two three four = omega arith

      last_within : (again : ℕ) → again < length relations.intervals → IsBack again → Last again < length relations.intervals
      last_within again lt back = by_next (relations.attempts.next again) refl
        where
          by_next : (found : Option ℕ) → relations.attempts.next again ≡ found → Last again < length relations.intervals
          by_next None none = subst (λ p. p < length relations.intervals) (sym ((tried spans relations is).last again none)) lt
          by_next (Some other) some = last_ended spans relations is moments are failed again other some

  stands : (source : StageId) → There source → (IsNeeded source → In stages source) → In stages source
  stands (Start place) (lt, two) need = start_put scene place two [] (visits relations.parents relations.order) (visited place lt).0
  stands (Whole place) lt need = whole_put scene place [] (visits relations.parents relations.order) (visited place lt).1
  stands (Tried place) (again, next) need = tried_stands place again next
  stands (Limit place) gave need =
      let end = gave_up_end spans relations is moments are failed place gave in
      limit_put scene place gave [] (visits relations.parents relations.order) (visited place (ended_place relations.intervals place end.0 end.1)).1
  stands (Answer place) gave need =
      let end = gave_up_end spans relations is moments are failed place gave in
      answer_put scene place gave [] (visits relations.parents relations.order) (visited place (ended_place relations.intervals place end.0 end.1)).1
  stands (Work place count) there need = need tt
  stands (Entry place count) there need = need tt
  stands (Join place count) there need = need tt

  -- ---- what is put has its reason

  option_here : (found : Option StageId) (source : StageId) → found ≡ Some source → In (option_list found) source
  option_here None source none = absurd (none-some source none)
  option_here (Some id) source some = inl (same_Some id source some)

  whole_lead : (place : ℕ) (source : StageId) (b : Bool) → cond b None (whole_work scene place).source ≡ Some source → In (cond b (Limit place ∷ Answer place ∷ []) (option_list (whole_work scene place).source)) source
  whole_lead place source true none = absurd (none-some source none)
  whole_lead place source false some = option_here (whole_work scene place).source source some

  answer_lead : (place tick : ℕ) (source : StageId) (answer : Option Answered) (end : Option ℕ) → end ≡ Some tick → option_map (λ those. those.stage) answer ≡ Some source
      → In (option_list (answer_from scene (interval_at relations.intervals place).start answer end).source) source
  answer_lead place tick source None end ends none = absurd (none-some source none)
  answer_lead place tick source (Some answer) None ends some = absurd (none-some tick ends)
  answer_lead place tick source (Some answer) (Some end) ends some = inl (same_Some answer.stage source some)

  work_lead : (source : StageId) (found : Option OwnWork) → option_map (λ those. those.after) found ≡ Some source → In (option_list (work_after scene found).source) source
  work_lead source None none = absurd (none-some source none)
  work_lead source (Some work) some = inl (same_Some work.after source some)

  -- what leads is waited for
  lead_waits : (id source : StageId) → Reason id → lead scene id ≡ Some source → In (sources_of scene id) source
  lead_waits (Start place) source reason leads = option_here (begin_work scene place 0 Null).source source leads
  lead_waits (Whole place) source reason leads = whole_lead place source (gave_up known place) leads
  lead_waits (Work place count) source reason leads = work_lead source (slice_get (had_at known.hads place).works count) leads
  lead_waits (Tried place) source reason leads = absurd (none-some source leads)
  lead_waits (Limit place) source reason leads = absurd (none-some source leads)
  lead_waits (Answer place) source reason leads =
      let end = gave_up_end spans relations is moments are failed place reason in
      answer_lead place end.0.tick source (had_at known.hads place).answer (interval_at relations.intervals place).end (tick_of_end (interval_at relations.intervals place) end.0 end.1) leads
  lead_waits (Entry place count) source reason leads = in-at (entry_sources scene place count) 0 source leads
  lead_waits (Join place count) source reason leads = in-at (join_sources scene place count) 0 source leads

  needed_reason : (id : StageId) → IsNeeded id → There id → Reason id
  needed_reason (Start place) need there = absurd need
  needed_reason (Whole place) need there = absurd need
  needed_reason (Tried place) need there = absurd need
  needed_reason (Limit place) need there = absurd need
  needed_reason (Answer place) need there = absurd need
  needed_reason (Work place count) need there = there
  needed_reason (Entry place count) need there = tt
  needed_reason (Join place count) need there = tt

  pub reason_of : (id : StageId) → In stages id → HasReason scene id
  reason_of id here =
      all_reasons scene (λ place call previous. (tried spans relations is).previous call place previous)
      (λ other source reason leads need. needed_reason source need (sources_there other source reason (lead_waits other source reason leads)))
      [] (visits relations.parents relations.order) (λ x never. absurd never) id here

  pub have_sources : length stages ≤ most_needed → HaveSources scene stages
  have_sources few stage source here among =
      let stage_in : In stages stage = contains_in stages stage here in
      let inside : In (sources_of scene stage) source = contains_in (sources_of scene stage) source among in
      in_contains stages source
      (stands source (sources_there stage source (reason_of stage stage_in) inside)
      (λ need. all_led scene [] (visits relations.parents relations.order) few (λ x s never. absurd never) stage source stage_in (leads stage source inside need) need))

  -- ---- each span has its stages

  pub whole_stands : (place : ℕ) → place < length relations.intervals → In stages (Whole place)
  whole_stands place lt = whole_put scene place [] (visits relations.parents relations.order) (visited place lt).1

  pub start_stands : (place : ℕ) → place < length relations.intervals → HasTwo place → In stages (Start place)
  start_stands place lt two = start_put scene place two [] (visits relations.parents relations.order) (visited place lt).0

  pub given_stands : (place : ℕ) → gave_up known place ≡ true → In stages (Limit place) × In stages (Answer place)
  given_stands place gave =
      let end = gave_up_end spans relations is moments are failed place gave in
      let left = (visited place (ended_place relations.intervals place end.0 end.1)).1 in
      (limit_put scene place gave [] (visits relations.parents relations.order) left, answer_put scene place gave [] (visits relations.parents relations.order) left)

  pub attempt_stands : (call : ℕ) → is_some (relations.attempts.next call) ≡ true → In stages (Tried call)
  attempt_stands call more = by_next (relations.attempts.next call) refl more
    where
      by_next : (next : Option ℕ) → relations.attempts.next call ≡ next → is_some next ≡ true → In stages (Tried call)
      by_next None none more = absurd (false≢true more)
      by_next (Some again) some more = tried_stands call again some
