-- Each source of a stage has a lesser key than the stage.
use Rattle.std.proofs.Common.{◌≡◌, ℕ, suc, zero, ◌+◌, ◌-◌, ◌*◌, ◌<◌, ◌≤◌, inl, inr, List, [], ◌∷◌, Bool, true, false, cond, length, map, Option, Some, None, refl, sym, ap, ◌∙◌, subst, arith}
use Rattle.std.specs.Prelude.{IfSome, filter, fold, is_some, slice_get, unwrap_or}
use Rattle.std.specs.Option.{option_and_then, option_map}
use Rattle.std.proofs.lemmas.Bool.{cases_lt, false≢true}
use Rattle.std.proofs.lemmas.List.FromFn.{length-map-range_with_len}
use Rattle.std.proofs.lemmas.Option.{none-some, same_Some, slice_get_past}
use Rattle.trace_relations.specs.Ancestry.{ancestors, line, most_spans, parent_at}
use Rattle.trace_relations.specs.Moments.{end_after, end_moment, ended_before, interval_at, is_before, is_past, start_moment, turn_number}
use Rattle.trace_relations.specs.Relations.{PlainRelations}
use Rattle.trace_relations.specs.declared.as_told.AsTold.{AsTold}
use Rattle.trace_relations.specs.declared.hosts.Host.{Host}
use Rattle.trace_relations.specs.declared.hosts.Host.TheVariants.{Nowhere, Inside, After}
use Rattle.trace_relations.specs.declared.moment.Interval.{Interval}
use Rattle.trace_relations.specs.declared.moment.Moment.{Moment}
use Rattle.trace_spans.specs.declared.span.Span.{Span}
use Rattle.trace_stages.specs.Beginnings.{begun, bound_at, by_attempt, by_host, entry, from_host, is_begun, is_linked, links_at, nothing_joined, option_list, sources_of}
use Rattle.trace_stages.specs.Bounds.{bound, callers_end, earlier_moment, is_bounded}
use Rattle.trace_stages.specs.Failures.{action_of, thrown}
use Rattle.trace_stages.specs.Fates.{fate_at}
use Rattle.trace_stages.specs.HandedOn.{all_handed}
use Rattle.trace_stages.specs.Joins.{joined_of}
use Rattle.trace_stages.specs.Known.{PlainKnown, gave_up, had_at}
use Rattle.trace_stages.specs.Moments.{AreMoments, At}
use Rattle.trace_stages.specs.Naming.{end_of_next}
use Rattle.trace_stages.specs.Order.{entry_sources}
use Rattle.trace_stages.specs.Scene.{PlainScene, entry_at, list_at, scene_of}
use Rattle.trace_stages.specs.StagesOf.{had, known_of}
use Rattle.trace_stages.specs.Works.{answer_from, at_end, begin_from, begin_work, end_with, last_work, whole_with, whole_work}
use Rattle.trace_stages.specs.declared.stage.Action.{Action}
use Rattle.trace_stages.specs.declared.stage.Action.TheVariants.{Null}
use Rattle.trace_stages.specs.declared.stage.Exception.{Exception}
use Rattle.trace_stages.specs.declared.walk.holding.Answer.{Answer as Answered}
use Rattle.trace_stages.specs.declared.walk.joins.JoinsOf.TheVariants as joins_of
use Rattle.trace_stages.specs.declared.walk.stage_id.StageId.{StageId}
use Rattle.trace_stages.specs.declared.walk.stage_id.StageId.TheVariants.{Start, Whole, Entry, Join, Work, Tried, Limit, Answer}
use Rattle.trace_laws.specs.Circles.{sources_of as waits_for}
use Rattle.trace_laws.proofs.Dictionary.{Below, Key, anywhere-below, behind, behind-below, below-trans}
use Rattle.trace_laws.proofs.Each.{Each, In, each-append, each-in, each-map, each-weaker, filter_each}
use Rattle.trace_laws.proofs.Falling.{Piece, own_made, piece_below_end}
use Rattle.trace_laws.proofs.GivingUp.{end_exists}
use Rattle.trace_laws.proofs.Having.{HadBase, ended_where_answered, held_well}
use Rattle.trace_laws.proofs.Joining.{Joins, Made, extends-refl, joins_made, made-at, made-later}
use Rattle.trace_laws.proofs.Keys.{Last, ancestors_of, child_key, end_above, end_below_end, ended_below_start, entry_in_caller, entry_in_host, entry_key, had_is, high_end, high_start, key, key_in, mark_after_end, mark_of, own_joins, own_key, same_span, start_below_end, start_is, three-below}
use Rattle.trace_laws.proofs.Making.{begun_below, join_below, option_in, work_source_below}
use Rattle.trace_laws.proofs.Numbers.{end_number, number, start_number}
use Rattle.trace_laws.proofs.Relations.{IsFamily, Parents, Waits, after_host_is, after_is, and_left, and_right, ended_number, ended_place, is_before_number, mapped_range, not_before_number, turn_three, waits_is}
use Rattle.trace_laws.proofs.Trying.{caller_waits, ends_later, last_is, last_later, last_same, tried, tried_by}

-- ---- numbers

one_more_less : (a b : ℕ) → a + 1 < b → a ≤ b - 1
one_more_less a b lt = omega arith

two_below : (a b : ℕ) → a + 1 < b → a < b - 1
two_below a b lt = omega arith

le_of : (a b : ℕ) → a < b → a ≤ b
le_of a b lt = omega arith

one_before : (a b : ℕ) → a + 2 ≤ b → b - 1 < b
one_before a b le = omega arith

sooner_still : (a b : ℕ) → a + 2 ≤ b → a < b
sooner_still a b le = omega arith

less_before : (a b : ℕ) → b < a → a - 1 < a
less_before a b lt = omega arith

le_same : (a b : ℕ) → a ≡ b → a ≤ b
le_same a b same = omega arith

less_left : (a b l : ℕ) → a < b → b ≤ l → l - b < l - a
less_left a b l lt le = omega arith

-- ---- bounds: what is before the bound is before the end of each caller

Sooner : ℕ → Option Moment → Type 0
Sooner n None = Unit {0}
Sooner n (Some moment) = n < number moment

earlier_both : (n : ℕ) (one other : Option Moment) → Sooner n (earlier_moment one other) → Sooner n one × Sooner n other
unfolding Sooner
earlier_both n None other sooner = (tt, sooner)
earlier_both n (Some one) None sooner = (sooner, tt)
earlier_both n (Some one) (Some other) sooner = by_test (is_before other one) refl sooner
  where
    by_test : (b : Bool) → is_before other one ≡ b → Sooner n (cond b (Some other) (Some one)) → (n < number one) × (n < number other)
    by_test true is first = (through n (number other) (number one) first (is_before_number other one is), first)
      where
        through : (a b c : ℕ) → a < b → b < c → a < c
        through a b c lt more = omega arith
    by_test false is first =
        (first, up_to n (number one) (number other) first (not_before_number other.tick one.tick (turn_number other.turn) (turn_number one.turn) (turn_three other.turn) (turn_three one.turn) is))
      where
        up_to : (a b c : ℕ) → a < b → b ≤ c → a < c
        up_to a b c lt le = omega arith

bound_each : (relations : PlainRelations) (n : ℕ) (so_far : Option Moment) (places : List ℕ) → Sooner n (fold (λ those other. earlier_moment those (callers_end relations other)) so_far places)
    → Sooner n so_far × Each (λ place. Sooner n (callers_end relations place)) places
bound_each relations n so_far [] sooner = (sooner, tt)
bound_each relations n so_far (place ∷ places) sooner =
    let rest = bound_each relations n (earlier_moment so_far (callers_end relations place)) places sooner in
    let both = earlier_both n so_far (callers_end relations place) rest.0 in
    (both.0, (both.1, rest.1))

past_is : (end : Option Moment) (last moment : Moment) → end ≡ Some last → is_past end moment ≡ true → number last < number moment
past_is None last moment ends past = absurd (none-some last ends)
past_is (Some other) last moment ends past = subst (λ m. number m < number moment) (same_Some other last ends) (is_before_number other moment past)

bounded_is : (interval : Interval) (last : Moment) (until : Option Moment) → end_moment interval ≡ Some last → is_bounded interval until ≡ true → Sooner (number last) until
unfolding Sooner
bounded_is interval last None ends bounded = tt
bounded_is interval last (Some moment) ends bounded = past_is (end_moment interval) last moment ends bounded

pub begin_source : (scene : PlainScene) (place runs : ℕ) (action : Action) (stage : Option StageId) → (begin_from scene place runs action stage).source ≡ stage
begin_source scene place runs action None = refl
begin_source scene place runs action (Some source) = refl

module _ {as_told : AsTold} (spans : List Span) (relations : PlainRelations) (is : IsFamily as_told spans relations) (moments : List At) (are : AreMoments relations.intervals moments) (failures : ℕ → Option Exception) where
  abbrev Known : PlainKnown
  Known = known_of spans relations as_told moments

  abbrev Scene : PlainScene
  Scene = scene_of (known_of spans relations as_told moments) failures

  abbrev key_of : StageId → Key
  key_of id = key spans relations is moments are failures id

  abbrev In_span : ℕ → Key → Key
  In_span place own = key_in spans relations is moments are failures place own

  abbrev own_of : StageId → Key
  own_of id = own_key spans relations is moments are failures id

  abbrev top : ℕ → ℕ
  top place = high_end spans relations is moments are failures place

  abbrev low : ℕ → ℕ
  low place = high_start spans relations is moments are failures place

  abbrev entry_of : ℕ → Key
  entry_of place = entry_key spans relations is moments are failures place

  abbrev marks : ℕ → Option ℕ
  marks place = mark_of spans relations is moments are failures place

  abbrev above : ℕ → List ℕ
  above place = ancestors_of spans relations is moments are failures place

  abbrev last_of : ℕ → ℕ
  last_of place = Last spans relations is moments are failures place

  -- ---- the first stage of a span

  -- below the joins at the start of a span
  abbrev EntryBase : ℕ → StageId → Type 0
  EntryBase place id = Below (key_of id) (In_span place (entry_of place))

  ended_entry : (place other : ℕ) (end : Moment) → place < length relations.intervals → end_moment (interval_at relations.intervals other) ≡ Some end → number end < start_number relations.intervals place → Below (own_of (Whole other)) (entry_of place)
  ended_entry place other end lt ends sooner =
      three-below (top other) 0 0 (low place - 1) 3 0
      (inr (one_more_less (top other) (low place) (ended_below_start spans relations is moments are failures other place end ends (le_of (number end) (start_number relations.intervals place) sooner) lt), omega arith))

  after_base : (place host : ℕ) → place < length relations.intervals → slice_get relations.hosts place ≡ Some (After host) → EntryBase place (Whole host)
  after_base place host lt here =
      let ended = ended_number relations.intervals host place (after_is spans relations is place host here) in
      subst (Below (key_of (Whole host))) (sym (entry_in_host spans relations is moments are failures place host lt (after_host_is spans relations is place host here)))
      (same_span spans relations is moments are failures host (own_of (Whole host)) (entry_of place) (ended_entry place host ended.0 lt ended.1 ended.2))

  previous_base : (place call : ℕ) → place < length relations.intervals → relations.attempts.previous place ≡ Some call → EntryBase place (Whole call)
  previous_base place call lt previous =
      let by = tried_by spans relations is call place ((tried spans relations is).previous call place previous) in
      subst (Below (key_of (Whole call))) (sym (entry_in_caller spans relations is moments are failures place by.caller lt by.waits_again.child))
      (child_key spans relations is moments are failures call by.caller (entry_of place) by.waits.child (ended_entry place call by.end lt by.ends by.sooner))

  host_base : (place : ℕ) (host : Option Host) → place < length relations.intervals → slice_get relations.hosts place ≡ host → Each (EntryBase place) (option_list (by_host (begun Known) place (unwrap_or host Nowhere)))
  host_base place None lt here = tt
  host_base place (Some Nowhere) lt here = tt
  host_base place (Some (Inside host)) lt here = by_begin (begun Known place) refl
    where
      by_begin : (found : Option StageId) → begun Known place ≡ found → Each (EntryBase place) (option_list found)
      by_begin None none = tt
      by_begin (Some id) some = (begun_below spans relations is moments are failures place id lt some, tt)
  host_base place (Some (After host)) lt here = (after_base place host lt here, tt)

  from_base : (place : ℕ) (previous : Option ℕ) → place < length relations.intervals → relations.attempts.previous place ≡ previous
      → Each (EntryBase place) (option_list (by_attempt previous (by_host (begun Known) place (unwrap_or (slice_get relations.hosts place) Nowhere))))
  from_base place None lt here = host_base place (slice_get relations.hosts place) lt refl
  from_base place (Some call) lt here = (previous_base place call lt here, tt)

  callers_end_is : (place caller : ℕ) (end : Moment) → parent_at relations.given_up place ≡ Some caller → end_moment (interval_at relations.intervals caller) ≡ Some end → callers_end relations place ≡ Some end
  callers_end_is place caller end gave ends = ap (option_and_then (λ other. end_moment (interval_at relations.intervals other))) gave ∙ ends

  link_base : (place link : ℕ) («from» : Option StageId) → place < length relations.intervals → is_linked relations.intervals (bound_at Known.bounds place) place «from» link ≡ true → EntryBase place (Whole link)
  unfolding Sooner
  link_base place link «from» lt here =
      let ended = ended_number relations.intervals link place (and_left (ended_before (interval_at relations.intervals link) (start_moment (interval_at relations.intervals place))) _ here) in
      let bounded : is_bounded (interval_at relations.intervals link) (bound_at Known.bounds place) ≡ true =
      and_left (is_bounded (interval_at relations.intervals link) (bound_at Known.bounds place)) _ (and_right (ended_before (interval_at relations.intervals link) (start_moment (interval_at relations.intervals place))) _ here) in
      let bound_is : bound_at Known.bounds place ≡ bound relations place = ap (λ found. unwrap_or found None) (mapped_range (bound relations) (length relations.intervals) place lt) in
      let until : Sooner (number ended.0) (bound relations place) = subst (Sooner (number ended.0)) bound_is (bounded_is (interval_at relations.intervals link) ended.0 (bound_at Known.bounds place) ended.1 bounded) in
      let each : Each (λ other. Sooner (number ended.0) (callers_end relations other)) (place ∷ ancestors relations.parents place) = (bound_each relations (number ended.0) None (place ∷ ancestors relations.parents place) until).1 in
      let each_above : Each (λ other. Sooner (number ended.0) (callers_end relations other)) (place ∷ above place) =
      subst (λ parents. Each (λ other. Sooner (number ended.0) (callers_end relations other)) (place ∷ ancestors parents place)) is.parents each in
      anywhere-below marks (top link) (top link) (0 ∷ 0 ∷ []) (link ∷ above link) (place ∷ above place) (entry_of place) (le_same (top link) (top link) refl)
      (each-weaker (λ other. Sooner (number ended.0) (callers_end relations other)) (λ other. (mark : ℕ) → marks other ≡ Some mark → top link < mark)
      (λ other sooner mark is_marked. mark_after_end spans relations is moments are failures other link mark ended.0 ended.1
      (λ marked. subst (Sooner (number ended.0)) (callers_end_is other marked.caller marked.gave.end marked.by marked.gave.ends) sooner) is_marked)
      (place ∷ above place) each_above)
      (two_below (top link) (low place) (ended_below_start spans relations is moments are failures link place ended.0 ended.1 (le_of (number ended.0) (start_number relations.intervals place) ended.2) lt))

  entry_base : (place : ℕ) → place < length relations.intervals → Each (EntryBase place) (sources_of Known (begun Known) place)
  entry_base place lt =
      each-append (EntryBase place) (option_list (from_host Known (begun Known) place))
      (map Whole (filter (is_linked relations.intervals (bound_at Known.bounds place) place (from_host Known (begun Known) place)) (links_at relations.references place)))
      (from_base place (relations.attempts.previous place) lt refl)
      (each-map (EntryBase place) Whole (filter (is_linked relations.intervals (bound_at Known.bounds place) place (from_host Known (begun Known) place)) (links_at relations.references place))
      (each-weaker (λ link. is_linked relations.intervals (bound_at Known.bounds place) place (from_host Known (begun Known) place) link ≡ true) (λ link. EntryBase place (Whole link))
      (λ link here. link_base place link (from_host Known (begun Known) place) lt here)
      (filter (is_linked relations.intervals (bound_at Known.bounds place) place (from_host Known (begun Known) place)) (links_at relations.references place))
      (filter_each (is_linked relations.intervals (bound_at Known.bounds place) place (from_host Known (begun Known) place)) (links_at relations.references place))))

  entry_if : (place : ℕ) (b : Bool) → place < length relations.intervals
      → Joins (joins_of.Entry place) (EntryBase place) [] (cond b (joined_of (joins_of.Entry place) [] (sources_of Known (begun Known) place)) nothing_joined)
  entry_if place true lt =
      joins_made (joins_of.Entry place) (EntryBase place) [] (sources_of Known (begun Known) place) tt
      (each-weaker (EntryBase place) (Made (joins_of.Entry place) (EntryBase place) 0) (λ id base. inl base) (sources_of Known (begun Known) place) (entry_base place lt))
  entry_if place false lt = record { extends = extends-refl []; joins = tt; stage = tt }

  pub entry_is : (place : ℕ) → place < length relations.intervals → entry_at Scene.entries place ≡ entry Known (begun Known) place
  entry_is place lt = ap (λ found. unwrap_or found nothing_joined) (mapped_range (entry Known (begun Known)) (length relations.intervals) place lt)

  entry_joins : (place : ℕ) → place < length relations.intervals → Joins (joins_of.Entry place) (EntryBase place) [] (entry_at Scene.entries place)
  entry_joins place lt = subst (Joins (joins_of.Entry place) (EntryBase place) []) (sym (entry_is place lt)) (entry_if place (is_begun Known place) lt)

  pub no_entry : (place : ℕ) → length relations.intervals ≤ place → entry_at Scene.entries place ≡ nothing_joined
  no_entry place le =
      ap (λ found. unwrap_or found nothing_joined)
      (slice_get_past Scene.entries place (same_le (length Scene.entries) (length relations.intervals) place (length-map-range_with_len (entry Known (begun Known)) 0 (length relations.intervals)) le))
    where
      same_le : (a b c : ℕ) → a ≡ b → b ≤ c → a ≤ c
      same_le a b c same le = omega arith

  low_above : (place : ℕ) → place < length relations.intervals → low place - 1 < low place
  low_above place lt = some (low place) (interval_at relations.intervals place).start _ (start_is spans relations is moments are failures place lt)
    where
      some : (a n d : ℕ) → a ≡ (n * 3 + 1) * 262_144 + d → a - 1 < a
      some a n d same = omega arith

  first_below : (place runs : ℕ) (action : Action) (source : StageId) → In (option_list (begin_work Scene place runs action).source) source → Below (key_of source) (key_of (Start place))
  first_below place runs action source here =
      let stage : (entry_at Scene.entries place).stage ≡ Some source =
      sym (begin_source Scene place runs action (entry_at Scene.entries place).stage) ∙ option_in (begin_work Scene place runs action).source source here in
      elim (cases_lt place (length relations.intervals)) [
        | inl lt ↦ of_part lt (subst (λ found. IfSome found (Made (joins_of.Entry place) (EntryBase place) (length (entry_at Scene.entries place).joins))) stage (entry_joins place lt).stage)
        | inr ge ↦ absurd (none-some source (sym (ap (λ joined. joined.stage) (no_entry place ge)) ∙ stage))
      ]
    where
      of_part : place < length relations.intervals → Made (joins_of.Entry place) (EntryBase place) (length (entry_at Scene.entries place).joins) source → Below (key_of source) (key_of (Start place))
      of_part lt (inl base) =
          below-trans (key_of source) (In_span place (entry_of place)) (key_of (Start place)) base
          (same_span spans relations is moments are failures place (entry_of place) (own_of (Start place)) (inl (low_above place lt)))
      of_part lt (inr (k, short, same)) =
          subst (λ id. Below (key_of id) (key_of (Start place))) (sym same)
          (same_span spans relations is moments are failures place (own_of (Entry place k)) (own_of (Start place)) (inl (low_above place lt)))

  entry_below : (place count : ℕ) (source : StageId) → In (entry_sources Scene place count) source → Below (key_of source) (key_of (Entry place count))
  entry_below place count source here = elim (cases_lt place (length relations.intervals)) [
    | inl lt ↦ by_sources lt (slice_get (entry_at Scene.entries place).joins count) refl here
    | inr ge ↦ absurd (subst (λ joined. In (list_at joined.joins count) source) (no_entry place ge) here)
  ]
    where
      by_count : (n : ℕ) → EntryBase place source → Below (key_of source) (key_of (Entry place n))
      by_count zero base = base
      by_count (suc n) base =
          below-trans (key_of source) (In_span place (entry_of place)) (key_of (Entry place (suc n))) base
          (same_span spans relations is moments are failures place (entry_of place) (own_of (Entry place (suc n))) (inr (refl, inr (refl, inl (omega arith)))))

      of_part : Made (joins_of.Entry place) (EntryBase place) count source → Below (key_of source) (key_of (Entry place count))
      of_part (inl base) = by_count count base
      of_part (inr (k, short, same)) =
          subst (λ id. Below (key_of id) (key_of (Entry place count))) (sym same)
          (same_span spans relations is moments are failures place (own_of (Entry place k)) (own_of (Entry place count)) (inr (refl, inr (refl, inl short))))

      by_sources : place < length relations.intervals → (sources : Option (List StageId)) → slice_get (entry_at Scene.entries place).joins count ≡ sources → In (unwrap_or sources []) source → Below (key_of source) (key_of (Entry place count))
      by_sources lt None at here = absurd here
      by_sources lt (Some sources) at here =
          of_part (each-in (Made (joins_of.Entry place) (EntryBase place) count) sources
          (made-at (joins_of.Entry place) (EntryBase place) 0 count count (entry_at Scene.entries place).joins sources (omega arith) (entry_joins place lt).joins at) source here)

  -- ---- the last stage of a span

  pub end_piece : (place : ℕ) (handed : List StageId) → list_at (all_handed Known failures) place ≡ handed → place < length relations.intervals
      → Piece spans relations is moments are failures place (suc (length (own_joins spans relations is moments are failures place))) (end_with Scene place handed)
  end_piece place [] none lt =
      made-later (joins_of.Holding place) (HadBase relations (had relations moments place).works place) (length (own_joins spans relations is moments are failures place)) (suc (length (own_joins spans relations is moments are failures place))) (omega arith)
      (had_at Known.hads place).has (own_made spans relations is moments are failures place lt).1
  end_piece place (source ∷ sources) some lt = inr (length (own_joins spans relations is moments are failures place), omega arith, refl)

  last_below : (place : ℕ) (end : Moment) (source : StageId) → end_moment (interval_at relations.intervals place) ≡ Some end → at_end Scene place ≡ source → Below (key_of source) (key_of (Whole place))
  last_below place end source ends same =
      subst (λ id. Below (key_of id) (key_of (Whole place))) same
      (piece_below_end spans relations is moments are failures place (suc (length (own_joins spans relations is moments are failures place))) (at_end Scene place) end ends
      (end_piece place (list_at (all_handed Known failures) place) refl (ended_place relations.intervals place end ends)) (top place) 0 0
      (inl (one_before (low place) (top place) (start_below_end spans relations is moments are failures place end ends))))

  start_below_whole : (place : ℕ) (end : Moment) → end_moment (interval_at relations.intervals place) ≡ Some end → Below (key_of (Start place)) (key_of (Whole place))
  start_below_whole place end ends =
      same_span spans relations is moments are failures place (own_of (Start place)) (own_of (Whole place)) (inl (sooner_still (low place) (top place) (start_below_end spans relations is moments are failures place end ends)))

  ended_below : (place : ℕ) (source : StageId) (end : Option ℕ) → (interval_at relations.intervals place).end ≡ end → In (option_list (whole_with Scene place end).source) source → Below (key_of source) (key_of (Whole place))
  ended_below place source None pending here = absurd here
  ended_below place source (Some end) ends here = by_two (Known.has_two place) (ap (option_map (end_after (interval_at relations.intervals place).start)) ends) here
    where
      by_two : (b : Bool) → end_moment (interval_at relations.intervals place) ≡ Some (end_after (interval_at relations.intervals place).start end)
          → In (option_list (cond b (last_work Scene place end) (begin_work Scene place (end - (interval_at relations.intervals place).start) (action_of (thrown (fate_at Known.fates place))))).source) source
          → Below (key_of source) (key_of (Whole place))
      by_two true moment here = last_below place (end_after (interval_at relations.intervals place).start end) source moment (same_Some (at_end Scene place) source (option_in (Some (at_end Scene place)) source here))
      by_two false moment here =
          below-trans (key_of source) (key_of (Start place)) (key_of (Whole place)) (first_below place _ _ source here) (start_below_whole place (end_after (interval_at relations.intervals place).start end) moment)

  -- a span that gave calls up has ended
  pub gave_up_end : (place : ℕ) → gave_up Known place ≡ true → (end : Moment) × (end_moment (interval_at relations.intervals place) ≡ Some end)
  gave_up_end place gave = elim (cases_lt place (length relations.intervals)) [
    | inl lt ↦
        let answers : is_some (had relations moments place).answer ≡ true = ap (λ those. is_some those.answer) (sym (had_is spans relations is moments are failures place lt)) ∙ gave in
        let ended = ended_where_answered relations place moments are answers in
        (end_after (interval_at relations.intervals place).start ended.0, ap (option_map (end_after (interval_at relations.intervals place).start)) ended.1)
    | inr ge ↦ absurd (false≢true (sym (ap (λ those. is_some those.answer) (no_had place ge)) ∙ gave))
  ]
    where
      no_had : (place : ℕ) → length relations.intervals ≤ place → had_at Known.hads place ≡ record { has = Start place; joins = []; works = []; begins = []; answer = None }
      no_had place le =
          ap (λ found. unwrap_or found (record { has = Start place; joins = []; works = []; begins = []; answer = None }))
          (slice_get_past Known.hads place (same_le (length Known.hads) (length relations.intervals) place (length-map-range_with_len (had relations moments) 0 (length relations.intervals)) le))
        where
          same_le : (a b c : ℕ) → a ≡ b → b ≤ c → a ≤ c
          same_le a b c same le = omega arith

  whole_below : (place : ℕ) (source : StageId) (b : Bool) → gave_up Known place ≡ b → In (cond b (Limit place ∷ Answer place ∷ []) (option_list (whole_work Scene place).source)) source → Below (key_of source) (key_of (Whole place))
  whole_below place source true gave (inl same) =
      let end = gave_up_end place gave in
      subst (λ id. Below (key_of id) (key_of (Whole place))) same
      (same_span spans relations is moments are failures place (own_of (Limit place)) (own_of (Whole place)) (inl (sooner_still (low place) (top place) (start_below_end spans relations is moments are failures place end.0 end.1))))
  whole_below place source true gave (inr (inl same)) =
      let end = gave_up_end place gave in
      subst (λ id. Below (key_of id) (key_of (Whole place))) same
      (same_span spans relations is moments are failures place (own_of (Answer place)) (own_of (Whole place)) (inl (one_before (low place) (top place) (start_below_end spans relations is moments are failures place end.0 end.1))))
  whole_below place source true gave (inr (inr never)) = absurd never
  whole_below place source false gave here = ended_below place source (interval_at relations.intervals place).end refl here

  limit_below : (place : ℕ) (source : StageId) → In (Start place ∷ []) source → Below (key_of source) (key_of (Limit place))
  limit_below place source (inl same) =
      subst (λ id. Below (key_of id) (key_of (Limit place))) same (same_span spans relations is moments are failures place (own_of (Start place)) (own_of (Limit place)) (inr (refl, inl (omega arith))))
  limit_below place source (inr never) = absurd never

  answer_below : (place : ℕ) (source : StageId) (answer : Option Answered) (end : Option ℕ) → (had_at Known.hads place).answer ≡ answer → (interval_at relations.intervals place).end ≡ end
      → In (option_list (answer_from Scene (interval_at relations.intervals place).start answer end).source) source → Below (key_of source) (key_of (Answer place))
  answer_below place source None None answers ends here = absurd here
  answer_below place source None (Some end) answers ends here = absurd here
  answer_below place source (Some answer) None answers ends here = absurd here
  answer_below place source (Some answer) (Some end) answers ends here =
      let moment : end_moment (interval_at relations.intervals place) ≡ Some (end_after (interval_at relations.intervals place).start end) = ap (option_map (end_after (interval_at relations.intervals place).start)) ends in
      let lt : place < length relations.intervals = ended_place relations.intervals place (end_after (interval_at relations.intervals place).start end) moment in
      let well = held_well relations place moments are in
      let same : (had relations moments place).answer ≡ Some answer = ap (λ those. those.answer) (sym (had_is spans relations is moments are failures place lt)) ∙ answers in
      let piece : Piece spans relations is moments are failures place (length (had relations moments place).joins) answer.stage =
      subst (λ found. IfSome found (λ those. Piece spans relations is moments are failures place (length (had relations moments place).joins) those.stage)) same well.answer in
      subst (λ id. Below (key_of id) (key_of (Answer place))) (same_Some answer.stage source (option_in (Some answer.stage) source here))
      (piece_below_end spans relations is moments are failures place (length (had relations moments place).joins) answer.stage (end_after (interval_at relations.intervals place).start end) moment piece (top place - 1) 3 0
      (inr (le_same (top place - 1) (top place - 1) refl, omega arith)))

  -- ---- what a call came to that was tried again

  pub last_ended : (call again : ℕ) → relations.attempts.next call ≡ Some again → last_of call < length relations.intervals
  last_ended call again next =
      let by = tried_by spans relations is call again next in
      let at : slice_get relations.waiting (last_of call) ≡ Some (Some by.caller) = caller_waits spans relations is (last_of call) by.caller ((last_is spans relations is call).callers ∙ by.callers) in
      let waits : Waits spans relations is by.caller (last_of call) = waits_is spans relations is (last_of call) by.caller at in
      let last = end_exists (end_moment (interval_at relations.intervals (last_of call))) (end_moment (interval_at relations.intervals by.caller)) waits.ends in
      ended_place relations.intervals (last_of call) last.0 last.1

  whole_of_tried : (call : ℕ) (next : Option ℕ) → relations.attempts.next call ≡ next → Below (key_of (Whole call)) (key_of (Tried call))
  whole_of_tried call None none =
      end_above spans relations is moments are failures call (own_of (Tried call))
      (three-below (top call) 0 0 (top (last_of call)) 1 _ (inr (le_same (top call) (top (last_of call)) (ap top (sym ((tried spans relations is).last call none))), omega arith)))
  whole_of_tried call (Some again) some =
      let by = tried_by spans relations is call again some in
      end_above spans relations is moments are failures call (own_of (Tried call))
      (three-below (top call) 0 0 (top (last_of call)) 1 _
      (inl (end_below_end spans relations is moments are failures call (last_of call) (ended_place relations.intervals call by.end by.ends) (last_ended call again some) (last_later spans relations is call again some))))

  same_above : (call again : ℕ) → relations.attempts.next call ≡ Some again → above again ≡ above call
  same_above call again next =
      let by = tried_by spans relations is call again next in
      ap (line (Parents spans relations is) most_spans) (by.waits_again.child ∙ sym by.waits.child)

  next_of_tried : (call again : ℕ) (next : Option ℕ) → relations.attempts.next call ≡ Some again → relations.attempts.next again ≡ next → Below (key_of (cond (is_some next) (Tried again) (Whole again))) (key_of (Tried call))
  next_of_tried call again None some none =
      let same : again ≡ last_of call = sym ((tried spans relations is).last again none) ∙ last_same spans relations is call again some in
      subst (λ those. Below (key_of (Whole again)) (behind marks those (own_of (Tried call)))) (same_above call again some)
      (end_above spans relations is moments are failures again (own_of (Tried call)) (three-below (top again) 0 0 (top (last_of call)) 1 _ (inr (le_same (top again) (top (last_of call)) (ap top same), omega arith))))
  next_of_tried call again (Some other) some next =
      let same : last_of again ≡ last_of call = last_same spans relations is call again some in
      subst (λ those. Below (key_of (Tried again)) (behind marks those (own_of (Tried call)))) (same_above call again some)
      (behind-below marks (above again) (own_of (Tried again)) (own_of (Tried call))
      (inr (
        ap top same,
        inr (
          refl,
          inl (subst (λ l. end_number relations.intervals l - end_number relations.intervals again < end_number relations.intervals (last_of call) - end_number relations.intervals call) (sym same)
              (less_left (end_number relations.intervals call) (end_number relations.intervals again) (end_number relations.intervals (last_of call)) (ends_later spans relations is call again some)
              (subst (λ l. end_number relations.intervals again ≤ end_number relations.intervals l) same (last_is spans relations is again).ends))),
        ),
      )))

  tried_source_below : (call : ℕ) (source : StageId) (next : Option ℕ) → relations.attempts.next call ≡ next → In (Whole call ∷ end_of_next relations.attempts call next ∷ []) source → Below (key_of source) (key_of (Tried call))
  tried_source_below call source next is_next (inl same) = subst (λ id. Below (key_of id) (key_of (Tried call))) same (whole_of_tried call next is_next)
  tried_source_below call source None none (inr (inl same)) = subst (λ id. Below (key_of id) (key_of (Tried call))) same (whole_of_tried call None none)
  tried_source_below call source (Some again) some (inr (inl same)) =
      subst (λ id. Below (key_of id) (key_of (Tried call))) same (next_of_tried call again (relations.attempts.next again) some refl)
  tried_source_below call source next is_next (inr (inr never)) = absurd never

  -- ---- the theorem

  pub lesser : (id source : StageId) → In (waits_for Scene id) source → Below (key_of source) (key_of id)
  lesser (Start place) source here = first_below place 0 Null source here
  lesser (Whole place) source here = whole_below place source (gave_up Known place) refl here
  lesser (Work place count) source here = work_source_below spans relations is moments are failures place count source here
  lesser (Tried place) source here = tried_source_below place source (relations.attempts.next place) refl here
  lesser (Limit place) source here = limit_below place source here
  lesser (Answer place) source here = answer_below place source (had_at Known.hads place).answer (interval_at relations.intervals place).end refl refl here
  lesser (Entry place count) source here = entry_below place count source here
  lesser (Join place count) source here = join_below spans relations is moments are failures place count source here
