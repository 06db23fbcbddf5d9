-- Lists of origins, with one place more.
use Rattle.std.proofs.Common.{◌≡◌, ℕ, ◌+◌, ◌<◌, ◌≢◌, Bool, true, false, cond, List, [], ◌∷◌, ◌++◌, length, get_or, set, Option, Some, None, refl, ap, sym, ◌∙◌, subst, inl, inr, arith, append-nil, length-set}
use Rattle.std.specs.Prelude.{filter, not, ◌&&◌, ◌||◌, ◌==◌, slice_get}
use Rattle.std.specs.List.{list_any, range_with_len}
use Rattle.std.specs.Option.{option_to_list}
use Rattle.std.proofs.lemmas.Bool.{cases_Bool, and_from, or_right, true≢false, ne_eqb, eq-eqb}
use Rattle.std.proofs.lemmas.List.{get_or_default}
use Rattle.std.proofs.lemmas.List.Folds.{list_any-append}
use Rattle.stage_graph.specs.declared.stage.Stage.{Stage}
use Rattle.stage_graph.specs.Plain.{PlainGraph}
use Rattle.stage_graph.proofs.Lists.{set_cases}
use Rattle.stage_ops.specs.declared.state.Reads.{Reads}
use Rattle.stage_ops.specs.declared.state.Reads.TheVariants.{Sources, Picked}
use Rattle.stage_ops.specs.Java.{java_step}
use Rattle.scratch_eval.proofs.Querying.{passing_more}
use Rattle.rank_order.specs.Lists.{is_among}
use Rattle.rank_order.proofs.Members.{false_unless, among_filter, among_range}
use Rattle.propagate.specs.Reach.{read_places, reads_at}
use Rattle.failure_origins.specs.Lists.{is_reached_by, handles_after, handles_by, AreLists, AreListsWith}
use Rattle.failure_origins.specs.Origins.{comes_from, is_from, origin_at}

or_false : (b : Bool) → (b || false) ≡ b
or_false true = refl
or_false false = refl

and_false : (a b : Bool) → b ≡ false → (a && b) ≡ false
and_false true b is = is
and_false false b is = refl

-- ---- lists at one place

module _ (passes : ℕ → ℕ → Bool) (place count : ℕ) where
  -- the place is not among those before it
  not_before : (origin : ℕ) → is_among place (filter (passes origin) (range_with_len 0 place)) ≡ false
  not_before origin = false_unless (is_among place (filter (passes origin) (range_with_len 0 place))) (λ among.
      let below : place < 0 + place = (among_range place 0 place (among_filter (passes origin) place (range_with_len 0 place) among).0).1 in
      omega arith)

  -- it stands in none at first
  pub begun : (lists : List (List ℕ)) (has : ℕ → Bool) → ((origin : ℕ) → has origin ≡ false) → AreLists passes place count lists → AreListsWith passes place has count lists
  begun lists has none are = record {
    long = are.long;
    each = λ origin within.
        let front = filter (passes origin) (range_with_len 0 place) in
        are.each origin within ∙ sym (append-nil front) ∙ ap (λ (b : Bool). front ++ cond b (place ∷ []) []) (sym (none origin));
  }

  -- it stands at last in those whose test it passes
  ended : (lists : List (List ℕ)) (has : ℕ → Bool) → ((origin : ℕ) → has origin ≡ passes origin place) → AreListsWith passes place has count lists → AreLists passes (place + 1) count lists
  ended lists has same are = record {
    long = are.long;
    each = λ origin within.
        let front = filter (passes origin) (range_with_len 0 place) in
        are.each origin within ∙ ap (λ (b : Bool). front ++ cond b (place ∷ []) []) (same origin) ∙ sym (passing_more (passes origin) place);
  }

  -- it is added to one list
  one_list : (lists : List (List ℕ)) (has other : ℕ → Bool) (origin : ℕ) (list : List ℕ) → origin < length lists → list ≡ filter (passes origin) (range_with_len 0 place) ++ place ∷ []
      → other origin ≡ true → ((another : ℕ) → another ≢ origin → has another ≡ other another)
      → AreListsWith passes place has count lists → AreListsWith passes place other count (set lists origin list)
  one_list lists has other origin list within is here elsewhere are = record {
    long = length-set lists origin list ∙ are.long;
    each = λ another inside.
        let front = filter (passes another) (range_with_len 0 place) in
        elim (set_cases lists origin another list [] within) [
          | inl (same, now) ↦ now ∙ is ∙ ap (λ (origin : ℕ). filter (passes origin) (range_with_len 0 place) ++ place ∷ []) (sym same)
              ∙ ap (λ (b : Bool). front ++ cond b (place ∷ []) []) (sym (ap other same ∙ here))
          | inr (apart, now) ↦ now ∙ are.each another inside ∙ ap (λ (b : Bool). front ++ cond b (place ∷ []) []) (elsewhere another apart)
        ];
  }

-- ---- origins

is_from_other : (known origin : ℕ) → origin ≢ known → is_from origin (Some known) ≡ false
is_from_other known origin apart = ne_eqb known origin (λ same. apart (sym same))

is_from_same : (known : ℕ) → is_from known (Some known) ≡ true
is_from_same known = eq-eqb known known refl

module _ (origins : List (Option ℕ)) where
  from_none : (place : ℕ) → origin_at origins place ≡ None → (origin : ℕ) → comes_from origins origin place ≡ false
  from_none place none origin = ap (is_from origin) none

  from_known : (place known : ℕ) → origin_at origins place ≡ Some known → comes_from origins known place ≡ true
  from_known place known is = ap (is_from known) is ∙ is_from_same known

  from_other : (place known : ℕ) → origin_at origins place ≡ Some known → (origin : ℕ) → origin ≢ known → comes_from origins origin place ≡ false
  from_other place known is origin apart = ap (is_from origin) is ∙ is_from_other known origin apart

  -- a place that holds no exception is reached by none
  pub reached_none : (place : ℕ) → origin_at origins place ≡ None → (origin : ℕ) → is_reached_by origins origin place ≡ false
  reached_none place none origin = and_false (not (place == origin)) (comes_from origins origin place) (from_none place none origin)

  -- nor is the origin
  pub reached_itself : (place : ℕ) → origin_at origins place ≡ Some place → (origin : ℕ) → is_reached_by origins origin place ≡ false
  reached_itself place own origin = elim (cases_Bool (place == origin)) [
    | inl same ↦ ap (λ (b : Bool). not b && comes_from origins origin place) same
    | inr apart ↦ ap (λ (b : Bool). not b && comes_from origins origin place) apart ∙ from_other place place own origin (λ same. true≢false (sym (eq-eqb place origin (sym same)) ∙ apart))
  ]

  reached_by : (place known : ℕ) → origin_at origins place ≡ Some known → known ≢ place → is_reached_by origins known place ≡ true
  reached_by place known is apart =
      ap (λ (b : Bool). not b && comes_from origins known place) (ne_eqb place known (λ same. apart (sym same))) ∙ from_known place known is

  reached_other : (place known : ℕ) → origin_at origins place ≡ Some known → (origin : ℕ) → origin ≢ known → false ≡ is_reached_by origins origin place
  reached_other place known is origin apart = sym (and_false (not (place == origin)) (comes_from origins origin place) (from_other place known is origin apart))

  -- one feed more is read
  read_more : (read : List ℕ) (feed place origin : ℕ) → handles_after origins (read ++ feed ∷ []) place origin ≡ ((list_any (comes_from origins origin) read || comes_from origins origin feed) && not (comes_from origins origin place))
  read_more read feed place origin =
      ap (λ (b : Bool). b && not (comes_from origins origin place))
      (list_any-append (comes_from origins origin) read (feed ∷ []) ∙ ap (λ (b : Bool). list_any (comes_from origins origin) read || b) (or_false (comes_from origins origin feed)))

  -- it changes nothing where it does not come from the origin
  read_other : (read : List ℕ) (feed place origin : ℕ) → comes_from origins origin feed ≡ false → handles_after origins read place origin ≡ handles_after origins (read ++ feed ∷ []) place origin
  read_other read feed place origin other = sym (
      read_more read feed place origin
      ∙ ap (λ (b : Bool). b && not (comes_from origins origin place)) (ap (λ (b : Bool). list_any (comes_from origins origin) read || b) other ∙ or_false (list_any (comes_from origins origin) read)))

  -- the place handles the exception of a feed that it has read
  read_handled : (read : List ℕ) (feed place known : ℕ) → origin_at origins feed ≡ Some known → comes_from origins known place ≡ false → handles_after origins (read ++ feed ∷ []) place known ≡ true
  read_handled read feed place known is other =
      read_more read feed place known
      ∙ and_from (list_any (comes_from origins known) read || comes_from origins known feed) (not (comes_from origins known place))
      (or_right (list_any (comes_from origins known) read) (comes_from origins known feed) (from_known feed known is)) (ap not other)

-- ---- what is added for one place

module _ (origins : List (Option ℕ)) (place : ℕ) where
  -- it belongs to no list
  pub reached_kept : (lists : List (List ℕ)) → ((origin : ℕ) → is_reached_by origins origin place ≡ false) → (count : ℕ)
      → AreLists (is_reached_by origins) place count lists → AreLists (is_reached_by origins) (place + 1) count lists
  reached_kept lists none count are =
      ended (is_reached_by origins) place count lists (λ origin. false) (λ origin. sym (none origin)) (begun (is_reached_by origins) place count lists (λ origin. false) (λ origin. refl) are)

  -- it belongs to the list of one origin
  pub reached_added : (known : ℕ) (lists : List (List ℕ)) (was now : List ℕ) → origin_at origins place ≡ Some known → known ≢ place → known < length lists → was ≡ get_or lists known was → now ≡ was ++ place ∷ []
      → (count : ℕ) → AreLists (is_reached_by origins) place count lists → AreLists (is_reached_by origins) (place + 1) count (set lists known now)
  reached_added known lists was now is apart within read pushed count are =
      let inside : known < count = subst (λ (n : ℕ). known < n) are.long within in
      let front : was ≡ filter (is_reached_by origins known) (range_with_len 0 place) = read ∙ get_or_default lists known was [] within ∙ are.each known inside in
      ended (is_reached_by origins) place count (set lists known now) (λ origin. is_reached_by origins origin place) (λ origin. refl)
      (one_list (is_reached_by origins) place count lists (λ origin. false) (λ origin. is_reached_by origins origin place) known now within (pushed ∙ ap (λ (xs : List ℕ). xs ++ place ∷ []) front)
      (reached_by origins place known is apart) (λ origin other. reached_other origins place known is origin other)
      (begun (is_reached_by origins) place count lists (λ origin. false) (λ origin. refl) are))

  -- it has read one feed more, and is added once
  pub feed_added : (feed known : ℕ) (lists : List (List ℕ)) (was now : List ℕ) → origin_at origins feed ≡ Some known → comes_from origins known place ≡ false → known < length lists → was ≡ get_or lists known was
      → ((front : List ℕ) (stands : Bool) → is_among place front ≡ false → was ≡ front ++ cond stands (place ∷ []) [] → now ≡ front ++ place ∷ [])
      → (passes : ℕ → ℕ → Bool) (count : ℕ) (read : List ℕ) → AreListsWith passes place (handles_after origins read place) count lists
      → AreListsWith passes place (handles_after origins (read ++ feed ∷ []) place) count (set lists known now)
  feed_added feed known lists was now is other within here once passes count read are =
      let inside : known < count = subst (λ (n : ℕ). known < n) are.long within in
      let stood : was ≡ filter (passes known) (range_with_len 0 place) ++ cond (handles_after origins read place known) (place ∷ []) [] = here ∙ get_or_default lists known was [] within ∙ are.each known inside in
      one_list passes place count lists (handles_after origins read place) (handles_after origins (read ++ feed ∷ []) place) known now within
      (once (filter (passes known) (range_with_len 0 place)) (handles_after origins read place known) (not_before passes place count known) stood)
      (read_handled origins read feed place known is other)
      (λ origin apart. read_other origins read feed place origin (from_other origins feed known is origin apart))
      are

  -- it has read these feeds, and then one more
  pub feeds_added : (feeds : List ℕ) (feed : ℕ) (lists middle more : List (List ℕ)) (read : List ℕ) → read ≡ feeds ++ feed ∷ []
      → ((passes : ℕ → ℕ → Bool) (count : ℕ) → AreListsWith passes place (handles_after origins [] place) count lists → AreListsWith passes place (handles_after origins feeds place) count middle)
      → ((passes : ℕ → ℕ → Bool) (count : ℕ) (read : List ℕ) → AreListsWith passes place (handles_after origins read place) count middle → AreListsWith passes place (handles_after origins (read ++ feed ∷ []) place) count more)
      → (passes : ℕ → ℕ → Bool) (count : ℕ) → AreListsWith passes place (handles_after origins [] place) count lists → AreListsWith passes place (handles_after origins read place) count more
  feeds_added feeds feed lists middle more read is first last passes count are =
      subst (λ (read : List ℕ). AreListsWith passes place (handles_after origins read place) count more) (sym is) (last passes count feeds (first passes count are))

  -- it has read all that it has
  pub handled_added : (graph : PlainGraph) (lists more : List (List ℕ)) (read : List ℕ) → read ≡ reads_at (java_step graph.mode) graph.places place
      → ((passes : ℕ → ℕ → Bool) (count : ℕ) → AreListsWith passes place (handles_after origins [] place) count lists → AreListsWith passes place (handles_after origins read place) count more)
      → (count : ℕ) → AreLists (handles_by graph origins) place count lists → AreLists (handles_by graph origins) (place + 1) count more
  handled_added graph lists more read is step count are =
      ended (handles_by graph origins) place count more (handles_after origins read place) (λ origin. ap (λ (read : List ℕ). handles_after origins read place origin) is)
      (step (handles_by graph origins) count (begun (handles_by graph origins) place count lists (handles_after origins [] place) (λ origin. refl) are))

-- the places that a stage has read
module _ (stage : Stage) (reads : Reads) (sources : List ℕ) (own : sources ≡ stage.sources) where
  pub read_sources : reads ≡ Sources → read_places stage reads ≡ sources
  read_sources is = ap (read_places stage) is ∙ sym own

  pub read_picked : (index feed : ℕ) → reads ≡ Picked index → slice_get stage.inner index ≡ Some feed → read_places stage reads ≡ sources ++ feed ∷ []
  read_picked index feed is there =
      ap (read_places stage) is ∙ ap (λ (picked : Option ℕ). stage.sources ++ option_to_list picked) there ∙ ap (λ (sources : List ℕ). sources ++ feed ∷ []) (sym own)

  pub read_past : (index : ℕ) → reads ≡ Picked index → slice_get stage.inner index ≡ None → read_places stage reads ≡ sources
  read_past index is none =
      ap (read_places stage) is ∙ ap (λ (picked : Option ℕ). stage.sources ++ option_to_list picked) none ∙ append-nil stage.sources ∙ sym own
