-- When joins end: with the latest of their sources.
use Rattle.std.proofs.Common.{◌≡◌, ℕ, suc, zero, ◌+◌, ◌<◌, ◌≤◌, inl, inr, List, [], ◌∷◌, ◌++◌, length, map, Option, Some, None, refl, sym, ap, ◌∙◌, subst, arith, get_or, length-append}
use Rattle.std.specs.Prelude.{fold, slice_get, unwrap_or}
use Rattle.std.proofs.lemmas.Option.{none-some, same_Some, slice_get-get_or, slice_get_within}
use Rattle.std.specs.Option.{option_map}
use Rattle.trace_relations.specs.Moments.{end_after, end_moment}
use Rattle.trace_relations.specs.declared.moment.Interval.{Interval}
use Rattle.trace_relations.specs.declared.moment.Moment.{Moment}
use Rattle.trace_stages.specs.Outcomes.{PlainSight, join_outcome, join_outcomes, latest, outcome_at, outcome_of, with_join}
use Rattle.trace_stages.specs.Joins.{join_id}
use Rattle.trace_stages.specs.declared.walk.joins.JoinsOf.{JoinsOf}
use Rattle.trace_stages.specs.declared.walk.stage_id.StageId.{StageId}
use Rattle.trace_laws.proofs.Each.{Each, In, at-append, each-weaker}
use Rattle.trace_laws.proofs.Joining.{AreMade, Extends, Made, extends-refl, extends-trans, made-at}

abbrev TypeOf : {A : Type 0} → A → Type 0
TypeOf {A} x = A

-- the tick of an end
pub tick_of_end : (interval : Interval) (last : Moment) → end_moment interval ≡ Some last → interval.end ≡ Some last.tick
tick_of_end interval last is = at interval.end is
  where
    at : (end : Option ℕ) → option_map (end_after interval.start) end ≡ Some last → end ≡ Some last.tick
    at None is = absurd (none-some last is)
    at (Some tick) is = ap (λ m. Some m.tick) (same_Some (end_after interval.start tick) last is)

-- how a stage ends: its tick, and the exception with which it fails
abbrev pub Outcome : Type 0
Outcome = TypeOf (outcome_at [] 0)

-- ---- the latest of some

pub latest_from : (f : StageId → Outcome) (sources : List StageId) (source : StageId) → In sources source → (f source).tick ≤ latest (map f sources)
latest_from f [] source here = absurd here
latest_from f (first ∷ sources) source (inl same) = let e : (f first).tick ≡ (f source).tick = ap (λ id. (f id).tick) same in omega arith
latest_from f (first ∷ sources) source (inr later) = let rest : (f source).tick ≤ latest (map f sources) = latest_from f sources source later in omega arith

pub latest_by : (f : StageId → Outcome) (tick : ℕ) (sources : List StageId) → Each (λ source. (f source).tick ≤ tick) sources → latest (map f sources) ≤ tick
latest_by f tick [] all = omega arith
latest_by f tick (first ∷ sources) all = let here : (f first).tick ≤ tick = all.0 in let rest : latest (map f sources) ≤ tick = latest_by f tick sources all.1 in omega arith

at_end : {X : Type 0} (xs : List X) (x : X) (n : ℕ) → n ≡ length xs → slice_get (xs ++ x ∷ []) n ≡ Some x
at_end [] x zero e = refl
at_end [] x (suc n) e = absurd (omega arith)
at_end (y ∷ ys) x zero e = absurd (omega arith)
at_end (y ∷ ys) x (suc n) e = at_end ys x n (omega arith)

pub at-extends : {X : Type 0} (xs ys : List X) (k : ℕ) (x : X) → Extends xs ys → slice_get xs k ≡ Some x → slice_get ys k ≡ Some x
at-extends xs ys k x (more, is) here = ap (λ those. slice_get those k) is ∙ at-append xs more k x here

-- ---- the outcomes of joins, one after another

module _ (sight : PlainSight) where
  pub outcomes_extend : (own : List Outcome) (joins : List (List StageId)) → Extends own (fold (with_join sight) own joins)
  outcomes_extend own [] = extends-refl own
  outcomes_extend own (sources ∷ joins) =
      extends-trans own (with_join sight own sources) (fold (with_join sight) (with_join sight own sources) joins)
      (join_outcome (map (outcome_of sight own) sources) ∷ [], refl) (outcomes_extend (with_join sight own sources) joins)

  -- how a join ends, by those before it
  pub record EndsBy (all : List Outcome) (n : ℕ) (sources : List StageId) : Type 0 where
    pub before : List Outcome
    pub extends : Extends before all
    pub count : length before ≡ n
    pub is : slice_get all n ≡ Some (join_outcome (map (outcome_of sight before) sources))

  pub join_ends : (own : List Outcome) (joins : List (List StageId)) (k n : ℕ) (sources : List StageId) → n ≡ length own + k → slice_get joins k ≡ Some sources
      → EndsBy (fold (with_join sight) own joins) n sources
  join_ends own [] k n sources e here = absurd (none-some sources here)
  join_ends own (first ∷ joins) zero n sources e here =
      let same : first ≡ sources = same_Some first sources here in
      let more : Extends (with_join sight own first) (fold (with_join sight) (with_join sight own first) joins) = outcomes_extend (with_join sight own first) joins in
      let at : slice_get (with_join sight own first) n ≡ Some (join_outcome (map (outcome_of sight own) first)) = at_end own (join_outcome (map (outcome_of sight own) first)) n (omega arith) in
      record {
        before = own;
        extends = outcomes_extend own (first ∷ joins);
        count = omega arith;
        is = at-extends (with_join sight own first) (fold (with_join sight) (with_join sight own first) joins) n (join_outcome (map (outcome_of sight own) first)) more at
            ∙ ap (λ those. Some (join_outcome (map (outcome_of sight own) those))) same;
      }
  join_ends own (first ∷ joins) (suc k) n sources e here =
      let longer : length (with_join sight own first) ≡ length own + 1 = length-append own (join_outcome (map (outcome_of sight own) first) ∷ []) in
      join_ends (with_join sight own first) joins k n sources (omega (arith, longer)) here

  -- the outcome of a stage depends on no more than so many joins
  abbrev pub Settled : ℕ → StageId → Type 0
  Settled n id = (own more : List Outcome) → n ≤ length own → outcome_of sight (own ++ more) id ≡ outcome_of sight own id

  settled_map : (n : ℕ) (own more : List Outcome) (sources : List StageId) → n ≤ length own → Each (Settled n) sources → map (outcome_of sight (own ++ more)) sources ≡ map (outcome_of sight own) sources
  settled_map n own more [] le all = refl
  settled_map n own more (source ∷ sources) le all =
      ap (λ first. first ∷ map (outcome_of sight (own ++ more)) sources) (all.0 own more le) ∙ ap (λ rest. outcome_of sight own source ∷ rest) (settled_map n own more sources le all.1)

  settled_at : (own more : List Outcome) (k : ℕ) → k < length own → outcome_at (own ++ more) k ≡ outcome_at own k
  settled_at own more k lt =
      let here : slice_get own k ≡ Some (get_or own k (record { tick = 0; failure = None })) = slice_get-get_or own k (record { tick = 0; failure = None }) lt in
      ap (λ found. unwrap_or found (record { tick = 0; failure = None })) (at-append own more k (get_or own k (record { tick = 0; failure = None })) here ∙ sym here)

  -- joins of one kind, whose own outcomes are read by their numbers
  module _ (of : JoinsOf) (reads : (own : List Outcome) (k : ℕ) → outcome_of sight own (join_id of k) ≡ outcome_at own k) (Base : StageId → Type 0) (settled : (id : StageId) → Base id → Settled 0 id) where
    pub made_settled : (n : ℕ) (id : StageId) → Made of Base n id → Settled n id
    made_settled n id (inl base) own more le = settled id base own more (omega arith)
    made_settled n id (inr (k, lt, is)) own more le =
        ap (outcome_of sight (own ++ more)) is ∙ reads (own ++ more) k ∙ settled_at own more k (omega arith) ∙ sym (reads own k) ∙ sym (ap (outcome_of sight own) is)

    -- a join ends with the latest of its sources, and fails as the earliest that failed
    pub join_is : (joins : List (List StageId)) (k : ℕ) (sources : List StageId) → AreMade of Base 0 joins → slice_get joins k ≡ Some sources
        → outcome_of sight (join_outcomes sight joins) (join_id of k) ≡ join_outcome (map (outcome_of sight (join_outcomes sight joins)) sources)
    join_is joins k sources made here =
        let ends = join_ends [] joins k k sources (omega arith) here in
        let made_k : Each (Made of Base k) sources = made-at of Base 0 k k joins sources (omega arith) made here in
        let all_settled : Each (Settled k) sources = each-weaker (Made of Base k) (Settled k) (made_settled k) sources made_k in
        reads (join_outcomes sight joins) k
        ∙ ap (λ found. unwrap_or found (record { tick = 0; failure = None })) ends.is
        ∙ ap join_outcome (sym (settled_map k ends.before ends.extends.0 sources (omega (arith, ends.count)) all_settled) ∙ ap (λ own. map (outcome_of sight own) sources) (sym ends.extends.1))

    tick_of : List (List StageId) → StageId → ℕ
    tick_of joins id = (outcome_of sight (join_outcomes sight joins) id).tick

    -- so no source ends later than its join
    pub source_by_join : (joins : List (List StageId)) (k : ℕ) (sources : List StageId) (source : StageId) → AreMade of Base 0 joins → slice_get joins k ≡ Some sources → In sources source
        → (outcome_of sight (join_outcomes sight joins) source).tick ≤ (outcome_of sight (join_outcomes sight joins) (join_id of k)).tick
    source_by_join joins k sources source made here among =
        let is : (outcome_of sight (join_outcomes sight joins) (join_id of k)).tick ≡ latest (map (outcome_of sight (join_outcomes sight joins)) sources) = ap (λ outcome. outcome.tick) (join_is joins k sources made here) in
        let le : (outcome_of sight (join_outcomes sight joins) source).tick ≤ latest (map (outcome_of sight (join_outcomes sight joins)) sources) = latest_from (outcome_of sight (join_outcomes sight joins)) sources source among in
        omega arith

    -- joins of stages that end by a tick end by it
    module _ (joins before : List (List StageId)) (Early : StageId → Type 0) (tick : ℕ) (made : AreMade of Base 0 joins) (extends : Extends before joins) (early : AreMade of Early 0 before)
        (by : (id : StageId) → Early id → (outcome_of sight (join_outcomes sight joins) id).tick ≤ tick) where
      all_by : (n : ℕ) → n ≤ length before → ((k : ℕ) → k < n → (outcome_of sight (join_outcomes sight joins) (join_id of k)).tick ≤ tick) → (sources : List StageId) → Each (Made of Early n) sources
          → Each (λ source. (outcome_of sight (join_outcomes sight joins) source).tick ≤ tick) sources
      all_by n le again sources all = each-weaker (Made of Early n) (λ source. (outcome_of sight (join_outcomes sight joins) source).tick ≤ tick) (λ source. made_below n again source) sources all
        where
          made_below : (n : ℕ) → ((k : ℕ) → k < n → (outcome_of sight (join_outcomes sight joins) (join_id of k)).tick ≤ tick) → (source : StageId) → Made of Early n source
              → (outcome_of sight (join_outcomes sight joins) source).tick ≤ tick
          made_below n again source (inl base) = by source base
          made_below n again source (inr (k, lt, is)) = subst (λ id. (outcome_of sight (join_outcomes sight joins) id).tick ≤ tick) (sym is) (again k lt)

      join_by : (k : ℕ) (sources : List StageId) → slice_get before k ≡ Some sources → ((m : ℕ) → m < k → (outcome_of sight (join_outcomes sight joins) (join_id of m)).tick ≤ tick)
          → (outcome_of sight (join_outcomes sight joins) (join_id of k)).tick ≤ tick
      join_by k sources here again =
          let short : k < length before = slice_get_within before k sources here in
          let at : slice_get joins k ≡ Some sources = at-extends before joins k sources extends here in
          let is : (outcome_of sight (join_outcomes sight joins) (join_id of k)).tick ≡ latest (map (outcome_of sight (join_outcomes sight joins)) sources) = ap (λ outcome. outcome.tick) (join_is joins k sources made at) in
          let made_k : Each (Made of Early k) sources = made-at of Early 0 k k before sources (omega arith) early here in
          let le : latest (map (outcome_of sight (join_outcomes sight joins)) sources) ≤ tick = latest_by (outcome_of sight (join_outcomes sight joins)) tick sources (all_by k (omega arith) again sources made_k) in
          omega arith

      joins_by : (n k : ℕ) → k < n → k < length before → (outcome_of sight (join_outcomes sight joins) (join_id of k)).tick ≤ tick
      joins_by zero k lt short = absurd (omega arith)
      joins_by (suc n) k lt short = join_by k (get_or before k []) (slice_get-get_or before k [] short) (λ m less. joins_by n m (omega arith) (omega arith))

      pub made_by : (id : StageId) → Made of Early (length before) id → (outcome_of sight (join_outcomes sight joins) id).tick ≤ tick
      made_by id (inl base) = by id base
      made_by id (inr (k, lt, is)) =
          let at : (outcome_of sight (join_outcomes sight joins) (join_id of k)).tick ≤ tick = joins_by (suc k) k (omega arith) lt in
          subst (λ those. (outcome_of sight (join_outcomes sight joins) those).tick ≤ tick) (sym is) at
