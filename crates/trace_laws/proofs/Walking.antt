-- What a span has: its own start, calls that have ended, its own work, or joins of these.
use Rattle.std.proofs.Common.{◌≡◌, ℕ, ◌+◌, ◌*◌, ◌<◌, ◌≤◌, inl, inr, List, [], ◌∷◌, ◌++◌, Bool, true, false, cond, length, Option, Some, None, refl, sym, ap, ◌∙◌, subst, arith, length-append}
use Rattle.std.specs.Prelude.{◌⊎◌, IfSome, max, nat_lt, slice_get, unwrap_or}
use Rattle.std.proofs.lemmas.Bool.{ltb-true}
use Rattle.trace_stages.specs.Joins.{PlainJoined, joined_of}
use Rattle.trace_stages.specs.Held.{PlainHolding, looked, looked_at, looked_with, opening, sources_of}
use Rattle.trace_stages.specs.OwnWork.{with_work, worked}
use Rattle.trace_stages.specs.Walk.{after, begun_by, ended_by}
use Rattle.trace_stages.specs.declared.walk.event.Event.{Event}
use Rattle.trace_stages.specs.declared.walk.event.Event.TheVariants.{Starts, Ends}
use Rattle.trace_stages.specs.declared.walk.holding.Begin.{Begin}
use Rattle.trace_stages.specs.declared.walk.holding.OwnWork.{OwnWork}
use Rattle.trace_stages.specs.declared.walk.joins.JoinsOf.TheVariants as joins_of
use Rattle.trace_stages.specs.declared.walk.stage_id.StageId.{StageId}
use Rattle.trace_stages.specs.declared.walk.stage_id.StageId.TheVariants.{Start, Work}
use Rattle.trace_laws.proofs.Each.{Each, at-append, each-append, each-push, each-weaker}
use Rattle.trace_laws.proofs.Joining.{AreMade, Extends, Joins, Made, are_made-weaker, extends-refl, extends-trans, joins_made, made-later, made-weaker}

-- own work that ended by a number, and by a tick
pub record WorkedBy (works : List OwnWork) (now reached count : ℕ) : Type 0 where
  pub work : OwnWork
  pub is : slice_get works count ≡ Some work
  pub by : work.until * 3 + 1 ≤ now
  pub reaches : work.until ≤ reached

-- the start of a span, one of those stages, or its own work
abbrev pub Base : ℕ → (StageId → Type 0) → (ℕ → Type 0) → StageId → Type 0
Base span Ended Worked id = (id ≡ Start span) ⊎ (Ended id ⊎ ((count : ℕ) × Worked count × (id ≡ Work span count)))

pub base-weaker : (span : ℕ) (Ended Other : StageId → Type 0) (Worked More : ℕ → Type 0) → ((id : StageId) → Ended id → Other id) → ((count : ℕ) → Worked count → More count) → (id : StageId)
    → Base span Ended Worked id → Base span Other More id
base-weaker span Ended Other Worked More then works id (inl start) = inl start
base-weaker span Ended Other Worked More then works id (inr (inl ended)) = inr (inl (then id ended))
base-weaker span Ended Other Worked More then works id (inr (inr (count, worked, is))) = inr (inr (count, works count worked, is))

at_last : {X : Type 0} (xs : List X) (x : X) → slice_get (xs ++ x ∷ []) (length xs) ≡ Some x
at_last [] x = refl
at_last (y ∷ ys) x = at_last ys x

worked-more : (works others : List OwnWork) (now later reached further : ℕ) → Extends works others → now ≤ later → reached ≤ further → (count : ℕ) → WorkedBy works now reached count → WorkedBy others later further count
worked-more works others now later reached further (more, is) le up count worked = record {
  work = worked.work;
  is = ap (λ those. slice_get those count) is ∙ at-append works more count worked.work worked.is;
  by = let by : worked.work.until * 3 + 1 ≤ now = worked.by in omega arith;
  reaches = let reaches : worked.work.until ≤ reached = worked.reaches in omega arith;
}

module _ (span : ℕ) (EndedBy : ℕ → ℕ → StageId → Type 0) (time : ℕ → ℕ) (Inside : ℕ → Type 0)
    (later : (now further reached more : ℕ) → now ≤ further → reached ≤ more → (id : StageId) → EndedBy now reached id → EndedBy further more id) where
  -- a stage of a span by a number and a tick
  abbrev pub BaseBy : List OwnWork → ℕ → ℕ → StageId → Type 0
  BaseBy works now reached id = Base span (EndedBy now reached) (WorkedBy works now reached) id

  abbrev pub Source : List OwnWork → ℕ → ℕ → ℕ → StageId → Type 0
  Source works now reached j id = Made (joins_of.Holding span) (BaseBy works now reached) j id

  -- a stage is made of what had ended by a number and a tick, and is there for good
  pub record IsWellMade (joins : List (List StageId)) (works : List OwnWork) (now reached : ℕ) (id : StageId) : Type 0 where
    pub before : List (List StageId)
    pub those : List OwnWork
    pub extends : Extends before joins
    pub more : Extends those works
    pub made : AreMade (joins_of.Holding span) (BaseBy those now reached) 0 before
    pub «from» : Source those now reached (length before) id

  -- what a span begins from had ended before it starts
  pub record BeginsWell (joins : List (List StageId)) (works : List OwnWork) (begin : Begin) : Type 0 where
    pub reached : ℕ
    pub well : IsWellMade joins works (time begin.span) reached begin.from
    pub inside : Inside begin.span

  -- what own work comes after had ended before that ends, which is when another span starts
  pub record WorksWell (joins : List (List StageId)) (works : List OwnWork) (work : OwnWork) : Type 0 where
    pub now : ℕ
    pub reached : ℕ
    pub well : IsWellMade joins works now reached work.after
    pub sooner : reached < work.until
    pub since : time span ≤ reached * 3 + 1
    pub child : ℕ
    pub inside : Inside child
    pub at : work.until * 3 + 1 ≡ time child

  -- what a span has by a number
  pub record Has (now : ℕ) (holding : PlainHolding) : Type 0 where
    pub has : Source holding.works now holding.reached (length holding.joins) holding.has
    pub ended : Each (EndedBy now holding.reached) holding.ended
    pub joins : AreMade (joins_of.Holding span) (BaseBy holding.works now holding.reached) 0 holding.joins
    pub begins : Each (BeginsWell holding.joins holding.works) holding.begins
    pub works : Each (WorksWell holding.joins holding.works) holding.works
    pub since : time span ≤ holding.reached * 3 + 1
    pub unanswered : holding.answer ≡ None

  well-extend : (joins more : List (List StageId)) (works others : List OwnWork) (now reached : ℕ) (id : StageId) → Extends joins more → Extends works others → IsWellMade joins works now reached id → IsWellMade more others now reached id
  well-extend joins more works others now reached id extends further well = record {
    before = well.before;
    those = well.those;
    extends = extends-trans well.before joins more well.extends extends;
    more = extends-trans well.those works others well.more further;
    made = well.made;
    «from» = well.from;
  }

  pub begins-extend : (joins more : List (List StageId)) (works others : List OwnWork) → Extends joins more → Extends works others → (begin : Begin) → BeginsWell joins works begin → BeginsWell more others begin
  begins-extend joins more works others extends further begin begins =
      record { reached = begins.reached; well = well-extend joins more works others (time begin.span) begins.reached begin.from extends further begins.well; inside = begins.inside }

  pub works-extend : (joins more : List (List StageId)) (works others : List OwnWork) → Extends joins more → Extends works others → (work : OwnWork) → WorksWell joins works work → WorksWell more others work
  works-extend joins more works others extends further work well = record {
    now = well.now;
    reached = well.reached;
    well = well-extend joins more works others well.now well.reached work.after extends further well.well;
    sooner = well.sooner;
    since = well.since;
    child = well.child;
    inside = well.inside;
    at = well.at;
  }

  base-later : (works others : List OwnWork) (now further reached more : ℕ) → Extends works others → now ≤ further → reached ≤ more → (id : StageId) → BaseBy works now reached id → BaseBy others further more id
  base-later works others now further reached more extends le up =
      base-weaker span (EndedBy now reached) (EndedBy further more) (WorkedBy works now reached) (WorkedBy others further more) (later now further reached more le up) (worked-more works others now further reached more extends le up)

  joins-later : (works others : List OwnWork) (now further reached more : ℕ) → Extends works others → now ≤ further → reached ≤ more → (joins : List (List StageId))
      → AreMade (joins_of.Holding span) (BaseBy works now reached) 0 joins → AreMade (joins_of.Holding span) (BaseBy others further more) 0 joins
  joins-later works others now further reached more extends le up joins made =
      are_made-weaker (joins_of.Holding span) (BaseBy works now reached) (BaseBy others further more) (base-later works others now further reached more extends le up) 0 joins made

  source-later : (works others : List OwnWork) (now further reached more n : ℕ) → Extends works others → now ≤ further → reached ≤ more → (id : StageId) → Source works now reached n id → Source others further more n id
  source-later works others now further reached more n extends le up id source =
      made-weaker (joins_of.Holding span) (BaseBy works now reached) (BaseBy others further more) (base-later works others now further reached more extends le up) n id source

  pub opening_has : (now start : ℕ) → time span ≤ start * 3 + 1 → Has now (opening span start)
  opening_has now start since = record { has = inl (inl refl); ended = tt; joins = tt; begins = tt; works = tt; since = since; unanswered = refl }

  pub later_has : (now further : ℕ) (holding : PlainHolding) → now ≤ further → Has now holding → Has further holding
  later_has now further holding le here = record {
    has = source-later holding.works holding.works now further holding.reached holding.reached (length holding.joins) (extends-refl holding.works) le (omega arith) holding.has here.has;
    ended = each-weaker (EndedBy now holding.reached) (EndedBy further holding.reached) (later now further holding.reached holding.reached le (omega arith)) holding.ended here.ended;
    joins = joins-later holding.works holding.works now further holding.reached holding.reached (extends-refl holding.works) le (omega arith) holding.joins here.joins;
    begins = here.begins;
    works = here.works;
    since = here.since;
    unanswered = here.unanswered;
  }

  own : (now n : ℕ) (holding : PlainHolding) (id : StageId) (used : Bool) → Source holding.works now holding.reached n id → Each (Source holding.works now holding.reached n) (cond used [] (id ∷ []))
  own now n holding id true source = tt
  own now n holding id false source = (source, tt)

  sources_has : (now : ℕ) (holding : PlainHolding) → Has now holding → Each (Source holding.works now holding.reached (length holding.joins)) (sources_of holding)
  sources_has now holding here =
      each-append (Source holding.works now holding.reached (length holding.joins)) (cond holding.is_used [] (holding.has ∷ [])) holding.ended
      (own now (length holding.joins) holding holding.has holding.is_used here.has)
      (each-weaker (EndedBy now holding.reached) (Source holding.works now holding.reached (length holding.joins)) (λ id ended. inl (inr (inl ended))) holding.ended here.ended)

  stage_has : (works : List OwnWork) (now reached n m : ℕ) (id : StageId) (stage : Option StageId) → n ≤ m → Source works now reached n id → IfSome stage (Source works now reached m) → Source works now reached m (unwrap_or stage id)
  stage_has works now reached n m id None le source here = made-later (joins_of.Holding span) (BaseBy works now reached) n m le id source
  stage_has works now reached n m id (Some other) le source here = here

  looked_with_has : (now : ℕ) (holding : PlainHolding) (joined : PlainJoined) → Has now holding → Joins (joins_of.Holding span) (BaseBy holding.works now holding.reached) holding.joins joined → Has now (looked_with holding joined)
  looked_with_has now holding joined here joins =
      let count : length joined.joins ≡ length holding.joins + length joins.extends.0 = ap length joins.extends.1 ∙ length-append holding.joins joins.extends.0 in
      record {
        has = stage_has holding.works now holding.reached (length holding.joins) (length joined.joins) holding.has joined.stage (omega (arith, count)) here.has joins.stage;
        ended = tt;
        joins = joins.joins;
        begins = each-weaker (BeginsWell holding.joins holding.works) (BeginsWell joined.joins holding.works) (begins-extend holding.joins joined.joins holding.works holding.works joins.extends (extends-refl holding.works)) holding.begins here.begins;
        works = each-weaker (WorksWell holding.joins holding.works) (WorksWell joined.joins holding.works) (works-extend holding.joins joined.joins holding.works holding.works joins.extends (extends-refl holding.works)) holding.works here.works;
        since = here.since;
        unanswered = here.unanswered;
      }

  looked_at_has : (now : ℕ) (holding : PlainHolding) (ended : List StageId) → Has now holding → Has now (looked_at span holding ended)
  looked_at_has now holding [] here = here
  looked_at_has now holding (stage ∷ stages) here =
      looked_with_has now holding (joined_of (joins_of.Holding span) holding.joins (sources_of holding)) here
      (joins_made (joins_of.Holding span) (BaseBy holding.works now holding.reached) holding.joins (sources_of holding) here.joins (sources_has now holding here))

  pub looked_has : (now : ℕ) (holding : PlainHolding) → Has now holding → Has now (looked span holding)
  looked_has now holding here = looked_at_has now holding holding.ended here

  -- own work until a child starts
  work_has : (now tick child : ℕ) (holding : PlainHolding) → now ≡ time child → now ≡ tick * 3 + 1 → Inside child → holding.reached < tick → Has now holding → Has now (with_work span holding tick)
  work_has now tick child holding at same inside sooner here =
      let further : Extends holding.works (with_work span holding tick).works = (record { after = holding.has; until = tick } ∷ [], refl) in
      record {
        has = inl (inr (inr (length holding.works, record { work = record { after = holding.has; until = tick }; is = at_last holding.works (record { after = holding.has; until = tick }); by = omega arith; reaches = omega arith }, refl)));
        ended = each-weaker (EndedBy now holding.reached) (EndedBy now tick) (later now now holding.reached tick (omega arith) (omega arith)) holding.ended here.ended;
        joins = joins-later holding.works (with_work span holding tick).works now now holding.reached tick further (omega arith) (omega arith) holding.joins here.joins;
        begins = each-weaker (BeginsWell holding.joins holding.works) (BeginsWell holding.joins (with_work span holding tick).works)
            (begins-extend holding.joins holding.joins holding.works (with_work span holding tick).works (extends-refl holding.joins) further) holding.begins here.begins;
        works = each-push (WorksWell holding.joins (with_work span holding tick).works) holding.works (record { after = holding.has; until = tick })
            (each-weaker (WorksWell holding.joins holding.works) (WorksWell holding.joins (with_work span holding tick).works)
            (works-extend holding.joins holding.joins holding.works (with_work span holding tick).works (extends-refl holding.joins) further) holding.works here.works)
            (record {
              now = now;
              reached = holding.reached;
              well = record { before = holding.joins; those = holding.works; extends = extends-refl holding.joins; more = further; made = here.joins; «from» = here.has };
              sooner = sooner;
              since = here.since;
              child = child;
              inside = inside;
              at = sym same ∙ at;
            });
        since = let since : time span ≤ holding.reached * 3 + 1 = here.since in omega arith;
        unanswered = here.unanswered;
      }

  worked_has : (now tick child : ℕ) (holding : PlainHolding) → now ≡ time child → now ≡ tick * 3 + 1 → Inside child → Has now holding → Has now (worked span holding tick)
  worked_has now tick child holding at same inside here = by_test (nat_lt holding.reached tick) refl
    where
      by_test : (b : Bool) → nat_lt holding.reached tick ≡ b → Has now (cond b (with_work span holding tick) holding)
      by_test true is = work_has now tick child holding at same inside (ltb-true holding.reached tick is) here
      by_test false is = here

  begun_has : (now child : ℕ) (holding : PlainHolding) → now ≡ time child → Inside child → Has now holding → Has now (begun_by child holding)
  begun_has now child holding at inside here = record {
    has = here.has;
    ended = here.ended;
    joins = here.joins;
    begins = each-push (BeginsWell holding.joins holding.works) holding.begins (record { span = child; from = holding.has }) here.begins (record {
      reached = holding.reached;
      well = subst (λ t. IsWellMade holding.joins holding.works t holding.reached holding.has) at
          (record { before = holding.joins; those = holding.works; extends = extends-refl holding.joins; more = extends-refl holding.works; made = here.joins; «from» = here.has });
      inside = inside;
    });
    works = here.works;
    since = here.since;
    unanswered = here.unanswered;
  }

  ended_has : (now place tick : ℕ) (stage : StageId) (holding : PlainHolding) → EndedBy now tick stage → Has now holding → Has now (ended_by place stage tick holding)
  ended_has now place tick stage holding ended here = record {
    has = source-later holding.works holding.works now now holding.reached (max holding.reached tick) (length holding.joins) (extends-refl holding.works) (omega arith) (omega arith) holding.has here.has;
    ended = each-push (EndedBy now (max holding.reached tick)) holding.ended stage
        (each-weaker (EndedBy now holding.reached) (EndedBy now (max holding.reached tick)) (later now now holding.reached (max holding.reached tick) (omega arith) (omega arith)) holding.ended here.ended)
        (later now now tick (max holding.reached tick) (omega arith) (omega arith) stage ended);
    joins = joins-later holding.works holding.works now now holding.reached (max holding.reached tick) (extends-refl holding.works) (omega arith) (omega arith) holding.joins here.joins;
    begins = here.begins;
    works = here.works;
    since = let since : time span ≤ holding.reached * 3 + 1 = here.since in omega arith;
    unanswered = here.unanswered;
  }

  -- the time of an event, and that it happens in the span
  abbrev pub HappensAt : ℕ → Event → Type 0
  HappensAt now (Starts place tick) = (now ≡ time place) × (now ≡ tick * 3 + 1) × Inside place
  HappensAt now (Ends place stage tick) = EndedBy now tick stage

  pub after_has : (now : ℕ) (holding : PlainHolding) (event : Event) → HappensAt now event → Has now holding → Has now (after span holding event)
  after_has now holding (Starts place tick) (at, same, inside) here =
      begun_has now place (worked span (looked span holding) tick) at inside (worked_has now tick place (looked span holding) at same inside (looked_has now holding here))
  after_has now holding (Ends place stage tick) ended here = ended_has now place tick stage holding ended here
