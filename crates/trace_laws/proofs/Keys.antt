-- Keys of stages: lists of numbers, of which each source of a stage has a lesser one.
use Rattle.std.proofs.Common.{◌≡◌, ℕ, suc, ◌+◌, ◌-◌, ◌*◌, ◌<◌, ◌≤◌, inl, inr, List, [], ◌∷◌, ◌++◌, length, map, Option, Some, None, refl, sym, ap, ◌∙◌, subst, arith}
use Rattle.std.specs.Prelude.{◌⊎◌, min, slice_get, unwrap_or}
use Rattle.std.specs.List.{range_with_len}
use Rattle.std.specs.Option.{option_map}
use Rattle.std.proofs.lemmas.Bool.{cases_lt}
use Rattle.std.proofs.lemmas.Option.{none-some, same_Some, slice_get-map}
use Rattle.trace_relations.specs.Ancestry.{line, most_spans, parent_at, start_at}
use Rattle.trace_relations.specs.Attempts.{Attempts}
use Rattle.trace_relations.specs.Moments.{end_moment, interval_at, turn_number}
use Rattle.trace_relations.specs.Parents.{all_references}
use Rattle.trace_relations.specs.Relations.{PlainRelations, parent_meant}
use Rattle.trace_relations.specs.declared.as_told.AsTold.{AsTold}
use Rattle.trace_relations.specs.declared.hosts.Host.TheVariants.{Inside}
use Rattle.trace_relations.specs.declared.moment.Interval.{Interval}
use Rattle.trace_relations.specs.declared.moment.Moment.{Moment}
use Rattle.trace_spans.specs.declared.span.Span.{Span}
use Rattle.trace_stages.specs.HandedOn.{all_handed}
use Rattle.trace_stages.specs.Known.{PlainHad, PlainKnown, had_at}
use Rattle.trace_stages.specs.Moments.{AreMoments, At}
use Rattle.trace_stages.specs.Outcomes.{PlainSight, join_outcomes, outcome_of, work_end}
use Rattle.trace_stages.specs.Scene.{PlainScene, scene_of, span_joins}
use Rattle.trace_stages.specs.StagesOf.{had, known_of}
use Rattle.trace_stages.specs.declared.stage.Exception.{Exception}
use Rattle.trace_stages.specs.declared.walk.holding.OwnWork.{OwnWork}
use Rattle.trace_stages.specs.declared.walk.stage_id.StageId.{StageId}
use Rattle.trace_stages.specs.declared.walk.stage_id.StageId.TheVariants.{Start, Whole, Entry, Join, Work, Tried, Limit, Answer}
use Rattle.trace_laws.proofs.Climbing.{ancestor_shallower, ancestors_after, ancestors_step, deeper, depth, shallow}
use Rattle.trace_laws.proofs.Dictionary.{AreLater, Below, IsAbove, Key, behind, behind-append, behind-below, behind-same, marked_if, marked_if-up_to, marked-lower, up_to-below}
use Rattle.trace_laws.proofs.Each.{each-weaker}
use Rattle.trace_laws.proofs.GivingUp.{GaveUp, gave_up_is}
use Rattle.trace_laws.proofs.Numbers.{end_number, number, number_or, start_number}
use Rattle.trace_laws.proofs.Relations.{HasHost, IsFamily, Parents, Waits, above_below, child_below, end_turn_at, ended_place, inside_is, mapped_range, parents_within, start_before_end, within_number}

-- ---- numbers: a moment is worth 262,144, a span less deep than 65,536

before_start : (t u a : ℕ) → (u ≡ 0) ⊎ (u ≡ 2) → t * 3 + u ≤ a * 3 + 1 → t * 3 + u < a * 3 + 1
before_start t u a (inl none) le = omega arith
before_start t u a (inr two) le = omega arith

pub end_then_start : (n m d e : ℕ) → n < m → n * 262_144 + (131_072 - d * 2) + 1 < m * 262_144 + e
end_then_start n m d e lt = omega arith

pub start_then_start : (n m d e : ℕ) → n ≤ m → d < e → n * 262_144 + d < m * 262_144 + e
start_then_start n m d e le lt = omega arith

end_then_end : (n m d e : ℕ) → n ≤ m → d ≡ suc e → d < 65_536 → n * 262_144 + (131_072 - d * 2) + 2 ≤ m * 262_144 + (131_072 - e * 2)
end_then_end n m d e le same lt = omega arith

start_then_end : (n m d e : ℕ) → n < m → d < 65_536 → n * 262_144 + d + 2 ≤ m * 262_144 + (131_072 - e * 2)
start_then_end n m d e lt few = omega arith

earlier_end : (n m d e : ℕ) → n < m → n * 262_144 + (131_072 - d * 2) < m * 262_144 + (131_072 - e * 2)
earlier_end n m d e lt = omega arith

start_then_mark : (s n d : ℕ) → s < n → d < 65_536 → s * 262_144 + d < n * 262_144
start_then_mark s n d lt few = omega arith

end_then_mark : (s n d : ℕ) → s < n → s * 262_144 + (131_072 - d * 2) < n * 262_144
end_then_mark s n d lt = omega arith

mark_then_end : (n d : ℕ) → d < 65_536 → n * 262_144 + 1 < n * 262_144 + (131_072 - d * 2)
mark_then_end n d few = omega arith

mark_is_no_end : (n m d : ℕ) → d < 65_536 → n * 262_144 ≡ m * 262_144 + (131_072 - d * 2) → ⊥
mark_is_no_end n m d few same = elim (cases_lt m n) [
  | inl lt ↦ (let no : m * 262_144 + (131_072 - d * 2) < n * 262_144 = end_then_mark m n d lt in omega arith)
  | inr le ↦ omega arith
]

-- what is the same is as far apart
lt_by : (k a b c d : ℕ) → a ≡ b → c ≡ d → b + k < d → a + k < c
lt_by k a b c d e f lt = omega arith

le_by : (k a b c d : ℕ) → a ≡ b → c ≡ d → b + k ≤ d → a + k ≤ c
le_by k a b c d e f le = omega arith

pub lt_same : (a b c d : ℕ) → a ≡ b → c ≡ d → b < d → a < c
lt_same a b c d e f lt = omega arith

number_up_to : (a b c d : ℕ) → a ≡ b → c ≡ d → b ≤ d → a ≤ c
number_up_to a b c d e f le = omega arith

start_numbers : (a b : ℕ) → a ≤ b → a * 3 + 1 ≤ b * 3 + 1
start_numbers a b le = omega arith

le_same : (a : ℕ) → a ≤ a
le_same a = omega arith

le_of : (a b : ℕ) → a < b → a ≤ b
le_of a b lt = omega arith

less_still : (a b c : ℕ) → a ≤ b → b < c → a < c
less_still a b c le lt = omega arith

one_less : (a b : ℕ) → a < b → a - 1 < b
one_less a b lt = omega arith

-- ---- keys of three numbers

pub three-below : (a b c h k t : ℕ) → (a < h) ⊎ ((a ≤ h) × (b < k)) → Below (a ∷ b ∷ c ∷ []) (h ∷ k ∷ t ∷ [])
three-below a b c h k t (inl lt) = inl lt
three-below a b c h k t (inr (le, less)) = elim (cases_lt a h) [
  | inl lt ↦ inl lt
  | inr ge ↦ inr (omega arith, inl less)
]

abbrev pub capped : Option Moment → ℕ → ℕ → ℕ
capped None top n = n
capped (Some end) top n = min n (top - 1)

pub capped_least : (end : Option Moment) (top n x : ℕ) → x ≤ n → ((moment : Moment) → end ≡ Some moment → x ≤ top - 1) → x ≤ capped end top n
capped_least None top n x le below = le
capped_least (Some moment) top n x le below = let low : x ≤ top - 1 = below moment refl in omega arith

pub capped_most : (end : Option Moment) (top n : ℕ) → capped end top n ≤ n
capped_most None top n = omega arith
capped_most (Some moment) top n = omega arith

pub capped_top : (end : Option Moment) (moment : Moment) (top n : ℕ) → end ≡ Some moment → capped end top n ≤ top - 1
capped_top None moment top n is = absurd (none-some moment is)
capped_top (Some other) moment top n is = omega arith

module _ {as_told : AsTold} (spans : List Span) (relations : PlainRelations) (is : IsFamily as_told spans relations) (moments : List At) (are : AreMoments relations.intervals moments) (failures : ℕ → Option Exception) where
  abbrev pub Known : PlainKnown
  Known = known_of spans relations as_told moments

  abbrev pub Scene : PlainScene
  Scene = scene_of (known_of spans relations as_told moments) failures

  abbrev pub Deep : ℕ → ℕ
  Deep place = depth relations.intervals (map parent_meant (all_references spans)) (length spans) is.few (parents_within spans) place

  abbrev pub start_height : ℕ → ℕ
  start_height place = start_number relations.intervals place * 262_144 + Deep place

  abbrev pub end_height : ℕ → ℕ
  end_height place = end_number relations.intervals place * 262_144 + (131_072 - Deep place * 2)

  abbrev pub work_height : ℕ → OwnWork → ℕ
  work_height place work = (work.until * 3 + 1) * 262_144 + Deep place

  -- the heights of spans in the place of their ticks, and of own work
  abbrev pub heights : List Interval
  heights = map (λ place. record { start = start_height place; end = Some (end_height place) }) (range_with_len 0 (length relations.intervals))

  abbrev high_work : ℕ → OwnWork → OwnWork
  high_work place work = record { after = work.after; until = work_height place work }

  abbrev high_had : ℕ → PlainHad → PlainHad
  high_had place those = record { has = those.has; joins = those.joins; works = map (high_work place) those.works; begins = those.begins; answer = those.answer }

  abbrev pub Last : ℕ → ℕ
  Last place = relations.attempts.last (relations.attempts.first place)

  abbrev high_attempts : Attempts
  high_attempts = record { next = relations.attempts.next; previous = relations.attempts.previous; first = relations.attempts.first; last = λ place. Last place }

  abbrev high_relations : PlainRelations
  high_relations = record {
    origin = relations.origin;
    intervals = heights;
    references = relations.references;
    order = relations.order;
    parents = relations.parents;
    hosts = relations.hosts;
    waiting = relations.waiting;
    attempts = high_attempts;
    given_up = relations.given_up;
  }

  abbrev high_hads : List PlainHad
  high_hads = map (λ place. high_had place (had relations moments place)) (range_with_len 0 (length relations.intervals))

  abbrev high_known : PlainKnown
  high_known = record { relations = high_relations; fates = Known.fates; has_two = Known.has_two; hads = high_hads; children = Known.children; bounds = Known.bounds; hands_on = Known.hands_on }

  abbrev pub high : PlainSight
  high = record { known = high_known; failures = failures; joins = [] }

  abbrev pub joins_at : ℕ → List (List StageId)
  joins_at place = span_joins Known (all_handed Known failures) place

  abbrev pub own_joins : ℕ → List (List StageId)
  own_joins place = (had_at Known.hads place).joins

  abbrev pub least : ℕ → ℕ → ℕ
  least place count = min count (length (own_joins place))

  abbrev pub high_start : ℕ → ℕ
  high_start place = (interval_at heights place).start

  abbrev pub high_end : ℕ → ℕ
  high_end place = unwrap_or (interval_at heights place).end 0

  -- how high a stage of a span is, where a join is as high as the highest of its sources
  abbrev pub height_in : ℕ → StageId → ℕ
  height_in place id = (outcome_of high (join_outcomes high (joins_at place)) id).tick

  -- but a join of a span that has ended is below the end of that
  abbrev pub join_height : ℕ → ℕ → ℕ
  join_height place count = capped (end_moment (interval_at relations.intervals place)) (high_end place) (height_in place (Join place count))

  abbrev pub own_key : StageId → Key
  own_key (Start place) = high_start place ∷ 0 ∷ 0 ∷ []
  own_key (Whole place) = high_end place ∷ 0 ∷ 0 ∷ []
  own_key (Work place count) = work_end (slice_get (had_at high_hads place).works count) ∷ 0 ∷ 0 ∷ []
  own_key (Tried place) = high_end (Last place) ∷ 1 ∷ (end_number relations.intervals (Last place) - end_number relations.intervals place) ∷ []
  own_key (Limit place) = high_start place ∷ 1 ∷ 0 ∷ []
  own_key (Answer place) = (high_end place - 1) ∷ 3 ∷ 0 ∷ []
  own_key (Entry place count) = (high_start place - 1) ∷ 3 ∷ count ∷ []
  own_key (Join place count) = join_height place (least place count) ∷ 2 ∷ least place count ∷ []

  abbrev pub ancestors_of : ℕ → List ℕ
  ancestors_of place = line (Parents spans relations is) most_spans (parent_at (Parents spans relations is) place)

  -- where a stage stands: in its span, or in the caller of that
  abbrev pub line_of : StageId → List ℕ
  line_of (Start place) = place ∷ ancestors_of place
  line_of (Whole place) = place ∷ ancestors_of place
  line_of (Work place count) = place ∷ ancestors_of place
  line_of (Tried place) = ancestors_of place
  line_of (Limit place) = place ∷ ancestors_of place
  line_of (Answer place) = place ∷ ancestors_of place
  line_of (Entry place count) = place ∷ ancestors_of place
  line_of (Join place count) = place ∷ ancestors_of place

  -- the end of the caller that gave a span up
  abbrev mark_of_caller : ℕ → ℕ
  mark_of_caller caller = end_number relations.intervals caller * 262_144

  abbrev pub mark_of : ℕ → Option ℕ
  mark_of place = option_map mark_of_caller (parent_at relations.given_up place)

  abbrev pub key : StageId → Key
  key id = behind mark_of (line_of id) (own_key id)

  abbrev pub key_in : ℕ → Key → Key
  key_in place own = behind mark_of (place ∷ ancestors_of place) own

  -- ---- heights

  heights_at : (place : ℕ) → place < length relations.intervals → interval_at heights place ≡ record { start = start_height place; end = Some (end_height place) }
  heights_at place lt = ap (λ found. unwrap_or found (record { start = 0; end = None })) (mapped_range (λ p. record { start = start_height p; end = Some (end_height p) }) (length relations.intervals) place lt)

  pub start_is : (place : ℕ) → place < length relations.intervals → high_start place ≡ start_height place
  start_is place lt = ap (λ (interval : Interval). interval.start) (heights_at place lt)

  pub end_is : (place : ℕ) → place < length relations.intervals → high_end place ≡ end_height place
  end_is place lt = ap (λ (interval : Interval). unwrap_or interval.end 0) (heights_at place lt)

  pub had_is : (place : ℕ) → place < length relations.intervals → had_at Known.hads place ≡ had relations moments place
  had_is place lt = ap (λ found. unwrap_or found (record { has = Start place; joins = []; works = []; begins = []; answer = None })) (mapped_range (had relations moments) (length relations.intervals) place lt)

  pub work_is : (place count : ℕ) (work : OwnWork) → place < length relations.intervals → slice_get (had relations moments place).works count ≡ Some work → work_end (slice_get (had_at high_hads place).works count) ≡ work_height place work
  work_is place count work lt at =
      let here : had_at high_hads place ≡ high_had place (had relations moments place) =
      ap (λ found. unwrap_or found (record { has = Start place; joins = []; works = []; begins = []; answer = None })) (mapped_range (λ p. high_had p (had relations moments p)) (length relations.intervals) place lt) in
      ap (λ (those : PlainHad). work_end (slice_get those.works count)) here
      ∙ ap work_end (slice_get-map (high_work place) (had relations moments place).works count)
      ∙ ap (λ found. work_end (option_map (high_work place) found)) at

  pub deep_below : (place : ℕ) → place < length relations.intervals → Deep place < 65_536
  deep_below place lt =
      let less : Deep place < length spans = shallow relations.intervals (map parent_meant (all_references spans)) (length spans) is.few (parents_within spans) place (omega (arith, is.count)) in
      omega (arith, is.few)

  pub number_is : (place : ℕ) (end : Moment) → end_moment (interval_at relations.intervals place) ≡ Some end → end_number relations.intervals place ≡ number end
  number_is place end ends = ap number_or ends

  -- what ended before a start is below it
  pub ended_below_start : (place other : ℕ) (end : Moment) → end_moment (interval_at relations.intervals place) ≡ Some end → number end ≤ start_number relations.intervals other → other < length relations.intervals
      → high_end place + 1 < high_start other
  ended_below_start place other end ends le lt =
      let sooner : number end < start_number relations.intervals other =
      before_start end.tick (turn_number end.turn) (interval_at relations.intervals other).start (end_turn_at (interval_at relations.intervals place) end ends) le in
      lt_by 1 (high_end place) (end_height place) (high_start other) (start_height other) (end_is place (ended_place relations.intervals place end ends)) (start_is other lt)
      (end_then_start (end_number relations.intervals place) (start_number relations.intervals other) (Deep place) (Deep other)
      (lt_same (end_number relations.intervals place) (number end) (start_number relations.intervals other) (start_number relations.intervals other) (number_is place end ends) refl sooner))

  pub host_shallower : (place host : ℕ) → slice_get relations.hosts place ≡ Some (Inside host) → Deep host < Deep place
  host_shallower place host inside =
      ancestor_shallower relations.intervals (map parent_meant (all_references spans)) (length spans) is.few (parents_within spans) place host (inside_is spans relations is place host inside).above

  pub host_within : (place host : ℕ) → slice_get relations.hosts place ≡ Some (Inside host) → host < length relations.intervals
  host_within place host inside = let within : host < length spans = above_below spans relations is place host (inside_is spans relations is place host inside).above in omega (arith, is.count)

  pub host_below : (place host : ℕ) → place < length relations.intervals → slice_get relations.hosts place ≡ Some (Inside host) → high_start host < high_start place
  host_below place host lt inside =
      let sooner : (interval_at relations.intervals host).start ≤ (interval_at relations.intervals place).start = (inside_is spans relations is place host inside).sooner in
      lt_same (high_start host) (start_height host) (high_start place) (start_height place) (start_is host (host_within place host inside)) (start_is place lt)
      (start_then_start (start_number relations.intervals host) (start_number relations.intervals place) (Deep host) (Deep place)
      (start_numbers (interval_at relations.intervals host).start (interval_at relations.intervals place).start sooner) (host_shallower place host inside))

  pub child_below_end : (place parent : ℕ) (last end : Moment) → end_moment (interval_at relations.intervals place) ≡ Some last → end_moment (interval_at relations.intervals parent) ≡ Some end → Waits spans relations is parent place
      → high_end place + 2 ≤ high_end parent
  child_below_end place parent last end first second waits =
      let within : place < length relations.intervals = ended_place relations.intervals place last first in
      let le : number last ≤ number end = within_number (end_moment (interval_at relations.intervals place)) (end_moment (interval_at relations.intervals parent)) last end waits.ends first second in
      let more : Deep place ≡ suc (Deep parent) = deeper relations.intervals (map parent_meant (all_references spans)) (length spans) is.few (parents_within spans) place parent waits.child in
      le_by 2 (high_end place) (end_height place) (high_end parent) (end_height parent) (end_is place within) (end_is parent (ended_place relations.intervals parent end second))
      (end_then_end (end_number relations.intervals place) (end_number relations.intervals parent) (Deep place) (Deep parent)
      (number_up_to (end_number relations.intervals place) (number last) (end_number relations.intervals parent) (number end) (number_is place last first) (number_is parent end second) le) more (deep_below place within))

  -- what is at the start of a span is below an end after that
  pub start_number_below_end : (other place n : ℕ) (end : Moment) → other < length relations.intervals → end_moment (interval_at relations.intervals place) ≡ Some end → n < number end → n * 262_144 + Deep other + 2 ≤ high_end place
  start_number_below_end other place n end lt ends less =
      le_by 2 (n * 262_144 + Deep other) (n * 262_144 + Deep other) (high_end place) (end_height place) refl (end_is place (ended_place relations.intervals place end ends))
      (start_then_end n (end_number relations.intervals place) (Deep other) (Deep place) (lt_same n n (end_number relations.intervals place) (number end) refl (number_is place end ends) less) (deep_below other lt))

  pub start_below_end : (place : ℕ) (end : Moment) → end_moment (interval_at relations.intervals place) ≡ Some end → high_start place + 2 ≤ high_end place
  start_below_end place end ends =
      let within : place < length relations.intervals = ended_place relations.intervals place end ends in
      le_by 2 (high_start place) (start_height place) (high_end place) (high_end place) (start_is place within) refl
      (start_number_below_end place place (start_number relations.intervals place) end within ends (start_before_end (interval_at relations.intervals place) end (is.forward place) ends))

  pub work_below_end : (place : ℕ) (work : OwnWork) (end : Moment) → end_moment (interval_at relations.intervals place) ≡ Some end → work.until * 3 + 1 < number end → work_height place work + 2 ≤ high_end place
  work_below_end place work end ends less = start_number_below_end place place (work.until * 3 + 1) end (ended_place relations.intervals place end ends) ends less

  -- an earlier end is lower
  pub end_below_end : (place other : ℕ) → place < length relations.intervals → other < length relations.intervals → end_number relations.intervals place < end_number relations.intervals other → high_end place < high_end other
  end_below_end place other lt within less =
      lt_same (high_end place) (end_height place) (high_end other) (end_height other) (end_is place lt) (end_is other within)
      (earlier_end (end_number relations.intervals place) (end_number relations.intervals other) (Deep place) (Deep other) less)

  -- ---- marks

  pub record IsMarked (place mark : ℕ) : Type 0 where
    pub caller : ℕ
    pub by : parent_at relations.given_up place ≡ Some caller
    pub gave : GaveUp spans relations is caller place
    pub same : mark ≡ number gave.end * 262_144

  pub marked_is : (place mark : ℕ) → mark_of place ≡ Some mark → IsMarked place mark
  marked_is place mark marks = by_caller (parent_at relations.given_up place) refl marks
    where
      by_caller : (caller : Option ℕ) → parent_at relations.given_up place ≡ caller → option_map mark_of_caller caller ≡ Some mark → IsMarked place mark
      by_caller None none marks = absurd (none-some mark marks)
      by_caller (Some caller) some marks =
          let gave = gave_up_is spans relations is place caller some in
          record { caller = caller; by = some; gave = gave; same = sym (same_Some (mark_of_caller caller) mark marks) ∙ ap (λ n. n * 262_144) (number_is caller gave.end gave.ends) }

  -- the mark of a span is after what is at its start, or at that of one that starts no later
  pub mark_after_start : (place other mark : ℕ) → other < length relations.intervals → start_number relations.intervals other ≤ start_number relations.intervals place → mark_of place ≡ Some mark → high_start other < mark
  mark_after_start place other mark lt le marks =
      let marked = marked_is place mark marks in
      lt_same (high_start other) (start_height other) mark (number marked.gave.end * 262_144) (start_is other lt) marked.same
      (start_then_mark (start_number relations.intervals other) (number marked.gave.end) (Deep other)
      (less_still (start_number relations.intervals other) (start_number relations.intervals place) (number marked.gave.end) le marked.gave.sooner) (deep_below other lt))

  -- and after what ended before the caller did
  pub mark_after_end : (place other mark : ℕ) (last : Moment) → end_moment (interval_at relations.intervals other) ≡ Some last → ((marked : IsMarked place mark) → number last < number marked.gave.end) → mark_of place ≡ Some mark
      → high_end other < mark
  mark_after_end place other mark last ends sooner marks =
      let marked = marked_is place mark marks in
      lt_same (high_end other) (end_height other) mark (number marked.gave.end * 262_144) (end_is other (ended_place relations.intervals other last ends)) marked.same
      (end_then_mark (end_number relations.intervals other) (number marked.gave.end) (Deep other)
      (lt_same (end_number relations.intervals other) (number last) (number marked.gave.end) (number marked.gave.end) (number_is other last ends) refl (sooner marked)))

  mark_apart : (place mark : ℕ) → mark_of place ≡ Some mark → mark ≡ high_end place → ⊥
  mark_apart place mark marks same =
      let marked = marked_is place mark marks in
      let within : place < length relations.intervals = child_below spans relations is place marked.caller marked.gave.child in
      mark_is_no_end (number marked.gave.end) (end_number relations.intervals place) (Deep place) (deep_below place within) (sym marked.same ∙ same ∙ end_is place within)

  -- ---- keys of what a span waits for

  pub above_is : (place parent : ℕ) → parent_at (Parents spans relations is) place ≡ Some parent → ancestors_of place ≡ parent ∷ ancestors_of parent
  above_is place parent child = ancestors_step relations.intervals (map parent_meant (all_references spans)) (length spans) is.few (parents_within spans) place parent child

  -- the end of a span is no higher above it
  pub end_above : (place : ℕ) (own : Key) → Below (own_key (Whole place)) own → Below (key (Whole place)) (behind mark_of (ancestors_of place) own)
  end_above place own below =
      behind-below mark_of (ancestors_of place) (marked_if (mark_of place) (own_key (Whole place))) own
      (up_to-below (marked_if (mark_of place) (own_key (Whole place))) (own_key (Whole place)) own
      (marked_if-up_to (mark_of place) (high_end place) (0 ∷ 0 ∷ []) (λ mark marks same. mark_apart place mark marks same)) below)

  -- it stands in its parent
  pub child_key : (place parent : ℕ) (own : Key) → parent_at (Parents spans relations is) place ≡ Some parent → Below (own_key (Whole place)) own → Below (key (Whole place)) (key_in parent own)
  child_key place parent own child below = subst (λ those. Below (key (Whole place)) (behind mark_of those own)) (above_is place parent child) (end_above place own below)

  -- what a call came to that was tried again stands in its caller
  pub tried_key : (place parent : ℕ) (own : Key) → parent_at (Parents spans relations is) place ≡ Some parent → Below (own_key (Tried place)) own → Below (key (Tried place)) (key_in parent own)
  tried_key place parent own child below =
      subst (λ those. Below (behind mark_of those (own_key (Tried place))) (key_in parent own)) (sym (above_is place parent child))
      (behind-below mark_of (parent ∷ ancestors_of parent) (own_key (Tried place)) own below)

  -- the end of a span that was given up is below what is above the end of its caller
  pub given_key : (place caller : ℕ) (own : Key) → parent_at relations.given_up place ≡ Some caller → IsAbove (mark_of_caller caller) own → Below (key (Whole place)) (key_in caller own)
  given_key place caller own gave above =
      let gave_up = gave_up_is spans relations is place caller gave in
      let marks : mark_of place ≡ Some (mark_of_caller caller) = ap (option_map mark_of_caller) gave in
      subst (λ those. Below (behind mark_of those (marked_if (mark_of place) (own_key (Whole place)))) (key_in caller own)) (sym (above_is place caller gave_up.child))
      (behind-below mark_of (caller ∷ ancestors_of caller) (marked_if (mark_of place) (own_key (Whole place))) own
      (subst (λ found. Below (marked_if found (own_key (Whole place))) own) (sym marks)
      (marked-lower (mark_of_caller caller) (high_end place) (0 ∷ 0 ∷ []) own above)))

  -- the end of a caller is above its mark
  pub mark_below_end : (caller : ℕ) (end : Moment) → end_moment (interval_at relations.intervals caller) ≡ Some end → mark_of_caller caller + 1 < high_end caller
  mark_below_end caller end ends =
      let within : caller < length relations.intervals = ended_place relations.intervals caller end ends in
      lt_by 1 (mark_of_caller caller) (mark_of_caller caller) (high_end caller) (end_height caller) refl (end_is caller within) (mark_then_end (end_number relations.intervals caller) (Deep caller) (deep_below caller within))

  pub same_span : (place : ℕ) (one other : Key) → Below one other → Below (key_in place one) (key_in place other)
  same_span place one other below = behind-below mark_of (place ∷ ancestors_of place) one other below

  -- ---- keys at the start of a span

  -- its own key at the start, below that of its first stage and of its joins
  abbrev pub entry_key : ℕ → Key
  entry_key place = (high_start place - 1) ∷ 3 ∷ 0 ∷ []

  -- where all on the way up from a span to another have later marks, its joins have a key that stands in the other
  pub entry_at : (place other : ℕ) (between : List ℕ) → (place ∷ ancestors_of place ≡ between ++ other ∷ ancestors_of other) → AreLater mark_of (high_start place - 1) between → key_in place (entry_key place) ≡ key_in other (entry_key place)
  entry_at place other between split later =
      ap (λ those. behind mark_of those (entry_key place)) split
      ∙ behind-append mark_of between (other ∷ ancestors_of other) (entry_key place)
      ∙ ap (λ those. behind mark_of (other ∷ ancestors_of other) those) (unmarked between later)
    where
      unmarked : (between : List ℕ) → AreLater mark_of (high_start place - 1) between → behind mark_of between (entry_key place) ≡ entry_key place
      unmarked between later = behind-same mark_of (high_start place - 1) (3 ∷ 0 ∷ []) between later

  later_marks : (place other : ℕ) → place < length relations.intervals → start_number relations.intervals place ≤ start_number relations.intervals other → (mark : ℕ) → mark_of other ≡ Some mark → high_start place - 1 < mark
  later_marks place other lt le mark marks = one_less (high_start place) mark (mark_after_start other place mark lt le marks)

  pub entry_in_host : (place host : ℕ) → place < length relations.intervals → HasHost relations.intervals (Parents spans relations is) place host → key_in place (entry_key place) ≡ key_in host (entry_key place)
  entry_in_host place host lt found =
      let after : found.after ≡ ancestors_of host = ancestors_after relations.intervals (map parent_meant (all_references spans)) (length spans) is.few (parents_within spans) found.before place host found.after found.split in
      entry_at place host (place ∷ found.before) (ap (λ those. place ∷ those) (found.split ∙ ap (λ those. found.before ++ host ∷ those) after)) (
        later_marks place place lt (le_same (start_number relations.intervals place)),
        each-weaker (λ other. start_at relations.intervals place < start_at relations.intervals other) (λ other. (mark : ℕ) → mark_of other ≡ Some mark → high_start place - 1 < mark)
            (λ other later. later_marks place other lt (start_numbers (start_at relations.intervals place) (start_at relations.intervals other) (le_of (start_at relations.intervals place) (start_at relations.intervals other) later))) found.before found.later,
      )

  pub entry_in_caller : (place caller : ℕ) → place < length relations.intervals → parent_at (Parents spans relations is) place ≡ Some caller → key_in place (entry_key place) ≡ key_in caller (entry_key place)
  entry_in_caller place caller lt child = entry_at place caller (place ∷ []) (ap (λ those. place ∷ those) (above_is place caller child)) (later_marks place place lt (le_same (start_number relations.intervals place)), tt)
