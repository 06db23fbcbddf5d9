-- The named stages of a sound graph are loaded as that graph, without its empty places.
use Rattle.std.proofs.Common.{◌^◌, nat_le, if◌then◌else◌, IfSome, Result, Ok, Err, leb-true, ◌≡◌, ◌+◌, ◌<◌, ◌≤◌, ℕ, suc, Bool, true, false, cond, nat_lt, List, [], ◌∷◌, ◌++◌, length, map, All, Option, Some, None, option_map, is_some, unwrap_or, IsTrue, IsUtf8, refl, sym, ap, ap₂, ◌∙◌, subst, arith, lt-ltb, le-ltb, ltb-true, ltb-false, eq-eqb}
use Rattle.std.specs.Prelude.{position}
use Rattle.std.specs.List.{list_all, position_or_len}
use Rattle.std.specs.Str.{bytes_eq}
use Rattle.std.proofs.lemmas.List.{length-map}
use Rattle.std.proofs.lemmas.List.Elements.{All-cons, All-head, All-nil, All-tail}
use Rattle.stage_graph.specs.declared.stage.Stage.{Stage}
use Rattle.stage_graph.specs.declared.stage.Spec.{Spec}
use Rattle.stage_graph.specs.Checks.{action_fault, are_known, begins_well, delay_of, fault_in, is_end, is_name, is_name_byte, is_pin, is_tick}
use Rattle.stage_graph.specs.Loading.{first_refused, loaded, refusal_of, stages_from}
use Rattle.stage_graph.specs.Names.{place_of, places_of, stage_of}
use Rattle.stage_graph.specs.Plain.{PlainGraph, stage_at, place_named, has_name, feeds_of, IsLive}
use Rattle.stage_graph.specs.Sound.{IsSound, IsSoundStage}
use Rattle.recording_text.specs.Named.{name_in, name_at, named_stage, named_among, specs_of}
use Rattle.std.specs.Prelude.{⊤}
use Rattle.std.proofs.lemmas.Bool.{and_parts}
use Rattle.std.proofs.lemmas.Str.{IsUtf8-nil}
use Rattle.act_expr.specs.Expression.{Expression, depth}
use Rattle.act_expr.specs.declared.outcome.Mode.{Mode}
use Rattle.act_expr.specs.declared.outcome.Mode.TheVariants.{Computed}
use Rattle.act_expr.specs.declared.expr.ExprFault.{ExprFault}
use Rattle.stage_graph.specs.declared.end.End.{End}
use Rattle.recording_back.specs.ReadBack.{HasLabels, IsLabelled, IsWritable, specs_in}
use Rattle.recording_back.specs.Packed.{AreTyped, HasTypes, IsRecordingOf, moved, moved_stage, moved_among, without_empty, EachGraphIsLoaded, EachGraphIsReadBack}
use Rattle.recording.specs.RecordingOf.{longest, named, recorded}
use Rattle.recording_text.specs.Labels.{Labelled, PlainHead, no_labels, recording_with, unlabelled}
use Rattle.recording_text.specs.Texts.{recording_text}
use Rattle.recording_back.proofs.Plain.{none_beside, none_label, same_specs, text_same}
use Rattle.recording_back.proofs.StageBack.{read_back}
use Rattle.recording_back.proofs.Utf8.{ascii_text}

-- ---- names

shifted : (n count : ℕ) (b : Bool) → nat_lt n count ≡ b → cond (nat_lt (1 + n) (suc count)) (Some (1 + n)) None ≡ option_map suc (cond b (Some n) None)
shifted n count true h = rw (lt-ltb (1 + n) (suc count) (omega (arith, ltb-true n count h))) (ap Some (omega arith))
shifted n count false h = rw (le-ltb (1 + n) (suc count) (omega (arith, ltb-false n count h))) refl

position_beside : {A : Type 0} (p : A → Bool) (x : A) (xs : List A) (b : Bool) → p x ≡ b → position p (x ∷ xs) ≡ cond b (Some 0) (option_map suc (position p xs))
position_beside p x xs true h = rw h (rw (lt-ltb 0 (suc (length xs)) (omega arith)) refl)
position_beside p x xs false h = rw h (shifted (position_or_len p xs) (length xs) (nat_lt (position_or_len p xs) (length xs)) refl)

past_empty : (rest : List (Option Stage)) (o : Option ℕ) → option_map (moved rest) o ≡ option_map (moved (None ∷ rest)) (option_map suc o)
past_empty rest None = refl
past_empty rest (Some n) = refl

past_stage : (stage : Stage) (rest : List (Option Stage)) (o : Option ℕ) → option_map suc (option_map (moved rest) o) ≡ option_map (moved (Some stage ∷ rest)) (option_map suc o)
past_stage stage rest None = refl
past_stage stage rest (Some n) = refl

beside_stage : (places rest : List (Option Stage)) (stage : Stage) (name : List ℕ) (b : Bool) → bytes_eq stage.name name ≡ b
    → place_of (named_among places rest) name ≡ option_map (moved rest) (place_named rest name)
    → place_of (named_stage places stage ∷ named_among places rest) name ≡ option_map (moved (Some stage ∷ rest)) (place_named (Some stage ∷ rest) name)
beside_stage places rest stage name true h others =
    position_beside (λ (spec : Spec). bytes_eq spec.name name) (named_stage places stage) (named_among places rest) true h
    ∙ ap (option_map (moved (Some stage ∷ rest))) (sym (position_beside (has_name name) (Some stage) rest true h))
beside_stage places rest stage name false h others =
    position_beside (λ (spec : Spec). bytes_eq spec.name name) (named_stage places stage) (named_among places rest) false h
    ∙ ap (option_map suc) others ∙ past_stage stage rest (place_named rest name)
    ∙ ap (option_map (moved (Some stage ∷ rest))) (sym (position_beside (has_name name) (Some stage) rest false h))

-- where the stage of a name stands among the named stages
found_among : (places rest : List (Option Stage)) (name : List ℕ) → place_of (named_among places rest) name ≡ option_map (moved rest) (place_named rest name)
found_among places [] name = refl
found_among places (None ∷ rest) name =
    found_among places rest name ∙ past_empty rest (place_named rest name) ∙ ap (option_map (moved (None ∷ rest))) (sym (position_beside (has_name name) None rest false refl))
found_among places (Some stage ∷ rest) name = beside_stage places rest stage name (bytes_eq stage.name name) refl (found_among places rest name)

-- ---- one graph

module _ (places : List (Option Stage)) (sound : (place : ℕ) (stage : Stage) → stage_at places place ≡ Some stage → IsSoundStage places place stage) where
  abbrev find : List ℕ → Option ℕ
  find = place_of (named_among places places)

  found_stage : (place : ℕ) (stage : Stage) → IsSoundStage places place stage → find stage.name ≡ Some (moved places place)
  found_stage place stage h = found_among places places stage.name ∙ ap (option_map (moved places)) h.by_name

  found_feed : (feed : ℕ) (here : Option Stage) → stage_at places feed ≡ here → is_some here ≡ true → find (name_in here) ≡ Some (moved places feed)
  found_feed feed None is live = absurd cc
  found_feed feed (Some stage) is live = found_stage feed stage (sound feed stage is)

  found_live : (feed : ℕ) → IsLive places feed → find (name_at places feed) ≡ Some (moved places feed)
  found_live feed live = found_feed feed (stage_at places feed) refl live

  feeds_moved : (feeds : List ℕ) → All (IsLive places) feeds → places_of find (map (name_at places) feeds) ≡ map (moved places) feeds
  feeds_moved [] h = refl
  feeds_moved (feed ∷ feeds) h =
      ap₂ (λ (a : ℕ) (l : List ℕ). a ∷ l) (ap (λ o. unwrap_or o 0) (found_live feed (All-head (IsLive places) feed feeds h))) (feeds_moved feeds (All-tail (IsLive places) feed feeds h))

  feeds_known : (feeds : List ℕ) → All (IsLive places) feeds → are_known find (map (name_at places) feeds) ≡ true
  feeds_known [] h = refl
  feeds_known (feed ∷ feeds) h =
      rw (found_live feed (All-head (IsLive places) feed feeds h)) (feeds_known feeds (All-tail (IsLive places) feed feeds h))

  sources_live : (stage : Stage) → All (IsLive places) (feeds_of stage) → All (IsLive places) stage.sources
  sources_live stage h = front stage.sources h
    where
      front : (feeds : List ℕ) → All (IsLive places) (feeds ++ stage.inner) → All (IsLive places) feeds
      front [] k = All-nil (IsLive places)
      front (feed ∷ feeds) k = All-cons (IsLive places) feed feeds (All-head (IsLive places) feed (feeds ++ stage.inner) k) (front feeds (All-tail (IsLive places) feed (feeds ++ stage.inner) k))

  inner_live : (stage : Stage) → All (IsLive places) (feeds_of stage) → All (IsLive places) stage.inner
  inner_live stage h = back stage.sources h
    where
      back : (feeds : List ℕ) → All (IsLive places) (feeds ++ stage.inner) → All (IsLive places) stage.inner
      back [] k = k
      back (feed ∷ feeds) k = back feeds (All-tail (IsLive places) feed (feeds ++ stage.inner) k)

  stage_made : (place : ℕ) (stage : Stage) → IsSoundStage places place stage → stage_of find (moved places place) (named_stage places stage) ≡ moved_stage places stage
  stage_made place stage h =
      let own = h.own_place in
      ap₂ (λ (sources inner : List ℕ). record stage { place = moved places place; sources = sources; inner = inner })
      (feeds_moved stage.sources (sources_live stage h.live_feeds)) (feeds_moved stage.inner (inner_live stage h.live_feeds))
      ∙ ap (λ (p : ℕ). record stage { place = moved places p; sources = map (moved places) stage.sources; inner = map (moved places) stage.inner }) (sym own)

  none_refused : (place : ℕ) (stage : Stage) → IsSoundStage places place stage → moved places place < 65536 → refusal_of find (moved places place) (named_stage places stage) ≡ None
  none_refused place stage h few =
      let law = h.lawful in
      let sources = length-map stage.sources (name_at places) in
      let inner = length-map stage.inner (name_at places) in
      rw (
        found_stage place stage h,
        eq-eqb (moved places place) (moved places place) refl,
        law.named,
        sources,
        inner,
        law.arity,
        law.acts,
        feeds_known stage.sources (sources_live stage h.live_feeds),
        feeds_known stage.inner (inner_live stage h.live_feeds),
        lt-ltb (moved places place) 65536 few,
        law.few_sources,
        law.few_inner,
        law.created,
        law.queued,
        law.runs,
        law.pin,
        law.ends,
        law.in_time,
        law.times,
        law.sized,
      ) refl

  -- ---- the stages from a place on, of which the first stands behind so many

  abbrev Follows : List (Option Stage) → ℕ → ℕ → Type 0
  Follows rest at before =
      ((j : ℕ) (stage : Stage) → stage_at rest j ≡ Some stage → IsSoundStage places (at + j) stage)
      × ((j : ℕ) → moved places (at + j) ≡ before + moved rest j)
      × (before + length rest ≤ 65536)

  next_sound : (here : Option Stage) (rest : List (Option Stage)) (at : ℕ) → ((j : ℕ) (stage : Stage) → stage_at (here ∷ rest) j ≡ Some stage → IsSoundStage places (at + j) stage)
      → (j : ℕ) (stage : Stage) → stage_at rest j ≡ Some stage → IsSoundStage places (at + 1 + j) stage
  next_sound here rest at h j stage is = let same : at + suc j ≡ at + 1 + j = omega arith in subst (λ (p : ℕ). IsSoundStage places p stage) same (h (suc j) stage is)

  after_empty : (rest : List (Option Stage)) (at before : ℕ) → Follows (None ∷ rest) at before → Follows rest (at + 1) before
  after_empty rest at before h =
      let counts : (j : ℕ) → moved places (at + 1 + j) ≡ before + moved rest j = λ j. (let same : at + 1 + j ≡ at + suc j = omega arith in ap (moved places) same ∙ h.1 (suc j)) in
      (next_sound None rest at h.0, counts, omega (arith, h.2))

  after_stage : (stage : Stage) (rest : List (Option Stage)) (at before : ℕ) → Follows (Some stage ∷ rest) at before → Follows rest (at + 1) (before + 1)
  after_stage stage rest at before h =
      let counts : (j : ℕ) → moved places (at + 1 + j) ≡ before + 1 + moved rest j = λ j. (let same : at + 1 + j ≡ at + suc j = omega arith in omega (arith, ap (moved places) same, h.1 (suc j))) in
      (next_sound (Some stage) rest at h.0, counts, omega (arith, h.2))

  here_sound : (stage : Stage) (rest : List (Option Stage)) (at before : ℕ) → Follows (Some stage ∷ rest) at before → IsSoundStage places (at + 0) stage
  here_sound stage rest at before h = h.0 0 stage refl

  here_moved : (stage : Stage) (rest : List (Option Stage)) (at before : ℕ) → Follows (Some stage ∷ rest) at before → moved places (at + 0) ≡ before
  here_moved stage rest at before h = h.1 0 ∙ omega arith

  all_made : (rest : List (Option Stage)) (at before : ℕ) → Follows rest at before → stages_from find before (named_among places rest) ≡ moved_among places rest
  all_made [] at before h = refl
  all_made (None ∷ rest) at before h = all_made rest (at + 1) before (after_empty rest at before h)
  all_made (Some stage ∷ rest) at before h =
      ap₂ (λ (s : Stage) (l : List (Option Stage)). Some s ∷ l)
      (ap (λ (p : ℕ). stage_of find p (named_stage places stage)) (sym (here_moved stage rest at before h)) ∙ stage_made (at + 0) stage (here_sound stage rest at before h))
      (all_made rest (at + 1) (before + 1) (after_stage stage rest at before h))

  all_taken : (rest : List (Option Stage)) (at before : ℕ) → Follows rest at before → first_refused find before (named_among places rest) ≡ None
  all_taken [] at before h = refl
  all_taken (None ∷ rest) at before h = all_taken rest (at + 1) before (after_empty rest at before h)
  all_taken (Some stage ∷ rest) at before h =
      let is = here_moved stage rest at before h in
      let fine = subst (λ (p : ℕ). refusal_of find p (named_stage places stage) ≡ None) is (none_refused (at + 0) stage (here_sound stage rest at before h) (omega (arith, is, h.2))) in
      rw fine (all_taken rest (at + 1) (before + 1) (after_stage stage rest at before h))

pub graph_loaded : EachGraphIsLoaded
unfolding loaded
graph_loaded graph sound =
    let places = graph.places in
    let stands : (j : ℕ) (stage : Stage) → stage_at places j ≡ Some stage → IsSoundStage places (0 + j) stage
    = λ j stage is. (let same : j ≡ 0 + j = omega arith in subst (λ (p : ℕ). IsSoundStage places p stage) same (sound.stages j stage is)) in
    let counts : (j : ℕ) → moved places (0 + j) ≡ 0 + moved places j = λ j. (let same : 0 + j ≡ j = omega arith in omega (arith, ap (moved places) same)) in
    let follows : Follows places sound.stages places 0 0 = (stands, counts, omega (arith, sound.few)) in
    rw (all_taken places sound.stages places 0 0 follows, all_made places sound.stages places 0 0 follows) refl

-- ---- what Rust's types hold and soundness asks is what can be written

tick : (n : ℕ) → is_tick n ≡ true → n < 2 ^ 64
tick n h = let few : n ≤ 1099511627776 = leb-true n 1099511627776 h in omega (arith, few)

not_refused : (b : Bool) (fault : ExprFault) (rest : Result ⊤ ExprFault) → fault_in (if b then Err fault else rest) ≡ None → b ≡ false
not_refused true fault rest h = absurd cc
not_refused false fault rest h = refl

shallow : (action : Option Expression) → action_fault action ≡ None → IfSome action (λ e. depth e ≤ 100)
shallow None h = tt
shallow (Some e) h = omega (arith, ltb-false 32 (depth e) (not_refused (nat_lt 32 (depth e)) _ _ h))

moment : (pin : Option ℕ) → is_pin pin ≡ true → IfSome pin (λ m. m < 2 ^ 64)
moment None h = tt
moment (Some m) h = tick m h

abbrev HasTicks : End → Type 0
HasTicks end = (end.at < 2 ^ 64) × (delay_of end.act < 2 ^ 64)

each_tick : (ends : List End) → list_all is_end ends ≡ true → All HasTicks ends
each_tick [] h = All-nil HasTicks
each_tick (end ∷ ends) h =
    let parts = and_parts (is_end end) (list_all is_end ends) h in
    let ticks = and_parts (is_tick end.at) (is_tick (delay_of end.act)) parts.0 in
    All-cons HasTicks end ends (tick end.at ticks.0, tick (delay_of end.act) ticks.1) (each_tick ends parts.1)

-- ---- names

name_byte : (b : ℕ) → is_name_byte b ≡ true → b < 128
name_byte b h = grind (arith, h)

stage_name : (text : List ℕ) → IsTrue (is_name text) → IsUtf8 text
stage_name text h = ascii_text is_name_byte name_byte text (and_parts _ _ (and_parts (begins_well text) _ h).1).1

name_here : (here : Option Stage) → IfSome here (λ stage. IsTrue (is_name stage.name)) → IsUtf8 (name_in here)
name_here None h = IsUtf8-nil
name_here (Some stage) h = stage_name stage.name h

feed_names : (places : List (Option Stage)) → ((place : ℕ) → IsUtf8 (name_at places place)) → (feeds : List ℕ) → All IsUtf8 (map (name_at places) feeds)
feed_names places named [] = All-nil IsUtf8
feed_names places named (feed ∷ feeds) = All-cons IsUtf8 (name_at places feed) (map (name_at places) feeds) (named feed) (feed_names places named feeds)

all_named : (places : List (Option Stage)) → ((place : ℕ) (stage : Stage) → stage_at places place ≡ Some stage → IsSoundStage places place stage) → (place : ℕ) → IsUtf8 (name_at places place)
all_named places sound place = name_here (stage_at places place) (here (stage_at places place) refl)
  where
    here : (o : Option Stage) → stage_at places place ≡ o → IfSome o (λ stage. IsTrue (is_name stage.name))
    here None is = tt
    here (Some stage) is = (sound place stage is).lawful.named

-- ---- stages

writable : (places : List (Option Stage)) → ((place : ℕ) → IsUtf8 (name_at places place)) → (place : ℕ) (stage : Stage) → IsSoundStage places place stage → HasTypes stage
    → IsWritable (named_stage places stage)
writable places named place stage h typed =
    let law = h.lawful in
    record {
      name = stage_name stage.name law.named;
      sources = feed_names places named stage.sources;
      inner = feed_names places named stage.inner;
      op = typed.op;
      created = tick stage.created law.created;
      queued = tick stage.queued law.queued;
      runs = tick stage.runs law.runs;
      action = typed.action;
      shallow = shallow stage.action law.sized;
      pin_result = typed.pin_result;
      pin_moment = moment stage.pin_moment law.pin;
      ends = typed.ends;
      ticks = each_tick stage.ends (and_parts (nat_le (length stage.ends) 16) (list_all is_end stage.ends) law.ends).1;
    }

all_writable : (places rest : List (Option Stage)) → ((j : ℕ) (stage : Stage) → stage_at rest j ≡ Some stage → IsWritable (named_stage places stage)) → All IsWritable (named_among places rest)
all_writable places [] h = All-nil IsWritable
all_writable places (None ∷ rest) h = all_writable places rest (λ j. h (suc j))
all_writable places (Some stage ∷ rest) h = All-cons IsWritable (named_stage places stage) (named_among places rest) (h 0 stage refl) (all_writable places rest (λ j. h (suc j)))

pub graph_writable : (graph : PlainGraph) → IsSound graph → AreTyped graph.places → All IsWritable (specs_of graph)
graph_writable graph sound typed =
    all_writable graph.places graph.places (λ j stage is. writable graph.places (all_named graph.places sound.stages) j stage (sound.stages j stage is) (typed j stage is))

-- ---- labels beside them

all_labelled : (stages : List Labelled) → All IsWritable (specs_in stages) → All HasLabels stages → All IsLabelled stages
all_labelled [] h k = All-nil IsLabelled
all_labelled (stage ∷ stages) h k =
    All-cons IsLabelled stage stages (record { writable = All-head IsWritable stage.0 (specs_in stages) h; labels = All-head HasLabels stage stages k })
    (all_labelled stages (All-tail IsWritable stage.0 (specs_in stages) h) (All-tail HasLabels stage stages k))

known_as : (text : List ℕ) (m n : Mode) (l k : List Spec) → m ≡ n → l ≡ k → recorded text ≡ Ok (record { mode = m; stages = l }) → recorded text ≡ Ok (record { mode = n; stages = k })
known_as text m n l k modes lists h = rw (← modes, ← lists) h

recorded_back : (graph : PlainGraph) (mode : Option Mode) (head : PlainHead) (stages : List Labelled) → IsSound graph → AreTyped graph.places → IsRecordingOf graph mode head stages
    → length (recording_with mode head stages) ≤ longest → recorded (recording_with mode head stages) ≡ Ok (record { mode = graph.mode; stages = specs_of graph })
recorded_back graph mode head stages sound typed is short =
    known_as (recording_with mode head stages) (unwrap_or mode Computed) graph.mode (specs_in stages) (specs_of graph) is.names_mode is.has_stages
    (read_back mode head stages is.beside (all_labelled stages (subst (All IsWritable) (sym is.has_stages) (graph_writable graph sound typed)) is.labels) short)

pub graph_read_back : EachGraphIsReadBack
graph_read_back graph mode head stages sound typed is short = rw (recorded_back graph mode head stages sound typed is short, graph_loaded graph sound) refl

-- what is written of a graph bears no labels
pub plain_recording : (graph : PlainGraph) → IsRecordingOf graph (Some graph.mode) no_labels (map unlabelled (specs_of graph))
plain_recording graph = record { names_mode = refl; has_stages = same_specs (specs_of graph); beside = none_beside; labels = none_label (specs_of graph) }

pub plain_text : (graph : PlainGraph) → recording_text graph ≡ recording_with (Some graph.mode) no_labels (map unlabelled (specs_of graph))
unfolding recording_text
plain_text graph = text_same graph.mode (specs_of graph)

pub plain_read_back : (graph : PlainGraph) → IsSound graph → AreTyped graph.places → length (recording_text graph) ≤ longest → named (recording_text graph) ≡ Ok (without_empty graph)
plain_read_back graph sound typed short =
    let stages = map unlabelled (specs_of graph) in
    ap named (plain_text graph)
    ∙ graph_read_back graph (Some graph.mode) no_labels stages sound typed (plain_recording graph) (subst (λ (text : List ℕ). length text ≤ longest) (plain_text graph) short)
