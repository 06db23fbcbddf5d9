-- The output, assembled from the log and from the results of the clients.
use Rattle.std.proofs.Common.{◌≡◌, ℕ, zero, suc, ◌+◌, ◌<◌, ◌≤◌, ◌⊎◌, inl, inr, List, [], ◌∷◌, ◌++◌, ◌-◌, ◌^◌, length, map, slice_index_or, refl, sym, ap, ◌∙◌, subst, arith, ◌≢◌, Option, Result, Ok, Err, IsSomeAnd, IsOkAnd, IfOk, IfErr, MatchResult, slice_get, Contains}
use Rattle.std.specs.List.{All, AllZip, flat_map, sum_by, zip}
use Rattle.std.proofs.lemmas.List.Elements.{All-cons, All-head, All-nil, All-tail, All-weaker}
use Rattle.std.proofs.lemmas.List.Sums.{sum_by-cons}
use Rattle.stage_graph.specs.Plain.{PlainGraph}
use Rattle.version_store.specs.Plain.{PlainVersion}
use Rattle.session_core.specs.Log.{opening_of}
use Rattle.session_core.specs.Machine.{State}
use Rattle.session_core.specs.TableView.{TableView}
use Rattle.session_core.specs.declared.event.Entry.{Entry}
use Rattle.report_form.specs.declared.form.Format.{Format}
use Rattle.script_lines.specs.Lines.{lines_of}
use Rattle.serve_script.specs.Answers.{opening_state}
use Rattle.desk.specs.Clients.{AreNew, ClientView, HasSeen, IsNew, entries_of}
use Rattle.desk.specs.Closing.{Agrees, GoesWith, IsClosed}
use Rattle.desk.specs.Locked.{Replays}
use Rattle.many_scripts.specs.Gathered.{AreGathered, ArePlayed, AreSeats, IsWhole, with_client}
use Rattle.many_scripts.specs.Outputs.{AreOfLog, log_line, script_text, scripts_text}
use Rattle.many_scripts.specs.Played.{IsPlayed}
use Rattle.many_scripts.specs.Playing.{HasHeard}
use Rattle.many_scripts.specs.Scripts.{EndsBy, EndsReading, IsOutputOf, IsPlay, IsRead, IsReady}
use Rattle.many_scripts.specs.declared.fault.ManyFault.{ManyFault}
use Rattle.many_scripts.specs.declared.fault.ManyFault.TheVariants.{NoThread, Write, Read, Missing, Torn, Memory}
use Rattle.many_scripts.proofs.Counting.{IsFrom, all_from, total}

-- new clients, with the numbers from this one on
abbrev pub NewFrom : ℕ → List PlainVersion → List ClientView → Type 0
NewFrom number seen [] = Unit {0}
NewFrom number seen (c ∷ cs) = IsNew number seen c × NewFrom (number + 1) seen cs

pub new_from : (clients : List ClientView) (number : ℕ) (seen : List PlainVersion) → ((i : ℕ) → i < length clients → IsSomeAnd (slice_get clients i) (IsNew (i + number) seen)) → NewFrom number seen clients
new_from [] number seen each = tt
new_from (c ∷ cs) number seen each = (
  subst (λ n. IsNew n seen c) (let n : 0 + number ≡ number = omega arith in n) (each 0 (omega arith)),
  new_from cs (number + 1) seen
      (λ i within. subst (λ n. IsSomeAnd (slice_get cs i) (IsNew n seen)) (let n : suc i + number ≡ i + (number + 1) = omega arith in n) (each (suc i) (omega (arith, within)))),
)

all_unmap : {X Y : Type 0} (f : Y → X) (P : X → Type 0) (ys : List Y) → All P (map f ys) → All (λ y. P (f y)) ys
all_unmap f P [] all = All-nil (λ y. P (f y))
all_unmap f P (y ∷ ys) all = All-cons (λ z. P (f z)) y ys (All-head P (f y) (map f ys) all) (all_unmap f P ys (All-tail P (f y) (map f ys) all))

-- what holds of each client or script holds of those of each seat
pub all_seated : {S C R : Type 0} (seats : List S) (client : S → C) (script : S → R) (clients : List C) (scripts : List R) (P : C → Type 0) → AreSeats seats client script clients scripts → All P clients → All (λ s. P (client s)) seats
all_seated seats client script clients scripts P are all = all_unmap client P seats (subst (All P) (sym are.clients_are) all)

pub all_scripts : {S C R : Type 0} (seats : List S) (client : S → C) (script : S → R) (clients : List C) (scripts : List R) (P : R → Type 0) → AreSeats seats client script clients scripts → All P scripts → All (λ s. P (script s)) seats
all_scripts seats client script clients scripts P are all = all_unmap script P seats (subst (All P) (sym are.scripts_are) all)

all_same : {C X : Type 0} (x : X) (clients : List C) → All (λ y. y ≡ x) (map (λ client. x) clients)
all_same x [] = All-nil (λ y. y ≡ x)
all_same x (client ∷ clients) = All-cons (λ y. y ≡ x) x (map (λ c. x) clients) refl (all_same x clients)

-- what is the same for each client is the same in each seat
pub alike : {S C X : Type 0} (seats : List S) (told_in : S → X) (x : X) (clients : List C) → map told_in seats ≡ map (λ client. x) clients → All (λ s. told_in s ≡ x) seats
alike seats told_in x clients same = all_unmap told_in (λ y. y ≡ x) seats (subst (All (λ y. y ≡ x)) (sym same) (all_same x clients))

new_heard : (number : ℕ) (first : PlainVersion) (c : ClientView) → IsNew number (first ∷ []) c → HasHeard c
new_heard number first c new = record {
  some = let one = ap length new.2 in omega (arith, one);
  named = subst (All (λ e. HasSeen c e.reply)) (sym new.1) (All-nil (λ e. HasSeen c e.reply));
}

all_heard : (clients : List ClientView) (number : ℕ) (first : PlainVersion) → NewFrom number (first ∷ []) clients → All HasHeard clients
all_heard [] number first new = All-nil HasHeard
all_heard (c ∷ cs) number first new = All-cons HasHeard c cs (new_heard number first c new.0) (all_heard cs (number + 1) first new.1)

all_new : (clients : List ClientView) (number : ℕ) (first : PlainVersion) → NewFrom number (first ∷ []) clients → All (λ (c : ClientView). c.calls ≡ []) clients
all_new [] number first new = All-nil (λ (c : ClientView). c.calls ≡ [])
all_new (c ∷ cs) number first new = All-cons (λ (d : ClientView). d.calls ≡ []) c cs new.0.1 (all_new cs (number + 1) first new.1)

numbered : (clients : List ClientView) (n : ℕ) (seen : List PlainVersion) → AreNew seen n clients → NewFrom 1 seen clients
numbered clients n seen new = new_from clients 1 seen (λ i within. new.1 i (subst (λ m. i < m) new.0 within))

pub fresh_heard : (clients : List ClientView) (n : ℕ) (first : PlainVersion) → AreNew (first ∷ []) n clients → All HasHeard clients
fresh_heard clients n first new = all_heard clients 1 first (numbered clients n (first ∷ []) new)

pub fresh_new : (clients : List ClientView) (n : ℕ) (first : PlainVersion) → AreNew (first ∷ []) n clients → All (λ (c : ClientView). c.calls ≡ []) clients
fresh_new clients n first new = all_new clients 1 first (numbered clients n (first ∷ []) new)

-- seats whose clients are new, and whose readers can count a failure, are ready
pub all_ready : {S R : Type 0} (seats : List S) (client : S → ClientView) (script : S → R) (failures : R → ℕ) → All (λ s. HasHeard (client s)) seats → All (λ s. (client s).calls ≡ []) seats → All (λ s. failures (script s) < 2 ^ 64 - 1) seats
    → All (λ s. IsReady failures (client s) (script s)) seats
all_ready [] client script failures heard new reads = All-nil (λ s. IsReady failures (client s) (script s))
all_ready (s ∷ ss) client script failures heard new reads = All-cons (λ t. IsReady failures (client t) (script t)) s ss
    (record {
      heard = All-head (λ t. HasHeard (client t)) s ss heard;
      new = All-head (λ t. (client t).calls ≡ []) s ss new;
      reads = All-head (λ t. failures (script t) < 2 ^ 64 - 1) s ss reads;
    })
    (all_ready ss client script failures (All-tail (λ t. HasHeard (client t)) s ss heard) (All-tail (λ t. (client t).calls ≡ []) s ss new) (All-tail (λ t. failures (script t) < 2 ^ 64 - 1) s ss reads))

module _ {S P R : Type 0} (seated : S → ClientView) (script : S → R) (client : P → ClientView) (text : P → List ℕ) (format : Format) (remaining : R → Option (List ℕ)) (failures : R → ℕ) where
  -- the result of a seat
  abbrev pub CameOf : S → Result P ManyFault → Type 0
  CameOf seat play = MatchResult play (λ done. IsPlay format remaining failures (seated seat) (script seat) (client done) (text done)) (EndsReading remaining failures (script seat))

  pub record Assembled (log : List Entry) (versions : List PlainVersion) (number : ℕ) (seats : List S) (done : List P) : Type 0 where
    pub read : List (List ℕ)
    pub told : List (List ℕ)
    pub are_read : AllZip (IsRead remaining failures) (map script seats) read
    pub played : AreOfLog format log versions number read told
    pub output : flat_map text done ≡ scripts_text format number told
    pub count : length read ≡ length seats
    pub calls : sum_by (λ c. length c.calls) (map client done) ≡ total number seats log

  pub assemble : (log : List Entry) (versions first : List PlainVersion) (number : ℕ) (seats : List S) (done : List P)
      → AllZip CameOf seats (map Ok done) → NewFrom number first (map seated seats) → All (Agrees log) (map client done) → All (GoesWith versions) (map client done)
      → Assembled log versions number seats done
  assemble log versions first number [] [] came new agree seen = record { read = []; told = []; are_read = tt; played = refl; output = refl; count = refl; calls = refl }
  assemble log versions first number [] (d ∷ ds) came new agree seen = absurd came
  assemble log versions first number (s ∷ ss) [] came new agree seen = absurd came
  assemble log versions first number (s ∷ ss) (d ∷ ds) came new agree seen =
      let play : IsPlay format remaining failures (seated s) (script s) (client d) (text d) = came.0 in
      let numbered : (seated s).number ≡ number = new.0.0 in
      let agrees : (client d).calls ≡ entries_of (client d).number log = All-head (Agrees log) (client d) (map client ds) agree in
      let goes = All-head (GoesWith versions) (client d) (map client ds) seen in
      let same : (client d).calls ≡ entries_of number log = agrees ∙ ap (λ n. entries_of n log) (play.number ∙ numbered) in
      let rest = assemble log versions first (number + 1) ss ds came.1 new.1 (All-tail (Agrees log) (client d) (map client ds) agree) (All-tail (GoesWith versions) (client d) (map client ds) seen) in
      let summed = sum_by-cons (λ (c : ClientView). length c.calls) (client d) (map client ds) in
      let here = ap length same in
      let others = rest.calls in
      record {
        read = play.read ∷ rest.read;
        told = play.told ∷ rest.told;
        are_read = (play.is_read, rest.are_read);
        played = (
          record {
            seen = (client d).seen;
            goes_with = goes.one_begins;
            played = subst (λ es. IsPlayed format 1 number (client d).seen [] (lines_of play.read) es play.told) same
                (subst (λ who. IsPlayed format 1 who (client d).seen [] (lines_of play.read) (client d).calls play.told) numbered play.played);
          },
          rest.played,
        );
        output = ap (λ t. t ++ flat_map text ds) (play.text_is ∙ ap (λ n. script_text format n play.told) numbered) ∙ ap (λ o. script_text format number play.told ++ o) rest.output;
        count = let c = rest.count in omega (arith, c);
        calls = omega (arith, summed, here, others);
      }

  -- the seat whose script ended by the fault
  ended : (seats : List S) (plays : List (Result P ManyFault)) → AllZip CameOf seats plays → (k : ℕ) (fault : ManyFault) → k < length plays → slice_index_or plays k (Err fault) ≡ Err fault
      → (seat : S) × ((j : ℕ) × (j < length (map script seats)) × (slice_index_or (map script seats) j (script seat) ≡ script seat)) × EndsReading remaining failures (script seat) fault
  ended [] [] came k fault within is = absurd (omega (arith, within))
  ended [] (p ∷ ps) came k fault within is = absurd came
  ended (s ∷ ss) [] came k fault within is = absurd came
  ended (s ∷ ss) (p ∷ ps) came zero fault within is = (s, (0, omega arith, refl), subst (λ q. CameOf s q) is came.0)
  ended (s ∷ ss) (p ∷ ps) came (suc k) fault within is =
      let (seat, (j, below, at), ends) = ended ss ps came.1 k fault (omega (arith, within)) is in
      (seat, (suc j, omega (arith, below), at), ends)

  ends_by : (scripts : List R) (seat : S) (fault : ManyFault) → Contains scripts (script seat) → EndsReading remaining failures (script seat) fault → EndsBy remaining failures scripts fault
  ends_by scripts seat Read there ends = (script seat, there, ends)
  ends_by scripts seat Write there ends = absurd ends
  ends_by scripts seat NoThread there ends = tt
  ends_by scripts seat Missing there ends = tt
  ends_by scripts seat Torn there ends = tt
  ends_by scripts seat Memory there ends = tt

  pub ends_so : (seats : List S) (plays : List (Result P ManyFault)) (scripts : List R) (fault : ManyFault) (fresh : List ClientView) → AreSeats seats seated script fresh scripts → AllZip CameOf seats plays
      → ((fault ≡ Memory) ⊎ Contains plays (Err fault)) → EndsBy remaining failures scripts fault
  ends_so seats plays scripts fault fresh are came (inl memory) = subst (λ f. EndsBy remaining failures scripts f) (sym memory) tt
  ends_so seats plays scripts fault fresh are came (inr (k, within, is)) =
      let (seat, there, ends) = ended seats plays came k fault within is in
      ends_by scripts seat fault (subst (λ l. Contains l (script seat)) are.scripts_are there) ends

  -- the whole output
  pub whole_output : (graph : PlainGraph) (log : TableView) (first : List PlainVersion) (n : ℕ) (seats : List S) (plays : List (Result P ManyFault)) (clients fresh : List ClientView) (scripts : List R) (output whole : List ℕ) (opened : State)
      → AllZip CameOf seats plays → AreGathered plays client text clients output → AreSeats seats seated script fresh scripts → AreNew first n fresh
      → IsClosed log clients → opening_of log.state ≡ opened → opened ≡ opening_state graph → whole ≡ output ++ log_line format (length log.history)
      → IsOutputOf format remaining failures graph scripts whole
  whole_output graph log first n seats plays clients fresh scripts output whole opened came gathered are new closed opening is text_is =
      let same = gathered.clients_are in
      let parts = assemble log.history log.state.versions first 1 seats gathered.done
      (subst (AllZip CameOf seats) gathered.plays_are came)
      (subst (NewFrom 1 first) (sym are.clients_are) (new_from fresh 1 first (λ i within. new.1 i (subst (λ m. i < m) new.0 within))))
      (subst (All (Agrees log.history)) same closed.agree)
      (subst (All (GoesWith log.state.versions)) same closed.seen) in
      let counted = sym parts.calls ∙ ap (sum_by (λ (c : ClientView). length c.calls)) (sym same) ∙ closed.counted in
      let enough = parts.count in
      record {
        read = parts.read;
        are_read = subst (λ l. AllZip (IsRead remaining failures) l parts.read) are.scripts_are parts.are_read;
        is_output = record {
          log = log.history;
          last = log.state;
          legal = subst (λ s. Replays s log.history log.state) (opening ∙ is) closed.replayed;
          of_scripts = All-weaker (IsFrom 1 seats) (λ e. (0 < e.who) × (e.who ≤ length parts.read))
              (λ e from. (let low = from.0 in omega (arith, low), let high = from.1 in omega (arith, high, enough)))
              log.history (all_from seats 1 log.history counted);
          texts = parts.told;
          played = parts.played;
          whole = text_is ∙ ap (λ o. o ++ log_line format (length log.history)) (gathered.output_is ∙ parts.output);
        };
      }

-- what came of the seats, said of the clients before and after
module _ {S P R : Type 0} (seated : S → ClientView) (script : S → R) (client : P → ClientView) (text : P → List ℕ) (format : Format) (remaining : R → Option (List ℕ)) (failures : R → ℕ) where
  of_seats : (seats : List S) (done : List P) → AllZip (CameOf seated script client text format remaining failures) seats (map Ok done)
      → AllZip (λ (seat : ClientView × R) (play : ClientView × List ℕ). IsPlay format remaining failures seat.0 seat.1 play.0 play.1) (zip (map seated seats) (map script seats)) (map (λ d. (client d, text d)) done)
  of_seats [] [] came = tt
  of_seats [] (d ∷ ds) came = absurd came
  of_seats (s ∷ ss) [] came = absurd came
  of_seats (s ∷ ss) (d ∷ ds) came = (came.0, of_seats ss ds came.1)

  clients_of : (done : List P) → map client done ≡ map (λ (play : ClientView × List ℕ). play.0) (map (λ d. (client d, text d)) done)
  clients_of [] = refl
  clients_of (d ∷ ds) = ap (λ l. client d ∷ l) (clients_of ds)

  texts_of : (done : List P) → flat_map text done ≡ flat_map (λ (play : ClientView × List ℕ). play.1) (map (λ d. (client d, text d)) done)
  texts_of [] = refl
  texts_of (d ∷ ds) = ap (λ l. text d ++ l) (texts_of ds)

  pub are_played : (seats : List S) (plays : List (Result P ManyFault)) (clients fresh : List ClientView) (scripts : List R) (output : List ℕ)
      → AllZip (CameOf seated script client text format remaining failures) seats plays → AreGathered plays client text clients output → AreSeats seats seated script fresh scripts
      → ArePlayed format remaining failures fresh scripts clients output
  are_played seats plays clients fresh scripts output came gathered are = record {
    done = map (λ d. (client d, text d)) gathered.done;
    played = subst (λ (l : List ClientView). AllZip (λ (seat : ClientView × R) (play : ClientView × List ℕ). IsPlay format remaining failures seat.0 seat.1 play.0 play.1) (zip l scripts) (map (λ d. (client d, text d)) gathered.done)) are.clients_are
        (subst (λ (l : List R). AllZip (λ (seat : ClientView × R) (play : ClientView × List ℕ). IsPlay format remaining failures seat.0 seat.1 play.0 play.1) (zip (map seated seats) l) (map (λ d. (client d, text d)) gathered.done)) are.scripts_are
        (of_seats seats gathered.done (subst (AllZip (CameOf seated script client text format remaining failures) seats) gathered.plays_are came)));
    clients_are = gathered.clients_are ∙ clients_of gathered.done;
    texts_are = gathered.output_is ∙ texts_of gathered.done;
  }

module _ {R : Type 0} (format : Format) (remaining : R → Option (List ℕ)) (failures : R → ℕ) where
  all_done : (seats : List (ClientView × R)) (done : List (ClientView × List ℕ))
      → AllZip (λ (seat : ClientView × R) (play : ClientView × List ℕ). IsPlay format remaining failures seat.0 seat.1 play.0 play.1) seats done
      → AllZip (CameOf (λ (seat : ClientView × R). seat.0) (λ (seat : ClientView × R). seat.1) (λ (play : ClientView × List ℕ). play.0) (λ (play : ClientView × List ℕ). play.1) format remaining failures) seats (map Ok done)
  all_done [] [] played = tt
  all_done [] (d ∷ ds) played = absurd played
  all_done (s ∷ ss) [] played = absurd played
  all_done (s ∷ ss) (d ∷ ds) played = (played.0, all_done ss ds played.1)

  firsts : (fresh : List ClientView) (scripts : List R) → length fresh ≡ length scripts → map (λ (seat : ClientView × R). seat.0) (zip fresh scripts) ≡ fresh
  firsts [] scripts same = refl
  firsts (c ∷ cs) [] same = absurd (omega (arith, same))
  firsts (c ∷ cs) (r ∷ rs) same = ap (λ l. c ∷ l) (firsts cs rs (omega (arith, same)))

  seconds : (fresh : List ClientView) (scripts : List R) → length fresh ≡ length scripts → map (λ (seat : ClientView × R). seat.1) (zip fresh scripts) ≡ scripts
  seconds [] [] same = refl
  seconds [] (r ∷ rs) same = absurd (omega (arith, same))
  seconds (c ∷ cs) [] same = absurd (omega (arith, same))
  seconds (c ∷ cs) (r ∷ rs) same = ap (λ l. r ∷ l) (seconds cs rs (omega (arith, same)))

  -- the output of clients that were new and have played
  pub output_of_played : (graph : PlainGraph) (first : List PlainVersion) (n : ℕ) (fresh clients : List ClientView) (scripts : List R) (texts output : List ℕ) (opening : State)
      → ArePlayed format remaining failures fresh scripts clients texts → IsWhole format opening clients texts output → length fresh ≡ length scripts → AreNew first n fresh → opening ≡ opening_state graph
      → IsOutputOf format remaining failures graph scripts output
  output_of_played graph first n fresh clients scripts texts output opening played whole same new is =
      whole_output (λ (seat : ClientView × R). seat.0) (λ (seat : ClientView × R). seat.1) (λ (play : ClientView × List ℕ). play.0) (λ (play : ClientView × List ℕ). play.1) format remaining failures
      graph whole.log first n (zip fresh scripts) (map Ok played.done) clients fresh scripts texts output opening
      (all_done (zip fresh scripts) played.done played.played)
      (record { done = played.done; plays_are = refl; clients_are = played.clients_are; output_is = played.texts_are })
      (record { clients_are = firsts fresh scripts same; scripts_are = seconds fresh scripts same })
      new whole.closed whole.opened is whole.output_is

  otherwise : (scripts : List R) (fault : ManyFault) → fault ≢ Read → fault ≢ Write → EndsBy remaining failures scripts fault
  otherwise scripts Read unread unwritten = absurd (unread refl)
  otherwise scripts Write unread unwritten = absurd (unwritten refl)
  otherwise scripts NoThread unread unwritten = tt
  otherwise scripts Missing unread unwritten = tt
  otherwise scripts Torn unread unwritten = tt
  otherwise scripts Memory unread unwritten = tt

  module _ {W O : Type 0} (clients : W → List ClientView) (texts : W → List ℕ) (bytes : O → List ℕ) where
    pub comes_out : (gathered : Result W ManyFault) (result : Result O ManyFault) (graph : PlainGraph) (first : List PlainVersion) (n : ℕ) (fresh : List ClientView) (scripts : List R) (opening : State)
        → IfOk gathered (λ ended. ArePlayed format remaining failures fresh scripts (clients ended) (texts ended))
        → IfOk result (λ output. IsOkAnd gathered (λ ended. IsWhole format opening (clients ended) (texts ended) (bytes output)))
        → length fresh ≡ length scripts → AreNew first n fresh → opening ≡ opening_state graph
        → IfOk result (λ output. IsOutputOf format remaining failures graph scripts (bytes output))
    comes_out gathered (Err fault) graph first n fresh scripts opening played whole same new is = tt
    comes_out (Err fault) (Ok output) graph first n fresh scripts opening played whole same new is = absurd whole
    comes_out (Ok ended) (Ok output) graph first n fresh scripts opening played whole same new is =
        output_of_played graph first n fresh (clients ended) scripts (texts ended) (bytes output) opening played whole same new is

  pub comes_to_fault : {W O : Type 0} (gathered : Result W ManyFault) (result : Result O ManyFault) (scripts : List R)
      → IfErr gathered (EndsBy remaining failures scripts) → IfErr result (λ fault. (gathered ≡ Err fault) ⊎ ((fault ≢ Read) × (fault ≢ Write)))
      → IfErr result (EndsBy remaining failures scripts)
  comes_to_fault gathered (Ok output) scripts ends err = tt
  comes_to_fault gathered (Err fault) scripts ends (inl same) = subst (λ (r : Result _ _). IfErr r (EndsBy remaining failures scripts)) same ends
  comes_to_fault gathered (Err fault) scripts ends (inr (unread, unwritten)) = otherwise scripts fault unread unwritten

module _ {S T R : Type 0} (client : S → ClientView) (script : S → R) (told_in : S → Format) (text : S → Result T ManyFault) (items : T → List ℕ) (format : Format) (remaining : R → Option (List ℕ)) (failures : R → ℕ) where
  came : (seat : S) (c : ClientView) (r : Result T ManyFault) → told_in seat ≡ format → MatchResult r (λ t. IsPlay (told_in seat) remaining failures (client seat) (script seat) c (items t)) (EndsReading remaining failures (script seat))
      → CameOf client script (λ (played : ClientView × T). played.0) (λ played. items played.1) format remaining failures seat (with_client c r)
  came seat c (Ok t) same is = subst (λ f. IsPlay f remaining failures (client seat) (script seat) c (items t)) same is
  came seat c (Err fault) same is = is

  -- the result of each seat, with its client
  each_came : (seats ended : List S) → All (λ s. told_in s ≡ format) seats → AllZip (λ before after. MatchResult (text after) (λ t. IsPlay (told_in before) remaining failures (client before) (script before) (client after) (items t)) (EndsReading remaining failures (script before))) seats ended
      → AllZip (CameOf client script (λ (played : ClientView × T). played.0) (λ played. items played.1) format remaining failures) seats (map (λ seat. with_client (client seat) (text seat)) ended)
  each_came [] [] alike is = tt
  each_came [] (e ∷ es) alike is = absurd is
  each_came (s ∷ ss) [] alike is = absurd is
  each_came (s ∷ ss) (e ∷ es) alike is =
      (came s (client e) (text e) (All-head (λ t. told_in t ≡ format) s ss alike) is.0, each_came ss es (All-tail (λ t. told_in t ≡ format) s ss alike) is.1)

  -- the same where these stand in a list that is equal to it
  pub each_came_back : (seats ended back : List S) → All (λ s. told_in s ≡ format) seats → back ≡ ended
      → AllZip (λ before after. MatchResult (text after) (λ t. IsPlay (told_in before) remaining failures (client before) (script before) (client after) (items t)) (EndsReading remaining failures (script before))) seats ended
      → AllZip (CameOf client script (λ (played : ClientView × T). played.0) (λ played. items played.1) format remaining failures) seats (map (λ seat. with_client (client seat) (text seat)) back)
  each_came_back seats ended back alike same is =
      subst (λ l. AllZip (CameOf client script (λ (played : ClientView × T). played.0) (λ played. items played.1) format remaining failures) seats (map (λ seat. with_client (client seat) (text seat)) l)) (sym same) (each_came seats ended alike is)
