-- What is guarded by the lock stays consistent with each entry.
use Rattle.std.proofs.Common.{◌≡◌, ℕ, ◌+◌, ◌<◌, ◌≤◌, List, [], ◌∷◌, ◌++◌, length, take, Option, Some, None, IfSome, refl, ap, sym, subst, ◌∙◌, arith, length-append}
use mathlib.Core.List.{IsPrefix}
use Rattle.version_store.specs.Plain.{PlainVersion}
use Rattle.session_core.specs.declared.event.Entry.{Entry}
use Rattle.session_core.specs.declared.event.Event.{Event}
use Rattle.session_core.specs.declared.event.Reply.{Reply}
use Rattle.session_core.specs.Kept.{StandAtVersions}
use Rattle.session_core.specs.Log.{entry, opening_of}
use Rattle.session_core.specs.Machine.{State, book}
use Rattle.session_core.specs.TableView.{TableView, Books}
use Rattle.desk.specs.Clients.{ClientView, named, HasSeen}
use Rattle.desk.specs.Locked.{Replays, IsReplayed, IsLocked}
use Rattle.desk.proofs.Fronts.{prefix_length}
use Rattle.desk.proofs.Telling.{Tells, told}

Replays-snoc : (s : State) (log : List Entry) (t : State) (e : Entry) (u : State) → Replays s log t → book t e.event ≡ Some (e.reply, u) → Replays s (log ++ e ∷ []) u
Replays-snoc s [] t e u same step = (u, subst (λ (x : State). book x e.event ≡ Some (e.reply, u)) (sym same) step, refl)
Replays-snoc s (x ∷ xs) t e u rest step = (rest.0, rest.1, Replays-snoc rest.0 xs t e u rest.2 step)

-- a list that grows at its end keeps its elements
first_stays : (xs ys : List PlainVersion) → IsPrefix xs ys → 0 < length xs → take 1 ys ≡ take 1 xs
first_stays [] ys begins some = absurd (omega (arith, some))
first_stays (x ∷ xs) [] begins some = absurd (cc (begins.1))
first_stays (x ∷ xs) (y ∷ ys) begins some = let heads : x ≡ y = cc (begins.1) in ap (λ (z : PlainVersion). z ∷ []) (sym heads)

abbrev opened : List PlainVersion → ℕ → State
opened versions most = record { versions = take 1 versions; most = most; sessions = [] }

opening_stays : (s t : State) (reply : Reply) → Tells s reply t → 0 < length s.versions → opening_of t ≡ opening_of s
opening_stays s t reply tells some =
    ap (λ (most : ℕ). opened t.versions most) tells.most ∙ ap (λ (versions : List PlainVersion). record { versions = versions; most = s.most; sessions = [] }) (first_stays s.versions t.versions tells.grows some)

-- one more entry, with what is then listed, published and counted
pub goes_on : (opening : State) (t u : TableView) (listed then_listed : List PlainVersion) (published then_published counted then_counted : ℕ) (who : ℕ) (event : Event) (reply : Reply)
    → IsLocked opening t listed published counted → Books t who event reply u → then_listed ≡ u.state.versions → then_published ≡ length u.state.versions → then_counted ≡ counted + 1
    → IsLocked opening u then_listed then_published then_counted
goes_on opening t u listed then_listed published then_published counted then_counted who event reply locked books lists publishes counts =
    let tells = told t.state event reply u.state books.0 in
    let e : Entry = entry who event reply in
    let longer : Replays (opening_of t.state) (t.history ++ e ∷ []) u.state = Replays-snoc (opening_of t.state) t.history t.state e u.state locked.replayed books.0 in
    let same : opening_of u.state ≡ opening_of t.state = opening_stays t.state u.state reply tells locked.some in
    let replayed : IsReplayed u.history u.state = subst (λ (log : List Entry). Replays (opening_of u.state) log u.state) (sym books.1) (subst (λ (s : State). Replays s (t.history ++ e ∷ []) u.state) (sym same) longer) in
    let one_more : length u.history ≡ length t.history + 1 = ap length books.1 ∙ length-append t.history (e ∷ []) in
    let before = prefix_length t.state.versions u.state.versions tells.grows in
    record { some = omega (arith, locked.some, before); begins = same ∙ locked.begins; replayed = replayed; listed_is = lists; published_is = publishes; counted_is = omega (arith, counts, locked.counted_is, one_more) }

-- one more entry, where the versions stay
pub stays : (opening : State) (t u : TableView) (listed : List PlainVersion) (published counted then_counted : ℕ) (who : ℕ) (event : Event) (reply : Reply)
    → IsLocked opening t listed published counted → Books t who event reply u → u.state.versions ≡ t.state.versions → then_counted ≡ counted + 1
    → IsLocked opening u listed published then_counted
stays opening t u listed published counted then_counted who event reply locked books same counts =
    goes_on opening t u listed listed published published counted then_counted who event reply locked books (locked.listed_is ∙ sym same) (locked.published_is ∙ ap length (sym same)) counts

-- where nothing was recorded
pub same_locked : (opening : State) (t u : TableView) (listed : List PlainVersion) (published counted : ℕ) → IsLocked opening t listed published counted → u.state ≡ t.state → u.history ≡ t.history → IsLocked opening u listed published counted
same_locked opening t u listed published counted locked state history = record {
  some = subst (λ (s : State). 0 < length s.versions) (sym state) locked.some;
  begins = ap opening_of state ∙ locked.begins;
  replayed = subst (λ (log : List Entry). IsReplayed log u.state) (sym history) (subst (IsReplayed t.history) (sym state) locked.replayed);
  listed_is = locked.listed_is ∙ ap (λ (s : State). s.versions) (sym state);
  published_is = locked.published_is ∙ ap (λ (s : State). length s.versions) (sym state);
  counted_is = locked.counted_is ∙ ap length (sym history);
}

below : (o : Option ℕ) (n m : ℕ) → n ≤ m → IfSome o (λ k. k < n) → IfSome o (λ k. k < m)
below None n m le low = tt
below (Some k) n m le low = omega (arith, low)

-- the version that a reply names is among those that were learned
pub sees_named : (c : ClientView) (s t : State) (event : Event) (reply : Reply) (front : List PlainVersion) → book s event ≡ Some (reply, t) → StandAtVersions s → front ≡ t.versions → IsPrefix front c.seen → HasSeen c reply
sees_named c s t event reply front is standing same learned =
    let tells = told s event reply t is in
    let short : length front ≤ length c.seen = prefix_length front c.seen learned in
    let here : IfSome (named reply) (λ k. k < length front) = subst (λ (vs : List PlainVersion). IfSome (named reply) (λ k. k < length vs)) (sym same) (tells.names standing) in
    below (named reply) (length front) (length c.seen) short here
