use Rattle.std.proofs.Common.{rules, ◌≡◌, ◌+◌, Option, Some, None, List, [], ◌∷◌, ◌++◌, length, slice_get, ap, sym, subst, ◌∙◌, arith, length-append}
use Rattle.std.specs.Arc.{arc_value}
use Rattle.boxcar.specs.Table.{Shelves, Shows}
use Rattle.version_store.specs.Plain.{PlainVersion}
use Rattle.session_core.specs.declared.event.Event.TheVariants.{Commit}
use Rattle.session_core.specs.declared.event.Reply.{Reply}
use Rattle.session_core.specs.declared.event.Reply.TheVariants.{Committed}
use Rattle.session_core.specs.Machine.{State, added}
use Rattle.session_core.specs.Ready.{IsReady}
use Rattle.session_core.specs.TableView.{Books}
use Rattle.session_core.proofs.Standing.{slice_get-end}
use Rattle.desk.proofs.Fronts.{prefix_get}
use Rattle.desk.proofs.Locking.{goes_on}
use Rattle.desk.proofs.shared.Shared.publish.Goals as goal

-- what stands at the end of a list stands at its number
at_end : (xs ys : List PlainVersion) (v : PlainVersion) → ys ≡ xs ++ v ∷ [] → v.number ≡ length xs → slice_get ys v.number ≡ Some v
at_end xs ys v is number = subst (λ (zs : List PlainVersion). slice_get zs v.number ≡ Some v) (sym is) (ap (slice_get (xs ++ v ∷ [])) number ∙ slice_get-end xs v)

abbrev state_in : State → Option (Reply × State) → State
state_in s None = s
state_in s (Some p) = p.1

pub show-requires : goal.show-requires
show-requires g c =
    let front = c.self.inside.front in
    let v = c.version.result.now in
    let longer : c.in_ok-front.front ≡ front ++ v ∷ [] = search rules in
    let number : v.number ≡ length front = search rules in
    let count : c.len.result ≡ length c.in_ok-front.front = search rules in
    let last : v.number + 1 ≡ c.len.result = omega (arith, number, count, ap length longer, length-append front (v ∷ [])) in
    λ now. c.in_ok-front.ensures.next now ∙ last

pub invariant_of-self-2 : goal.invariant_of-self-2
invariant_of-self-2 g c =
    let u = c.self.inside.table in
    let w = c.finish-number.new.self in
    let r = c.args.ready in
    let front = c.self.inside.front in
    let v = r.version in
    let ready : IsReady u r = search rules in
    let locked = c.self.invariant.0 in
    let booked : Books u r.who (Commit r.session r.base r.edits) (Committed c.finish-number.result) w = c.finish-number.ensures.booked in
    let now : w.state ≡ added u.state r.session ready.may.numbers r.version = ap (state_in w.state) (sym booked.0 ∙ ready.booked) in
    let longer : c.in_ok-front.field-0.front ≡ front ++ v ∷ [] = search rules in
    let lists : c.in_ok-front.field-0.front ≡ w.state.versions =
    longer ∙ (ap (λ (xs : List PlainVersion). xs ++ v ∷ []) locked.listed_is ∙ ap (λ (s : State). s.versions) (sym now)) in
    let publishes = c.show.ensures ∙ (c.len.ensures ∙ ap length lists) in
    let last = c.in_ok-front.field-0.last in
    let shows : Shows (arc_value c.self.inside.shelf) last = subst (λ (shelf : Shelves). Shows shelf last) c.deref.ensures c.in_ok-front.ensures.last.0 in
    let index : last.index ≡ v.number = search rules in
    let value : last.value ≡ v = search rules in
    let number : v.number ≡ length front = search rules in
    let ends : last.index + 1 ≡ length c.in_ok-front.field-0.front = omega (arith, index, number, ap length longer, length-append front (v ∷ [])) in
    let there : slice_get c.in_ok-front.field-0.front last.index ≡ Some last.value =
    ap (slice_get c.in_ok-front.field-0.front) index ∙ (at_end front c.in_ok-front.field-0.front v longer number ∙ ap (λ (x : PlainVersion). Some x) (sym value)) in (
      goes_on _ u w front c.in_ok-front.field-0.front _ _ c.self.inside.entries.total c.keep.new.entries.total r.who (Commit r.session r.base r.edits) (Committed c.finish-number.result) locked booked lists publishes c.keep.ensures.entries,
      c.self.invariant.1,
      c.self.invariant.2,
      (shows, ends, there),
    )

pub returns-clause-made : goal.returns-clause-made
returns-clause-made g c =
    let front = c.self.inside.front in
    let mine = c.in_ok-front.field-0.version in
    let v = c.args.ready.version in
    let same : mine ≡ v = search rules in
    let longer : c.in_ok-front.field-0.front ≡ front ++ mine ∷ [] = search rules in
    let number : mine.number ≡ length front = search rules in
    let here = at_end front c.in_ok-front.field-0.front mine longer number in
    let seen : slice_get c.keep.new.client.seen mine.number ≡ Some mine = prefix_get c.in_ok-front.field-0.front c.keep.new.client.seen mine.number mine c.keep.ensures.learns here in
    rw c.new.ensures (seen, same)
