use Rattle.std.proofs.Common.{rules, ◌≡◌, ◌+◌, ◌-◌, ◌≤◌, ◌<◌, ◌++◌, ◌∷◌, [], List, length, take, vec_len, get_or, suc, ap, sym, subst, ◌∙◌, arith}
use Rattle.std.specs.Vec.{vec_capacity}
use Rattle.std.proofs.Math.Seq.{take-suc}
use Rattle.std.proofs.lemmas.List.{append_assoc, take_all}
use Rattle.session_core.specs.declared.event.Event.{Event}
use Rattle.session_core.specs.declared.event.Reply.{Reply}
use Rattle.session_core.specs.Runs.{Runs}
use Rattle.session_core.proofs.HeadlineLemmas.{leads_from_opening}
use Rattle.session_core.proofs.Runs.{Runs-snoc}
use Rattle.session_core.proofs.steps.run.Goals as goal

pub loop-event-preserved : goal.loop-event-preserved
loop-event-preserved g c =
    let i = c.loop-event.event-index in
    let events : List Event = c.args.events.now in
    let given = c.loop-event.invariant.0.0 in
    let item : get_or events i c.event-item.result ≡ c.event-item.result = search rules in
    let low : i < length events = search rules in
    let longer : take (i + 1) events ≡ take i events ++ c.event-item.result ∷ [] =
    let one : i + 1 ≡ suc i = omega arith in ap (λ k. take k events) one ∙ take-suc events i c.event-item.result low ∙ ap (λ (e : Event). take i events ++ e ∷ []) item in
    let runs = Runs-snoc c.args.table.now (take i events) given c.loop-event.table c.event-item.result c.take-reply.result c.take-reply.new.self c.loop-event.invariant.0.2 c.take-reply.ensures.replies in
    let room : vec_len c.push_reserved.new.self + (length events - (i + 1)) ≤ vec_capacity c.push_reserved.new.self = search rules in (
      (
        given ++ c.take-reply.result ∷ [],
        c.push_reserved.ensures.items ∙ ap (λ (l : List Reply). l ++ c.take-reply.result ∷ []) c.loop-event.invariant.0.1 ∙ append_assoc c.args.replies.now.items given (c.take-reply.result ∷ []),
        subst (λ (es : List Event). Runs c.args.table.now es (given ++ c.take-reply.result ∷ []) c.take-reply.new.self) (sym longer) runs,
      ),
      room,
    )

pub returns-clause-leads : goal.returns-clause-leads
returns-clause-leads g c =
    let given = c.loop-event.invariant.0.0 in
    let runs : Runs c.args.table.now c.args.events.now given c.loop-event.table =
    subst (λ (es : List Event). Runs c.args.table.now es given c.loop-event.table) (take_all c.loop-event.event-index c.args.events.now c.loop-event-test.false) c.loop-event.invariant.0.2 in
    (given, c.loop-event.invariant.0.1, leads_from_opening c.args.table.now c.loop-event.table c.args.events.now given c.beginning.ensures runs)
