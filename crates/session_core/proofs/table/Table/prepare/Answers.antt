use Rattle.std.proofs.Common.{rules, ◌≡◌, ◌<◌, ◌-◌, min, vec_len, Some, refl, sym, subst, ap, ◌∙◌, length}
use Rattle.std.specs.Vec.{vec_capacity}
use Rattle.version_store.specs.Plain.{PlainDraft, PlainVersion, numbered}
use Rattle.session_core.specs.declared.event.Event.TheVariants.{Commit}
use Rattle.session_core.specs.declared.event.Reply.TheVariants.{Refused}
use Rattle.session_core.specs.Adding.{IsAtBase, IsOfState}
use Rattle.session_core.specs.Machine.{State, book}
use Rattle.session_core.specs.Ready.{PlainReady}
use Rattle.session_core.specs.TableView.{TableView}
use Rattle.session_core.proofs.Commits.{ready}
use Rattle.session_core.proofs.Legal.{keeps_versions}
use Rattle.session_core.proofs.table.Table.prepare.Goals as goal

pub invariant_of-self-in-Err : goal.invariant_of-self-in-Err
invariant_of-self-in-Err g c =
    let s = c.self.inside.machine.state in
    let step : book s (Commit c.args.session c.base-base.result c.in_ok-edit.edit) ≡ Some (Refused c.in-Err.refusal, s) = search rules in
    keeps_versions s s _ _ _ _ c.self.invariant step (refl, refl) c.reserve.ensures.items c.push_reserved.ensures.items

pub returns : goal.returns
returns g c =
    let draft : PlainDraft = c.args.draft.now in
    let t : TableView = record {
      state = c.reserve-2.new.self.state;
      history = c.reserve.new.self.items;
      room = min c.reserve-2.new.self.room (vec_capacity c.reserve.new.self - vec_len c.reserve.new.self);
    } in
    let r : PlainReady = record { who = c.args.who; session = c.args.session; base = c.base-base.result; edits = c.in_ok-edit.edit; version = c.in_ok-version.version } in
    let was : t.state ≡ c.self.inside.machine.state = search rules in
    let now : t.state ≡ c.args.self.now.state = search rules in
    let history : t.history ≡ c.args.self.now.history = search rules in
    let base : r.base ≡ draft.origin.number = c.base-base.ensures in
    let edits : r.edits ≡ draft.origin.edits = search rules in
    let at : IsAtBase t.state r.session r.base =
    subst (λ (s : State). IsAtBase s r.session r.base) (sym was) (subst (IsAtBase c.self.inside.machine.state r.session) (sym base) c.in_default.ensures) in
    let own : IsOfState t.state r.session draft = subst (λ (s : State). IsOfState s r.session draft) (sym now) c.requires in
    let version : r.version ≡ numbered draft (length t.state.versions) = c.in_ok-version.ensures ∙ ap (numbered draft) c.next.ensures in
    let room : 0 < t.room = search rules in (
      (now, history),
      ready t r draft room at own c.edit.ensures.made base edits version,
      record { by_whom = refl; same_session = refl; same_base = base; same_edits = edits; version = version ∙ ap (numbered draft) (sym (ap (λ (v : PlainVersion). v.number) version)) },
    )
