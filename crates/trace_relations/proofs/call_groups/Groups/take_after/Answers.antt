use Rattle.std.proofs.Common.{◌≡◌, ◌∙◌, Some, None, ap, arith, get_or, refl, rules, sym, subst}
use Rattle.std.specs.Prelude.{slice_get}
use Rattle.std.proofs.lemmas.Option.{slice_get-get_or}
use Rattle.trace_relations.specs.Attempts.{with_try}
use Rattle.trace_relations.specs.Groups.{AreGroups}
use Rattle.trace_relations.proofs.Taking.{has_number_there, has_some_number, none_tries, taken_first, taken_groups}
use Rattle.trace_relations.proofs.call_groups.Groups.take_after.Goals as goal

pub returns-in_err-end-clause-first : goal.returns-in_err-end-clause-first
returns-in_err-end-clause-first c = λ calls order attempts same turn are fails.
    let none : c.from_residual.result ≡ None = search rules in
    none ∙ none_tries calls order attempts c.args.intervals.now c.args.call same (sym c.requires ∙ c.in_err-end.was)

pub returns-in_err-end-clause-taken : goal.returns-in_err-end-clause-taken
returns-in_err-end-clause-taken c = λ calls order attempts same turn are fails.
    let none : c.from_residual.result ≡ None = search rules in
    subst (λ taken. AreGroups calls order (with_try attempts c.args.call taken) c.args.self.now) (sym none) are

pub returns-in_err-number-clause-first : goal.returns-in_err-number-clause-first
returns-in_err-number-clause-first c = λ calls order attempts same turn are fails. absurd (has_some_number calls order attempts c.args.call c.args.self.now are fails (sym c.in_err-number.ensures))

pub returns-in_err-number-clause-taken : goal.returns-in_err-number-clause-taken
returns-in_err-number-clause-taken c = λ calls order attempts same turn are fails. absurd (has_some_number calls order attempts c.args.call c.args.self.now are fails (sym c.in_err-number.ensures))

pub returns-then-count-number-clause-first : goal.returns-then-count-number-clause-first
returns-then-count-number-clause-first c = λ calls order attempts same turn are fails.
    let within = has_number_there calls order attempts c.args.call c.in_ok-number.number c.args.self.now are fails (sym c.in_ok-number.ensures) in
    absurd (omega arith)

pub returns-then-count-number-clause-taken : goal.returns-then-count-number-clause-taken
returns-then-count-number-clause-taken c = λ calls order attempts same turn are fails. are

pub returns-clause-first : goal.returns-clause-first
returns-clause-first c = λ calls order attempts same turn are fails.
    let within = has_number_there calls order attempts c.args.call c.in_ok-number.number c.args.self.now are fails (sym c.in_ok-number.ensures) in
    let value : c.index_mut.result.now ≡ get_or c.args.self.now.groups.items c.in_ok-number.number c.index_mut.result.now = search rules in
    let there : slice_get c.args.self.now.groups.items c.in_ok-number.number ≡ Some c.index_mut.result.now = slice_get-get_or c.args.self.now.groups.items c.in_ok-number.number c.index_mut.result.now within ∙ ap Some (sym value) in
    taken_first calls order attempts c.args.intervals.now c.in_ok-end.end c.args.call c.in_ok-number.number c.args.self.now c.index_mut.result.now c.take_after.result c.take_after.new.self.free
    (record { same = same; turn = turn; are = are; fails = fails; number_is = sym c.in_ok-number.ensures; there = there }) (sym c.requires ∙ c.in_ok-end.was) c.take_after.ensures.taken

pub returns-clause-taken : goal.returns-clause-taken
returns-clause-taken c = λ calls order attempts same turn are fails.
    let within = has_number_there calls order attempts c.args.call c.in_ok-number.number c.args.self.now are fails (sym c.in_ok-number.ensures) in
    let value : c.index_mut.result.now ≡ get_or c.args.self.now.groups.items c.in_ok-number.number c.index_mut.result.now = search rules in
    let there : slice_get c.args.self.now.groups.items c.in_ok-number.number ≡ Some c.index_mut.result.now = slice_get-get_or c.args.self.now.groups.items c.in_ok-number.number c.index_mut.result.now within ∙ ap Some (sym value) in
    taken_groups calls order attempts c.args.intervals.now c.in_ok-end.end c.args.call c.in_ok-number.number c.args.self.now _ c.index_mut.result.now c.take_after.new.self c.take_after.result
    (record { same = same; turn = turn; are = are; fails = fails; number_is = sym c.in_ok-number.ensures; there = there })
    (record { of_spans = refl; groups_are = refl; calls_are = c.take_after.ensures.calls }) c.take_after.ensures.taken
