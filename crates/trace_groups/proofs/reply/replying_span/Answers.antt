use Rattle.std.proofs.Common.{◌∙◌, ℕ, List, Option, take_all, ap, sym}
use Rattle.std.specs.Prelude.{find, option_copied}
use Rattle.trace_groups.specs.Replies.{answers_for}
use Rattle.trace_groups.proofs.Finding.{found_now, none_more}
use Rattle.trace_groups.proofs.reply.replying_span.Goals as goal

pub loop-place-preserved : goal.loop-place-preserved
loop-place-preserved c =
    let test = answers_for c.args.spans.now c.as_slice-parents.result.now (option_copied c.args.wanted) in
    let order = c.as_slice-order.result.now in
    let k = c.loop-place.place-index in
    none_more test order k c.loop-place-test.true c.loop-place.invariant (sym c.in_ok-answers_for.ensures ∙ c.if-branch.false)

pub returns-then-branch : goal.returns-then-branch
returns-then-branch c =
    let parents = c.as_slice-parents in
    let test = answers_for c.args.spans.now parents.result.now (option_copied c.args.wanted) in
    let order = c.as_slice-order in
    let k = c.loop-place.place-index in
    sym (found_now test order.result.now k c.loop-place-test.true c.loop-place.invariant (sym c.in_ok-answers_for.ensures ∙ c.if-branch.true))
    ∙ ap (λ (those : List (Option ℕ)). find (answers_for c.args.spans.now those (option_copied c.args.wanted)) order.result.now) parents.ensures.value
    ∙ ap (find (answers_for c.args.spans.now c.args.relations.now.parents.items (option_copied c.args.wanted))) order.ensures.value

pub returns : goal.returns
returns c =
    let parents = c.as_slice-parents in
    let order = c.as_slice-order in
    sym (c.loop-place.invariant)
    ∙ ap (find (answers_for c.args.spans.now parents.result.now (option_copied c.args.wanted))) (take_all c.loop-place.place-index order.result.now c.loop-place-test.false)
    ∙ ap (λ (those : List (Option ℕ)). find (answers_for c.args.spans.now those (option_copied c.args.wanted)) order.result.now) parents.ensures.value
    ∙ ap (find (answers_for c.args.spans.now c.args.relations.now.parents.items (option_copied c.args.wanted))) order.ensures.value
