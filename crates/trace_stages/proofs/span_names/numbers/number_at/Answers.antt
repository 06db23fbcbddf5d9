use Rattle.std.proofs.Common.{◌≡◌, ◌+◌, None, ap, sym, ◌∙◌}
use Rattle.std.specs.Prelude.{slice_get, unwrap_or}
use Rattle.std.specs.HashMap.{get_by_text}
use Rattle.trace_stages.proofs.Counting.{number_told}
use Rattle.trace_stages.proofs.span_names.numbers.number_at.Goals as goal

pub returns-in-Some : goal.returns-in-Some
returns-in-Some c = λ bases order counted numbered at.
    let count = unwrap_or (get_by_text c.args.numbers.now.counts c.args.base.now) 0 in
    let number : c.given.result ≡ unwrap_or (slice_get c.args.numbers.now.numbers.items c.args.place) None =
    c.given.ensures ∙ ap (λ numbers. unwrap_or (slice_get numbers c.args.place) None) c.deref.ensures.value in
    ap (λ n. unwrap_or n (count + 1)) (sym c.in-Some.is ∙ number)
    ∙ number_told bases order c.args.place count c.args.base.now c.args.numbers.now.numbers.items numbered at (counted c.args.base.now)

pub returns-in-None : goal.returns-in-None
returns-in-None c = λ bases order counted numbered at.
    let number : c.given.result ≡ unwrap_or (slice_get c.args.numbers.now.numbers.items c.args.place) None =
    c.given.ensures ∙ ap (λ numbers. unwrap_or (slice_get numbers c.args.place) None) c.deref.ensures.value in
    ap (λ n. unwrap_or n (c.count_of.result + 1)) (sym c.in-None.is ∙ number)
    ∙ number_told bases order c.args.place c.count_of.result c.args.base.now c.args.numbers.now.numbers.items numbered at (c.count_of.ensures ∙ counted c.args.base.now)
