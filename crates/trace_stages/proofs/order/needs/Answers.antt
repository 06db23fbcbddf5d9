use Rattle.std.proofs.Common.{◌∙◌, sym, ap}
use Rattle.std.specs.Prelude.{not}
use Rattle.trace_stages.specs.Order.{needs}
use Rattle.trace_stages.proofs.order.needs.Goals as goal

pub returns-in-Join : goal.returns-in-Join
returns-in-Join c = λ order puts. ap (λ b. not b) (c.contains.ensures ∙ (puts c.in-Join.span c.in-Join.number).0) ∙ ap (λ id. needs order id) (sym c.in-Join.is)

pub returns-in-Entry : goal.returns-in-Entry
returns-in-Entry c = λ order puts. ap (λ b. not b) (c.contains-in-Entry.ensures ∙ (puts c.in-Entry.span c.in-Entry.number).1) ∙ ap (λ id. needs order id) (sym c.in-Entry.is)

pub returns-in-Work : goal.returns-in-Work
returns-in-Work c = λ order puts. ap (λ b. not b) (c.contains-in-Work.ensures ∙ (puts c.in-Work.span c.in-Work.number).2) ∙ ap (λ id. needs order id) (sym c.in-Work.is)
