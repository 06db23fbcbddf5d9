use Rattle.std.proofs.Common.{[], ◌∷◌, ◌++◌, append_assoc, arith, refl, sym, ap, ◌∙◌}
use Rattle.many_scripts.specs.declared.fault.ManyFault.TheVariants.{Memory}
use Rattle.many_scripts.proofs.GatheredMore.{all_gathered, if_err, if_ok, one_more}
use Rattle.many_scripts.proofs.gathering.gather.Goals as goal

pub loop-seat-init : goal.loop-seat-init
loop-seat-init g c = (refl, record { done = []; plays_are = refl; clients_are = c.new-clients.ensures.items; output_is = c.new-texts.ensures.items })

pub loop-seat-preserved : goal.loop-seat-preserved
loop-seat-preserved g c =
    let so_far = c.loop-seat.invariant in (
      so_far.0 ∙ ap (λ rest. c.loop-seat.yielded ++ rest) c.in-Some.ensures.steps.0 ∙ sym (append_assoc c.loop-seat.yielded (c.in-Some.seat ∷ []) c.next.new.self.rest.items),
      one_more (λ seat. seat.client) (λ seat. seat.text) (λ text. text.items) (λ ended. ended.clients.items) (λ ended. ended.texts.items) Memory
          c.loop-seat.yielded c.in-Some.seat c.loop-seat.gathered c.with_one_more-gathered.result so_far.1 c.with_one_more-gathered.ensures.ok c.with_one_more-gathered.ensures.err,
    )

pub returns-clause-ok : goal.returns-clause-ok
returns-clause-ok g c =
    if_ok _ _ c.loop-seat.gathered
    (all_gathered (λ seat. seat.client) (λ seat. seat.text) (λ text. text.items) (λ ended. ended.clients.items) (λ ended. ended.texts.items) Memory
    c.args.seats.items c.loop-seat.yielded c.loop-seat.seat-iterator.rest.items c.loop-seat.gathered
    (sym c.into_iter-seat-iterator.ensures.into_iter_gives.0 ∙ c.loop-seat.invariant.0)
    (let empty = c.in-None.ensures.steps.0 in let fits = c.loop-seat.seat-iterator.rest.ok.0 in omega (arith, empty, fits))
    c.loop-seat.invariant.1)

pub returns-clause-err : goal.returns-clause-err
returns-clause-err g c =
    if_err _ _ c.loop-seat.gathered
    (all_gathered (λ seat. seat.client) (λ seat. seat.text) (λ text. text.items) (λ ended. ended.clients.items) (λ ended. ended.texts.items) Memory
    c.args.seats.items c.loop-seat.yielded c.loop-seat.seat-iterator.rest.items c.loop-seat.gathered
    (sym c.into_iter-seat-iterator.ensures.into_iter_gives.0 ∙ c.loop-seat.invariant.0)
    (let empty = c.in-None.ensures.steps.0 in let fits = c.loop-seat.seat-iterator.rest.ok.0 in omega (arith, empty, fits))
    c.loop-seat.invariant.1)
