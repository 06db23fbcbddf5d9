use Rattle.std.proofs.Common.{◌≡◌, ◌++◌}
use Rattle.many_scripts.specs.declared.fault.ManyFault.TheVariants.{Memory}
use Rattle.many_scripts.proofs.GatheredMore.{SoFar}
use Rattle.many_scripts.proofs.gathering.gather.Given as goal

abbrev pub invariant-loop-seat : goal.invariant-loop-seat
invariant-loop-seat g l =
    (l.initial.seat-iterator.rest.items ≡ l.yielded ++ l.seat-iterator.rest.items)
    × SoFar (λ seat. seat.client) (λ seat. seat.text) (λ text. text.items) (λ ended. ended.clients.items) (λ ended. ended.texts.items) Memory l.yielded l.gathered
