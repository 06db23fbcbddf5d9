use Rattle.std.proofs.Common.{◌≡◌, ◌+◌, ◌≤◌, ◌++◌, map, length, vec_capacity, vec_len}
use Rattle.many_scripts.proofs.gathering.seats_of.Given as goal

abbrev pub invariant-loop-client : goal.invariant-loop-client
invariant-loop-client g l =
    (l.initial.client-iterator.rest.items ≡ l.yielded ++ l.client-iterator.rest.items)
    × (map (λ seat. seat.client) l.seats.items ≡ l.yielded)
    × (l.initial.sources.rest.items ≡ map (λ seat. seat.source) l.seats.items ++ l.sources.rest.items)
    × (length l.sources.rest.items ≡ length l.client-iterator.rest.items)
    × (vec_len l.seats + length l.client-iterator.rest.items ≤ vec_capacity l.seats)
    × (map (λ seat. seat.format) l.seats.items ≡ map (λ client. l.format) l.yielded)
