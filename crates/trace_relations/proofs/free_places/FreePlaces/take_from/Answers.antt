use Rattle.std.proofs.Common.{rules}
use Rattle.trace_relations.proofs.FreeRows.{count_below, none_is_first, one_is_first, one_taken}
use Rattle.trace_relations.proofs.free_places.FreePlaces.take_from.Goals as goal

pub returns-then-count-place-clause-first : goal.returns-then-count-place-clause-first
returns-then-count-place-clause-first c = λ count free are.
    let first = c.first_from-place.ensures count free are in
    none_is_first c.shorten.new.self count free c.args.from c.first_from-place.result (c.shorten.ensures count free are first) first (search rules)

pub returns-then-count-place-clause-taken : goal.returns-then-count-place-clause-taken
returns-then-count-place-clause-taken c = λ count free are. c.shorten.ensures count free are (c.first_from-place.ensures count free are)

pub returns-clause-first : goal.returns-clause-first
returns-clause-first c = λ count free are.
    let first = c.first_from-place.ensures count free are in
    one_is_first c.shorten.new.self count free c.args.from c.first_from-place.result (c.shorten.ensures count free are first) first (search rules)

pub returns-clause-taken : goal.returns-clause-taken
returns-clause-taken c = λ count free are.
    let first = c.first_from-place.ensures count free are in
    let shortened = c.shorten.ensures count free are first in
    one_taken c.shorten.new.self _ c.first_from-place.result count free shortened (count_below c.shorten.new.self count free c.first_from-place.result shortened (search rules)) c.set_at.ensures
