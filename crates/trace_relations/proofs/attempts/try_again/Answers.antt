use Rattle.trace_relations.proofs.Trying.{tried_is, tried_kept}
use Rattle.trace_relations.proofs.attempts.try_again.Goals as goal

pub returns-clause-kept : goal.returns-clause-kept
returns-clause-kept c = λ count kept lt.
    tried_kept count c.args.attempts.now (record { next = c.set_at.new.values; previous = c.set_at-2.new.values; first = c.set_at-3.new.values; last = c.set_at-4.new.values }) c.args.call c.args.again c.first_of-first.result kept lt
    (record { first_is = c.first_of-first.ensures; next = c.set_at.ensures; previous = c.set_at-2.ensures; firsts = c.set_at-3.ensures; last = c.set_at-4.ensures })

pub returns-clause-tried : goal.returns-clause-tried
returns-clause-tried c = λ count kept lt lt_again.
    tried_is count c.args.attempts.now (record { next = c.set_at.new.values; previous = c.set_at-2.new.values; first = c.set_at-3.new.values; last = c.set_at-4.new.values }) c.args.call c.args.again c.first_of-first.result kept lt lt_again
    (record { first_is = c.first_of-first.ensures; next = c.set_at.ensures; previous = c.set_at-2.ensures; firsts = c.set_at-3.ensures; last = c.set_at-4.ensures })
