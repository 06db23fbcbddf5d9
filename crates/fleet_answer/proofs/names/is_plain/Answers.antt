use Rattle.std.proofs.Common.{rules, tests, arith}
use Rattle.std.proofs.lemmas.Iterator.{YieldsList-from_slice}
use Rattle.std.proofs.lemmas.Iterator.Search.{all_from_yields_List}
use Rattle.fleet_answer.specs.Names.{is_plain_byte}
use Rattle.fleet_answer.proofs.Plain.{some_plain}
use Rattle.fleet_answer.proofs.names.is_plain.Goals as goal

pub returns-then-name-gt0 : goal.returns-then-name-gt0
returns-then-name-gt0 c =
    some_plain c.args.name.now c.all.result (omega arith)
    (all_from_yields_List is_plain_byte _ _ c.all.result c.all.ensures.ran (YieldsList-from_slice c.args.name.now cc) (λ x b q k. search (rules, tests)))
