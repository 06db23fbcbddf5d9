use Rattle.std.proofs.Common.{sym, arith}
use Rattle.std.proofs.lemmas.List.{length-take, take_all}
use Rattle.json_names.specs.declared.circle.TheConstants.{MOST_TOLD}
use Rattle.json_names.proofs.circle.told.Goals as goal

pub slice_bounds-result-end : goal.slice_bounds-result-end
slice_bounds-result-end c = omega (arith, length-take MOST_TOLD c.args.names.now)

pub returns-else-names-gt-MOST_TOLD : goal.returns-else-names-gt-MOST_TOLD
returns-else-names-gt-MOST_TOLD c = sym (take_all MOST_TOLD c.args.names.now (omega arith))
