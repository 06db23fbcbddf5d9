use Rattle.std.proofs.Common.{◌≡◌, arith, sym, ◌∙◌, ⊎_elim, slice_index_or}
use Rattle.std.proofs.lemmas.Bool.{cases_lt}
use Rattle.std.proofs.lemmas.Grind.{get_or_default_zero}
use Rattle.std.proofs.lemmas.List.Sorted.{searched}
use Rattle.propagate.proofs.levels.searched_pass.Goals as goal

-- each place before the answer is less, and each from there on is greater
pub unreachable-requires : goal.unreachable-requires
unreachable-requires g c =
    let found = rw c.in-Err.is at (searched c.args.level.now c.args.place c.binary_search.result c.binary_search.ensures.position c.requires.climbs) in
    let here = c.requires.here in
    let read : slice_index_or c.args.level.now here.0 0 ≡ c.args.place = sym (get_or_default_zero c.args.level.now here.0 c.args.place here.1) ∙ here.2 in
    ⊎_elim
    (λ before. let less = found.1 here.0 before in omega arith)
    (λ after. let greater = found.2 here.0 after here.1 in omega arith)
    (cases_lt here.0 c.in-Err.field-0)
