use Rattle.std.proofs.Common.{◌++◌, ◌∙◌, List, ap}
use Rattle.run_comparison.specs.declared.difference.Difference.{Difference}
use Rattle.run_comparison.specs.Differences.{of_bad, of_good}
use Rattle.place_flags.specs.Flags.{is_flagged}
use Rattle.run_comparison.proofs.differences.of_both.Goals as goal

pub returns : goal.returns
returns g c =
    let good = c.args.good.now.graph in
    let bad = c.args.bad.now.graph in
    let of = of_bad good (is_flagged c.args.on_good_path.now) bad (is_flagged c.args.on_bad_path.now) in
    c.in_ok-push_of_good.ensures
    ∙ ap (λ (first : List Difference). first ++ of_good good bad)
    (c.in_ok-push_of_bad.ensures ∙ ap (λ (none : List Difference). none ++ of) c.new-found.ensures.items)
