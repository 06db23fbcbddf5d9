use Rattle.std.proofs.Common.{◌≡◌, ◌∙◌, Bool, List, length, ap, subst, sym}
use Rattle.std.specs.Prelude.{All}
use Rattle.std.proofs.lemmas.List.Sorted.{All-permutation}
use Rattle.scratch_eval.specs.Path.{path}
use Rattle.run_comparison.specs.declared.difference.Difference.{Difference}
use Rattle.run_comparison.specs.Differences.{StandsByShare, in_turn, is_on, of_both}
use Rattle.place_flags.specs.Flags.{AreFlags, is_flagged}
use Rattle.run_comparison.proofs.Flagged.{told_by_paths}
use Rattle.run_comparison.proofs.Ordering.{each_by_share, sorted_in_turn}
use Rattle.run_comparison.proofs.differences.differences_of.Goals as goal

pub returns-clause-differences : goal.returns-clause-differences
returns-clause-differences g c =
    let good = c.args.good.now.version.now.graph in
    let bad = c.args.bad.now.version.now.graph in
    let good_path = path good c.args.good.now.place in
    let bad_path = path bad c.args.bad.now.place in
    let on_good : AreFlags c.as_slice.result.now (length good.places) good_path =
    subst (λ (flags : List Bool). AreFlags flags (length good.places) good_path) (sym c.as_slice.ensures.value) c.in_ok-on_good_path.ensures in
    let on_bad : AreFlags c.as_slice-2.result.now (length bad.places) bad_path =
    subst (λ (flags : List Bool). AreFlags flags (length bad.places) bad_path) (sym c.as_slice-2.ensures.value) c.in_ok-on_bad_path.ensures in
    let all : c.in_ok-found.found.items ≡ of_both good (is_on good_path) bad (is_on bad_path) =
    c.in_ok-found.ensures ∙ told_by_paths good bad c.as_slice.result.now c.as_slice-2.result.now good_path bad_path on_good on_bad in
    let done = c.in_ok-ordered.ensures in
    sorted_in_turn c.in_ok-found.found.items c.in_ok-ordered.ordered.items done.permutation done.ordered done.by_place
    ∙ ap (λ (found : List Difference). in_turn found) all

pub returns-clause-each : goal.returns-clause-each
returns-clause-each g c =
    let good = c.args.good.now.version.now.graph in
    let bad = c.args.bad.now.version.now.graph in
    let found = c.in_ok-found.found.items in
    let each = each_by_share good bad (is_flagged c.as_slice.result.now) (is_flagged c.as_slice-2.result.now) in
    All-permutation (StandsByShare good bad) found c.in_ok-ordered.ordered.items c.in_ok-ordered.ensures.permutation
    (subst (All (StandsByShare good bad)) (sym c.in_ok-found.ensures) each)
