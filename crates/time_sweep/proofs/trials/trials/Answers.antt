use Rattle.std.proofs.Common.{◌∙◌, List, ℕ, ap, length, subst, sym}
use Rattle.std.specs.Prelude.{All, IsOk, filter_map}
use Rattle.std.specs.List.{AllZip, flat_map, range_with_len}
use Rattle.time_sweep.specs.Sweep.{trial_at}
use Rattle.time_sweep.specs.Tried.{GiveAll, part_of, trials_in}
use Rattle.time_sweep.proofs.Trying.{all_tried, both_ok, from_numbers}
use Rattle.time_sweep.proofs.Unreached.{pending_trials}
use Rattle.time_sweep.proofs.trials.trials.Goals as goal

pub returns-then-is_pending : goal.returns-then-is_pending
returns-then-is_pending g c =
    c.new.ensures.items ∙ sym (pending_trials c.args.version.now.graph c.args.haste c.args.target (c.is_pending.ensures c.if-is_pending.true))

pub returns : goal.returns
returns g c =
    let graph = c.args.version.now.graph in
    let trial = trial_at graph c.args.haste c.args.target in
    let places = c.in_ok-places.places.items in
    let size = c.size_of_parts-size.result in
    let tried = c.in_ok-tried.tried.items in
    let each = λ (number : ℕ). filter_map trial (part_of places size number) in
    let count = c.len-2.ensures ∙ c.in_ok-places.places.ok.0 in
    let zip : AllZip (GiveAll each) (range_with_len 0 (length places)) tried =
    subst (λ (numbers : List ℕ). AllZip (GiveAll each) numbers tried) (c.as_slice-2.ensures.value ∙ c.in_ok-numbers.ensures ∙ ap (range_with_len 0) count)
    (subst (λ (target : ℕ). AllZip (GiveAll (λ number. filter_map (trial_at graph c.args.haste target) (part_of places size number))) c.as_slice-2.result.now tried) c.in_ok-start.ensures.target c.in_ok-tried.ensures) in
    both_ok c.found_among.result _ _ _
    (λ found is all.
    is ∙ ap (flat_map trials_in) c.as_slice-3.ensures.value ∙ all_tried each (range_with_len 0 (length places)) tried zip (subst (All (λ one. IsOk one)) c.as_slice-3.ensures.value all)
    ∙ from_numbers trial places size c.size_of_parts-size.ensures.some ∙ c.in_ok-places.ensures.trials)
    c.found_among.ensures.found c.found_among.ensures.all
