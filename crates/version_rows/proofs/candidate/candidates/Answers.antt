use Rattle.std.proofs.Common.{◌≡◌, ◌∙◌, Bool, List, ap, false, get_or}
use Rattle.stage_graph.specs.Plain.{stage_at}
use Rattle.version_rows.specs.Candidates.{candidate_at, candidate_in}
use Rattle.version_rows.proofs.Collecting.{collects, next_number}
use Rattle.version_rows.proofs.candidate.candidates.Goals as goal

pub loop-place-preserved : goal.loop-place-preserved
loop-place-preserved g c =
    let graph = c.args.version.now.graph in
    let place = c.loop-place.place in
    let is : c.candidate_at.result ≡ candidate_at graph c.args.selection c.args.path.now place =
    c.candidate_at.ensures
    ∙ ap (λ (flag : Bool). candidate_in graph c.args.selection flag place (stage_at graph.places place))
    (c.is_flagged-is_on_path.ensures ∙ ap (λ (flags : List Bool). get_or flags place false) c.as_slice.ensures.value ∙ c.in_ok-flags.ensures place c.loop-place-test.true) in
    collects _ _ _ _ _ _ c.loop-place.invariant
    (next_number (candidate_at graph c.args.selection c.args.path.now) place _ c.candidate_at.result c.loop-place-test.true is)
    c.in_ok-push_found.ensures
