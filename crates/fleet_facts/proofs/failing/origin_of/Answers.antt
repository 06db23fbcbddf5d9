use Rattle.std.proofs.Common.{◌≡◌, ◌∙◌, ◌-◌, ℕ, List, Option, length, ap}
use Rattle.std.specs.Prelude.{slice_get, unwrap_or}
use Rattle.failure_origins.specs.Failures.{blame_of}
use Rattle.fleet_facts.proofs.failing.origin_of.Goals as goal

pub returns-in-Some : goal.returns-in-Some
returns-in-Some g c =
    let place = c.args.view.now.place in
    let along : c.as_slice.result.now ≡ blame_of c.args.view.now.version.now.graph place = c.as_slice.ensures ∙ c.in_ok-blame.ensures in
    ap (λ (found : Option ℕ). unwrap_or found place) (c.in-Some.ensures.value ∙ ap (λ (chain : List ℕ). slice_get chain (length chain - 1)) along)

pub returns : goal.returns
returns g c =
    let place = c.args.view.now.place in
    let along : c.as_slice.result.now ≡ blame_of c.args.view.now.version.now.graph place = c.as_slice.ensures ∙ c.in_ok-blame.ensures in
    ap (λ (found : Option ℕ). unwrap_or found place) (c.in-None.ensures.value ∙ ap (λ (chain : List ℕ). slice_get chain (length chain - 1)) along)
