use Rattle.std.proofs.Common.{◌≡◌, ◌∙◌, List, ℕ, ap, length, subst}
use Rattle.stage_graph.specs.Plain.{PlainGraph}
use Rattle.scratch_eval.specs.Path.{path}
use Rattle.place_flags.specs.Flags.{AreFlags}
use Rattle.run_comparison.proofs.path_flags.path_flags.Goals as goal

pub returns : goal.returns
returns g c =
    let graph = c.args.view.now.version.now.graph in
    let flags = c.in_ok-flags.flags.items in
    let count : c.len-count.result ≡ length graph.places = c.len-count.ensures.len ∙ ap (λ (graph : PlainGraph). length graph.places) c.graph.ensures.graph in
    let places : c.as_slice.result.now ≡ path graph c.args.view.now.place = c.as_slice.ensures ∙ c.in_ok-path.ensures.path in
    subst (λ (count : ℕ). AreFlags flags count (path graph c.args.view.now.place)) count
    (subst (λ (places : List ℕ). AreFlags flags c.len-count.result places) places c.in_ok-flags.ensures)
