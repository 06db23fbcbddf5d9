use Rattle.std.proofs.Common.{◌≡◌, All, length}
use Rattle.text_io.specs.Counted.{read_failures}
use Rattle.console.proofs.scripts_opening.opened_scripts.Given as goal

abbrev pub invariant-loop-path : goal.invariant-loop-path
invariant-loop-path l = (length l.sources.items ≡ l.path-index) × All (λ source. read_failures source ≡ 0) l.sources.items
