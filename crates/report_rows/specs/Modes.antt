-- The names of modes.
use Rattle.std.specs.Prelude.{ℕ, List, codes}
use Rattle.act_expr.specs.declared.outcome.Mode.{Mode}
use Rattle.act_expr.specs.declared.outcome.Mode.TheVariants.{Computed, Literal}

-- by its name in recordings
abbrev pub mode_text : Mode → List ℕ
mode_text Computed = codes "computed"
mode_text Literal = codes "literal"
