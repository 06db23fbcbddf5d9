use Rattle.std.proofs.Common.{◌≤◌, ap, ◌∙◌, subst, sym, Some}
use Rattle.serde_json.specs.Data.{Data, depth}
use Rattle.serde_json.specs.Written.{compact_text, has_float}
use Rattle.fleet_text.proofs.Depths.{part-shallow}
use Rattle.fleet_text.proofs.Exact.{part_exact}
use Rattle.fleet_text.proofs.writing.write_summary.Goals as goal

pub returns-clause-text : goal.returns-clause-text
returns-clause-text c = c.in_ok-to_string.ensures.text (ap has_float c.in_ok-value.ensures ∙ part_exact c.args.part.now) ∙ ap compact_text c.in_ok-value.ensures

pub returns-clause-read : goal.returns-clause-read
returns-clause-read c =
    c.in_ok-to_string.ensures.reads_back (subst (λ (d : Data). depth d ≤ 127) (sym c.in_ok-value.ensures) (part-shallow c.args.part.now))
    ∙ ap (λ (d : Data). Some d) c.in_ok-value.ensures
