use Rattle.std.proofs.Common.{◌≡◌, false, Some, sym, subst}
use Rattle.std.specs.Option.{IfSome}
use Rattle.fast_float.specs.Text.{scan}
use Rattle.serde_json.specs.Data.{unsigned}
use Rattle.serde_json.specs.Read.{number_from}
use Rattle.json_trees.proofs.Plain.{read_plain}
use Rattle.json_trees.proofs.numbers.plain_integer.Goals as goal

pub returns : goal.returns
returns c =
    subst (λ r. IfSome r (λ n. number_from false (scan c.args.digits.now) ≡ Some (unsigned n))) (sym c.ok.ensures.value)
    (read_plain c.args.digits.now c.parse_u64.result c.if-digits-eq43.false c.parse_u64.ensures)
