use Rattle.std.proofs.Common.{◌∙◌, Some, None, ap, length, lit<, sym, take, take_all, arith}
use Rattle.std.proofs.lemmas.Str.Pattern.{split_once_first}
use Rattle.timeline_svg.proofs.row.service_of.Goals as goal

pub returns-in-Some : goal.returns-in-Some
returns-in-Some c = (split_once_first 46 c.args.name.now (Some c.in-Some.parts) c.in-Some.ensures.cases (lit< tt)).1

pub returns-in-None : goal.returns-in-None
returns-in-None c =
    sym (ap (λ n. take n c.args.name.now) (split_once_first 46 c.args.name.now None c.in-None.ensures.cases (lit< tt)) ∙ take_all (length c.args.name.now) c.args.name.now (omega arith))
