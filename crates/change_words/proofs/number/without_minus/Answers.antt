use Rattle.std.proofs.Common.{Some, None, lit<}
use Rattle.std.proofs.lemmas.Str.Pattern.{strip_prefix_char}
use Rattle.change_words.proofs.Digits.{minus_off, no_minus}
use Rattle.change_words.proofs.number.without_minus.Goals as goal

pub returns-in-Some : goal.returns-in-Some
returns-in-Some c = minus_off c.args.text.now c.in-Some.digits.now (strip_prefix_char 45 c.args.text.now (Some c.in-Some.digits) c.in-Some.ensures.cases (lit< tt))

pub returns-in-None : goal.returns-in-None
returns-in-None c = no_minus c.args.text.now (strip_prefix_char 45 c.args.text.now None c.in-None.ensures.cases (lit< tt))
