use Rattle.std.proofs.Common.{◌∙◌, Some, None, lit<, sym}
use Rattle.std.proofs.lemmas.Str.Pattern.{strip_suffix_char}
use Rattle.command_line.proofs.Percents.{with_percent, without_percent}
use Rattle.command_line.proofs.percent.percent_in.Goals as goal

pub returns-in-Some : goal.returns-in-Some
returns-in-Some c =
    let word = c.args.word.now in
    c.hundredths_of.ensures ∙ sym (with_percent word c.in-Some.digits.now (strip_suffix_char 37 word (Some c.in-Some.digits) c.in-Some.ensures.cases (lit< tt)))

pub returns-in-None : goal.returns-in-None
returns-in-None c = let word = c.args.word.now in sym (without_percent word (strip_suffix_char 37 word None c.in-None.ensures.cases (lit< tt)))
