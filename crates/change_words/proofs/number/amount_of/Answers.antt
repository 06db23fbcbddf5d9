use Rattle.std.proofs.Common.{◌∙◌, Some, None, lit<, sym, ap}
use Rattle.std.proofs.lemmas.Str.Pattern.{strip_suffix_char}
use Rattle.change_words.specs.Numbers.{amount_or_share}
use Rattle.change_words.proofs.Hundredths.{no_percent, percent_off}
use Rattle.change_words.proofs.number.amount_of.Goals as goal

pub returns-in-Some : goal.returns-in-Some
returns-in-Some c =
    let text = c.args.text.now in
    let cut = strip_suffix_char 37 text (Some c.in-Some.digits) c.in-Some.ensures.cases (lit< tt) in
    c.share_in.ensures ∙ sym (ap (amount_or_share text) (percent_off text c.in-Some.digits.now cut))

pub returns-in-None : goal.returns-in-None
returns-in-None c =
    let text = c.args.text.now in
    c.ticks_in.ensures ∙ sym (ap (amount_or_share text) (no_percent text (strip_suffix_char 37 text None c.in-None.ensures.cases (lit< tt))))
