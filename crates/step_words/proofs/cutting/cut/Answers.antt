use Rattle.std.proofs.Common.{◌∙◌, Some, None, lit<, ap}
use Rattle.std.specs.Str.{trim}
use Rattle.std.proofs.lemmas.Str.Pattern.{split_once_first}
use Rattle.step_words.proofs.Cuts.{no_others, whole_word}
use Rattle.step_words.proofs.cutting.cut.Goals as goal

pub returns-in-Some-clause-first : goal.returns-in-Some-clause-first
returns-in-Some-clause-first c =
    (split_once_first 32 c.args.text.now (Some (c.in-Some.word, c.in-Some.others)) c.in-Some.ensures.cases (lit< tt)).1

pub returns-in-Some-clause-others : goal.returns-in-Some-clause-others
returns-in-Some-clause-others c =
    let t = split_once_first 32 c.args.text.now (Some (c.in-Some.word, c.in-Some.others)) c.in-Some.ensures.cases (lit< tt) in
    c.trim.ensures.trim ∙ ap trim t.2

pub returns-in-None-clause-first : goal.returns-in-None-clause-first
returns-in-None-clause-first c = whole_word c.args.text.now (split_once_first 32 c.args.text.now None c.in-None.ensures.cases (lit< tt))

pub returns-in-None-clause-others : goal.returns-in-None-clause-others
returns-in-None-clause-others c = no_others c.args.text.now (split_once_first 32 c.args.text.now None c.in-None.ensures.cases (lit< tt))
