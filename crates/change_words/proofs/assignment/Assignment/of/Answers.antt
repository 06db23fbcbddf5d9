use Rattle.std.proofs.Common.{◌∙◌, Some, None, lit<}
use Rattle.std.proofs.lemmas.Str.Pattern.{split_once_first}
use Rattle.change_words.proofs.Parts.{at_equals, no_equals}
use Rattle.change_words.proofs.assignment.Assignment.of.Goals as goal

pub returns-in-Some : goal.returns-in-Some
returns-in-Some c =
    let t = split_once_first 61 c.args.part.now (Some (c.in-Some.key, c.in-Some.value)) c.in-Some.ensures.cases (lit< tt) in
    c.valued.ensures ∙ at_equals c.args.part.now c.in-Some.key.now c.in-Some.value.now t.0 t.1 t.2

pub returns-in-None : goal.returns-in-None
returns-in-None c = c.bare_of.ensures ∙ no_equals c.args.part.now (split_once_first 61 c.args.part.now None c.in-None.ensures.cases (lit< tt))
