use Rattle.std.proofs.Common.{Some, None, lit<, subst, Result}
use Rattle.std.proofs.lemmas.Str.Pattern.{split_once_first}
use Rattle.change_words.specs.declared.change.Change.{Change}
use Rattle.change_words.specs.Changes.{IsRead, WrongPart}
use Rattle.change_words.proofs.Parts.{at_space, no_space}
use Rattle.change_words.proofs.change.Change.of.Goals as goal

pub returns-in-Some : goal.returns-in-Some
returns-in-Some c =
    let t = split_once_first 32 c.args.word.now (Some (c.in-Some.name, c.in-Some.parts)) c.in-Some.ensures.cases (lit< tt) in
    subst (λ (answer : Result Change WrongPart). IsRead c.of_parts.result answer) (at_space c.args.word.now c.in-Some.name.now c.in-Some.parts.now t.0 t.1 t.2) c.of_parts.ensures

pub returns-in-None : goal.returns-in-None
returns-in-None c = no_space c.args.word.now (split_once_first 32 c.args.word.now None c.in-None.ensures.cases (lit< tt))
