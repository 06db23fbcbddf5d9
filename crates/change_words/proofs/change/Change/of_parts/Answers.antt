use Rattle.std.proofs.Common.{◌∙◌, Result, sym, ap, subst}
use Rattle.change_words.specs.declared.change.Change.{Change}
use Rattle.change_words.specs.Changes.{IsRead, WrongPart, begun, wrong_part}
use Rattle.change_words.proofs.Parts.{parts_refused, parts_then}
use Rattle.change_words.proofs.change.Change.of_parts.Goals as goal

pub returns-in-Ok-with_parts : goal.returns-in-Ok-with_parts
returns-in-Ok-with_parts c =
    subst (λ (answer : Result Change WrongPart). IsRead c.if_assigns.result answer)
    (sym (parts_then c.args.word.now c.args.name.now c.args.parts.now c.begun.result c.in-Ok-with_parts.change (c.begun.ensures ∙ ap begun c.in-Ok.ensures) c.in-Ok-with_parts.ensures))
    c.if_assigns.ensures

pub returns-in-Err-with_parts : goal.returns-in-Err-with_parts
returns-in-Err-with_parts c =
    parts_refused c.args.word.now c.args.name.now c.args.parts.now c.begun.result (wrong_part c.in-Err-with_parts.misread) (c.begun.ensures ∙ ap begun c.in-Ok.ensures) c.in-Err-with_parts.ensures
