use Rattle.std.proofs.Common.{◌∙◌, ℕ, length, drop, lit<, sym, ap, arith, rules}
use Rattle.std.specs.List.{slice_split}
use Rattle.std.proofs.lemmas.Iterator.Consumers.{YieldsList-turn, YieldsList-end}
use Rattle.std.proofs.lemmas.Iterator.Splits.{YieldsList-from_str_split}
use Rattle.std.proofs.lemmas.List.{length_push}
use Rattle.change_words.specs.Changes.{is_space, with_parts, wrong_part}
use Rattle.change_words.proofs.Parts.{part_on, part_refused, parts_done}
use Rattle.change_words.proofs.change.Change.with_parts.Goals as goal

pub loop-part-preserved : goal.loop-part-preserved
loop-part-preserved c =
    let parts = slice_split is_space c.args.parts.now in
    let t = YieldsList-turn (YieldsList-from_str_split 32 c.args.parts.now (lit< tt) (search rules) (search rules) (search rules)) c.loop-part.yielded _ c.loop-part.yielded_by _ _ c.in-Some.part c.in-Some.is c.next.ensures.steps in
    c.loop-part.invariant
    ∙ part_on parts (length c.loop-part.yielded) c.in-Some.part.now c.loop-part.change c.in-Ok.change t.0 t.1 c.in-Ok.ensures
    ∙ ap (λ (n : ℕ). with_parts (drop n parts) c.in-Ok.change) (sym (length_push c.loop-part.yielded c.in-Some.part))

pub returns-in-Err : goal.returns-in-Err
returns-in-Err c =
    let parts = slice_split is_space c.args.parts.now in
    let t = YieldsList-turn (YieldsList-from_str_split 32 c.args.parts.now (lit< tt) (search rules) (search rules) (search rules)) c.loop-part.yielded _ c.loop-part.yielded_by _ _ c.in-Some.part c.in-Some.is c.next.ensures.steps in
    c.loop-part.invariant
    ∙ part_refused parts (length c.loop-part.yielded) c.in-Some.part.now c.loop-part.change (wrong_part c.in-Err.misread) t.0 t.1 c.in-Err.ensures

pub returns : goal.returns
returns c =
    let parts = slice_split is_space c.args.parts.now in
    let t = YieldsList-end (YieldsList-from_str_split 32 c.args.parts.now (lit< tt) (search rules) (search rules) (search rules)) c.loop-part.yielded _ c.loop-part.yielded_by _ _ c.in-None.is c.next.ensures.steps in
    c.loop-part.invariant ∙ parts_done parts (length c.loop-part.yielded) c.loop-part.change (omega (arith, t.1))
