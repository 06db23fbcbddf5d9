use Rattle.std.proofs.Common.{◌≡◌, ◌≤◌, ◌∙◌, List, ap, is_some, length, subst, sym}
use Rattle.std.proofs.lemmas.Bool.{ltb-false}
use Rattle.std.proofs.lemmas.Result.{IfOk-weaker}
use Rattle.stage_graph.specs.declared.end.End.{End}
use Rattle.reply_rescue.specs.Ends.{with_longer_end}
use Rattle.reply_rescue.proofs.Ending.{longer_past}
use Rattle.reply_rescue.proofs.ends.with_longer_end.Goals as goal

pub returns-in-None : goal.returns-in-None
returns-in-None c =
    let ends = c.args.ends.now in
    let index = c.args.index in
    let far : length c.as_slice-all.result.now ≤ index = ltb-false index (length c.as_slice-all.result.now) (sym c.get.ensures.lookup.0 ∙ ap is_some c.in-None.is) in
    let past : length ends ≤ index = subst (λ (all : List End). length all ≤ index) c.as_slice-all.ensures far in
    IfOk-weaker c.again.result (λ same. same ≡ ends) (λ made. made ≡ with_longer_end ends index) (λ made is. is ∙ sym (longer_past ends index past)) c.again.ensures
