use Rattle.std.proofs.Common.{◌∙◌, sym}
use Rattle.std.proofs.lemmas.Bool.{true≢false}
use Rattle.rank_order.proofs.MarkHeaps.{mark_place}
use Rattle.rank_order.proofs.marks.Marks.insert.Goals as goal

-- the mark is not there, as its place has none
pub returns-clause-same : goal.returns-clause-same
returns-clause-same c = λ has. absurd (true≢false (sym (mark_place c.args.self.now c.args.rank c.args.place has) ∙ sym c.has.ensures ∙ c.if-has.false))
