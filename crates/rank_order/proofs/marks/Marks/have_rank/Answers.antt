use Rattle.std.proofs.Common.{ℕ, List, heap_items, subst, sym, ◌∙◌}
use Rattle.rank_order.specs.MarkHeaps.{HaveRank}
use Rattle.rank_order.proofs.MarkHeaps.{all_of_rank}
use Rattle.rank_order.proofs.marks.Marks.have_rank.Goals as goal

pub returns : goal.returns
returns c = λ all.
    subst (λ (marks : List (ℕ × ℕ)). HaveRank marks c.args.rank) c.self.view_is
    (all_of_rank (heap_items c.self.inside.heap) c.args.rank (sym c.have_rank.ensures ∙ all))
