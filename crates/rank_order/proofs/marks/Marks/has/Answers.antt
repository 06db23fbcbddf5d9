use Rattle.std.proofs.Common.{ℕ, List, ◌∙◌, ap, heap_items}
use Rattle.rank_order.specs.Marks.{has_place}
use Rattle.rank_order.proofs.MarkHeaps.{place_in}
use Rattle.rank_order.proofs.marks.Marks.has.Goals as goal

pub returns-in-None : goal.returns-in-None
returns-in-None c = c.has_place.ensures ∙ place_in c.args.place (heap_items c.self.inside.heap) ∙ ap (λ (marks : List (ℕ × ℕ)). has_place marks c.args.place) c.self.view_is
