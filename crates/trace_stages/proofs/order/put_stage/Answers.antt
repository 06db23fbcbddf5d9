use Rattle.std.proofs.Common.{◌∙◌, ◌++◌, [], ◌∷◌, reverse, sym, ap}
use Rattle.std.specs.List.{list_any}
use Rattle.std.specs.HashSet.{contains_by}
use Rattle.trace_stages.specs.Order.{is_entry, is_join, is_pair, is_work}
use Rattle.trace_stages.proofs.Ordering.{any_put}
use Rattle.trace_stages.proofs.order.put_stage.Goals as goal

pub returns-clause-noted : goal.returns-clause-noted
returns-clause-noted c = λ puts span number.
    let put = c.in_ok-put_after.ensures ∙ ap (λ those. c.args.ids.now.items ++ (reverse those ++ c.args.id ∷ [])) c.deref.ensures.value in (
      any_put (is_join span number) c.args.ids.now.items c.in_ok-joins.joins.items c.args.id (contains_by (is_pair span number) c.needed_before.new.put.joins) (c.requires span number).0 (c.in_ok-joins.ensures.noted c.args.ids.now.items puts span number).0
          ∙ ap (λ those. list_any (is_join span number) those) (sym put),
      any_put (is_entry span number) c.args.ids.now.items c.in_ok-joins.joins.items c.args.id (contains_by (is_pair span number) c.needed_before.new.put.entries) (c.requires span number).1 (c.in_ok-joins.ensures.noted c.args.ids.now.items puts span number).1
          ∙ ap (λ those. list_any (is_entry span number) those) (sym put),
      any_put (is_work span number) c.args.ids.now.items c.in_ok-joins.joins.items c.args.id (contains_by (is_pair span number) c.needed_before.new.put.works) (c.requires span number).2 (c.in_ok-joins.ensures.noted c.args.ids.now.items puts span number).2
          ∙ ap (λ those. list_any (is_work span number) those) (sym put),
    )
