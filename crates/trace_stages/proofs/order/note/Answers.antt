use Rattle.std.proofs.Common.{◌∙◌, ◌&&◌, ap}
use Rattle.std.specs.Prelude.{nat_eq}
use Rattle.std.specs.HashSet.{contains_by}
use Rattle.trace_stages.specs.Order.{is_entry, is_join, is_pair, is_work}
use Rattle.trace_stages.proofs.Ordering.{any_kept, any_more, pairs_turned}
use Rattle.trace_stages.proofs.order.note.Goals as goal

pub returns-in_ok-insert-in-Join : goal.returns-in_ok-insert-in-Join
returns-in_ok-insert-in-Join c = λ order puts span number. (
  any_more (is_join span number) order c.args.id (nat_eq c.in-Join.span span && nat_eq c.in-Join.number number) (contains_by (is_pair span number) c.args.put.now.joins) (contains_by (is_pair span number) c.insert.new.self) (puts span number).0
      (ap (λ id. is_join span number id) c.in-Join.is ∙ pairs_turned span number c.in-Join.span c.in-Join.number) (c.in_ok-insert-in-Join.ensures.updates.0 (span, number)),
  any_kept (is_entry span number) order c.args.id (contains_by (is_pair span number) c.args.put.now.entries) (puts span number).1 (ap (λ id. is_entry span number id) c.in-Join.is),
  any_kept (is_work span number) order c.args.id (contains_by (is_pair span number) c.args.put.now.works) (puts span number).2 (ap (λ id. is_work span number id) c.in-Join.is),
)

pub returns-in_ok-insert-in-Entry : goal.returns-in_ok-insert-in-Entry
returns-in_ok-insert-in-Entry c = λ order puts span number. (
  any_kept (is_join span number) order c.args.id (contains_by (is_pair span number) c.args.put.now.joins) (puts span number).0 (ap (λ id. is_join span number id) c.in-Entry.is),
  any_more (is_entry span number) order c.args.id (nat_eq c.in-Entry.span span && nat_eq c.in-Entry.number number) (contains_by (is_pair span number) c.args.put.now.entries) (contains_by (is_pair span number) c.insert-in-Entry.new.self) (puts span number).1
      (ap (λ id. is_entry span number id) c.in-Entry.is ∙ pairs_turned span number c.in-Entry.span c.in-Entry.number) (c.in_ok-insert-in-Entry.ensures.updates.0 (span, number)),
  any_kept (is_work span number) order c.args.id (contains_by (is_pair span number) c.args.put.now.works) (puts span number).2 (ap (λ id. is_work span number id) c.in-Entry.is),
)

pub returns-in_ok-insert-in-Work : goal.returns-in_ok-insert-in-Work
returns-in_ok-insert-in-Work c = λ order puts span number. (
  any_kept (is_join span number) order c.args.id (contains_by (is_pair span number) c.args.put.now.joins) (puts span number).0 (ap (λ id. is_join span number id) c.in-Work.is),
  any_kept (is_entry span number) order c.args.id (contains_by (is_pair span number) c.args.put.now.entries) (puts span number).1 (ap (λ id. is_entry span number id) c.in-Work.is),
  any_more (is_work span number) order c.args.id (nat_eq c.in-Work.span span && nat_eq c.in-Work.number number) (contains_by (is_pair span number) c.args.put.now.works) (contains_by (is_pair span number) c.insert-in-Work.new.self) (puts span number).2
      (ap (λ id. is_work span number id) c.in-Work.is ∙ pairs_turned span number c.in-Work.span c.in-Work.number) (c.in_ok-insert-in-Work.ensures.updates.0 (span, number)),
)
