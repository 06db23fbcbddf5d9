use Rattle.std.proofs.Common.{◌≡◌, map, take, sym, ap, ◌∙◌, rules, arith}
use Rattle.std.proofs.lemmas.Map.Iter.{iter_end}
use Rattle.std.specs.Map.{keys_of}
use Rattle.std.specs.Map.Iter.{deref}
use Rattle.std.specs.Prelude.{filter}
use Rattle.json_names.specs.Members.{is_unread}
use Rattle.json_names.specs.declared.members.TheConstants.{MOST_UNREAD}
use Rattle.json_names.proofs.Unread.{all_seen, none_kept, one_kept, one_passed_over}
use Rattle.json_names.proofs.members.unread_members.Goals.{else-len-lt-MOST_UNREAD-via-then-len-lt-MOST_UNREAD+else-is_unread, else-len-lt-MOST_UNREAD-via-else-len-lt-MOST_UNREAD}
use Rattle.json_names.proofs.members.unread_members.Goals as goal

pub loop-name-preserved-then-is_unread : goal.loop-name-preserved-then-is_unread
loop-name-preserved-then-is_unread c =
    rw c.in_ok-push.ensures.items (one_kept (is_unread c.args.read.now) MOST_UNREAD c.loop-name.yielded c.loop-name.unread.items c.in-Some.name c.loop-name.invariant (omega arith) (sym c.if-is_unread.ensures))

pub loop-name-preserved : goal.loop-name-preserved
loop-name-preserved c =
    elim c.else-len-lt-MOST_UNREAD.branch [
      | else-len-lt-MOST_UNREAD-via-then-len-lt-MOST_UNREAD+else-is_unread w ↦ one_passed_over (is_unread c.args.read.now) MOST_UNREAD c.loop-name.yielded c.loop-name.unread.items c.in-Some.name c.loop-name.invariant (sym w.if-is_unread.ensures)
      | else-len-lt-MOST_UNREAD-via-else-len-lt-MOST_UNREAD w ↦ none_kept (is_unread c.args.read.now) MOST_UNREAD c.loop-name.yielded c.loop-name.unread.items c.in-Some.name c.loop-name.invariant (omega arith)
    ]

pub returns : goal.returns
returns c =
    let all : map deref c.loop-name.yielded ≡ keys_of c.in_ok-names.names.entries = search (rules, iter_end) in
    c.loop-name.invariant ∙ ap (λ names. take MOST_UNREAD (filter (is_unread c.args.read.now) names)) (all_seen c.loop-name.yielded _ _ all c.in_ok-names.ensures)
