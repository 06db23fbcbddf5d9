use Rattle.std.proofs.Common.{◌≡◌, ◌≤◌, ◌+◌, ◌-◌, ◌^◌, min}
use Rattle.serde_json.specs.Events.{items_len}
use Rattle.recording.proofs.items.item_count.Given as goal

-- those counted so far, and those that are left
abbrev pub invariant-loop-item : goal.invariant-loop-item
invariant-loop-item l = record {
  counted : min (items_len l.initial.items) (2 ^ 64 - 1) ≡ min (l.count + items_len l.items) (2 ^ 64 - 1);
  fits : l.count ≤ 2 ^ 64 - 1;
}

abbrev pub decreases-loop-item : goal.decreases-loop-item
decreases-loop-item l = items_len l.items
