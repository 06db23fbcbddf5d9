use Rattle.std.proofs.Common.{◌≡◌, length, take}
use Rattle.std.specs.Prelude.{filter_map}
use Rattle.reply_rescue.specs.Rescues.{saves, trial_at}
use Rattle.reply_rescue.proofs.trials.saved_by.Given as goal

abbrev pub invariant-loop-change : goal.invariant-loop-change
invariant-loop-change g l = record {
  saved : l.saved.items ≡ filter_map (λ change. saves l.version.graph l.sought.start.target l.sought.by (trial_at l.stage.place change)) (take l.change-index l.changes);
  room : length l.room.at.items ≡ length l.sought.start.before.items;
}
