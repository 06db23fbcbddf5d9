use Rattle.std.proofs.Common.{length}
use Rattle.serve_script.proofs.reply.+added_name.Given as goal

abbrev pub decreases-added_name : goal.decreases-added_name
decreases-added_name l = length l.edits.now
