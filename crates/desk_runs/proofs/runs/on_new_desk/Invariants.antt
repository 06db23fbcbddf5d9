-- The desk of this blank, whose versions this archive lists, and which begins with this version.
use Rattle.session_core.specs.Machine.{opening}
use Rattle.desk_runs.proofs.runs.on_new_desk.Given as goal

abbrev pub ghosts-on_named_desk-N-Naming : goal.ghosts-on_named_desk-N-Naming
ghosts-on_named_desk-N-Naming g a = record { clients = a.blank.parts; book = a.archive.seen.book; opening = opening a.first a.most }

abbrev pub ghosts-on_named_desk-N-Ledger : goal.ghosts-on_named_desk-N-Ledger
ghosts-on_named_desk-N-Ledger g a = record { name = a.blank.name; parts = a.blank.parts }
