-- The desk of this blank, whose versions this archive lists, and which begins with this version.
use Rattle.session_core.specs.Machine.{opening}
use Rattle.memory_cases.proofs.desks.show_on_new.Given as goal

abbrev pub ghosts-show_on_named-N-Naming : goal.ghosts-show_on_named-N-Naming
ghosts-show_on_named-N-Naming g a = record { clients = a.blank.parts; book = a.archive.seen.book; opening = opening a.first a.most }

abbrev pub ghosts-show_on_named-N-Ledger : goal.ghosts-show_on_named-N-Ledger
ghosts-show_on_named-N-Ledger g a = record { name = a.blank.name; parts = a.blank.parts }
