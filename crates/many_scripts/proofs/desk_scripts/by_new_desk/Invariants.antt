-- The desk is named after the ledger that counts for it, and begins with the graph.
use Rattle.serve_script.specs.Answers.{opening_state}
use Rattle.many_scripts.proofs.desk_scripts.by_new_desk.Given as goal

abbrev pub ghosts-played-N-Naming : goal.ghosts-played-N-Naming
ghosts-played-N-Naming g a = record { clients = a.blank.parts; book = a.archive.seen.book; opening = opening_state a.graph }

abbrev pub ghosts-played-N-Ledger : goal.ghosts-played-N-Ledger
ghosts-played-N-Ledger g a = record { name = a.blank.name; parts = a.blank.parts }
