use Rattle.scratch_eval.proofs.Pathing.{paths_add_up, paths_move}
use Rattle.scratch_eval.proofs.laws.paths_add_up.Goals as goal

pub returns-clause-adds_up : goal.returns-clause-adds_up
returns-clause-adds_up c = λ graph sound ranked place live. paths_add_up graph sound ranked place live

pub returns-clause-moves : goal.returns-clause-moves
returns-clause-moves c = λ old new old_sound old_ranked new_sound new_ranked place old_live new_live same began more longer.
    paths_move old new old_sound old_ranked new_sound new_ranked place old_live new_live same began more longer
