use Rattle.stage_graph.proofs.name_tree.+parted.Given as goal

-- fewer bits are left each time
abbrev pub decreases-parted : goal.decreases-parted
decreases-parted l = l.left
