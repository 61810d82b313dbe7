use Rattle.index_spellings.proofs.trees.+tree_within.Given as goal

abbrev pub decreases-tree_within : goal.decreases-tree_within
decreases-tree_within l = l.levels
