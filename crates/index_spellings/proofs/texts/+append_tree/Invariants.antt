use Rattle.index_spellings.proofs.texts.+append_tree.Given as goal

abbrev pub decreases-append_tree : goal.decreases-append_tree
decreases-append_tree l = l.levels
