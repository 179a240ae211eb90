use Rattle.fr_part_tests.proofs.pool.+holds.Given as goal

abbrev pub decreases-holds : goal.decreases-holds
decreases-holds l = l.cells
