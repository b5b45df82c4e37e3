use Rattle.replica_threads.proofs.overseer.oversee.Given as goal

abbrev pub decreases-loop-thread : goal.decreases-loop-thread
decreases-loop-thread l = goal.left-loop-thread l
