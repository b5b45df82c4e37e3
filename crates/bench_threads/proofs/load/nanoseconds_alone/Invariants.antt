use Rattle.bench_threads.proofs.load.nanoseconds_alone.Given as goal

abbrev pub decreases-loop-thread : goal.decreases-loop-thread
decreases-loop-thread l = goal.left-loop-thread l
