use Rattle.bench_threads.proofs.calls.goes_on.Given as goal

abbrev pub decreases-loop-thread : goal.decreases-loop-thread
decreases-loop-thread g l = goal.left-loop-thread g l
