use Rattle.bpf_verifier.proofs.Sweeps.{push_flows}
use Rattle.bpf_verifier.proofs.dataflow.push.Goals as goal

pub returns-then-target-pending-clause-flowed : goal.returns-then-target-pending-clause-flowed
returns-then-target-pending-clause-flowed g c =
    let x = c.in-Some-Some in
    push_flows c.args.pending.now x.target x.visit _ c.join_into.new.place c.join_into.ensures.visit c.if-target-pending.true c.args.target x.is-0 c.args.visit x.is-1
