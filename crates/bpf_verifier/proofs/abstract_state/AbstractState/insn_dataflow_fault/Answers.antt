use Rattle.std.proofs.Common.{sym, ◌∙◌, rules}
use Rattle.bpf_verifier.proofs.abstract_state.AbstractState.insn_dataflow_fault.Goals as goal

pub has_bytes-requires : goal.has_bytes-requires
has_bytes-requires g c =
    (search rules, (c.args.depth, c.requires, λ stack. sym (c.has_accesses.ensures stack) ∙ c.if-not-has_accesses.false))
