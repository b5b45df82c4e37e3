use Rattle.std.proofs.Common.{rules}
use Rattle.map_helpers.specs.declared.helper.Access.{Access}
use Rattle.map_helpers.specs.declared.helper.Extent.TheVariants.{Fixed}
use Rattle.bpf_model.specs.AbstractState.{access_in_bounds, access_initialized}
use Rattle.bpf_verifier.specs.Represents.{ranges_of}
use Rattle.bpf_verifier.proofs.Loops.{all_at, all_done, all_more}
use Rattle.bpf_verifier.proofs.abstract_state.AbstractState.are_initialized.Goals as goal

pub access_initialized-requires : goal.access_initialized-requires
access_initialized-requires g c =
    let d : Access = record { register = 0; size = Fixed 0 } in
    let depth = c.requires.0 in
    (search rules, (depth, c.requires.1, all_at (access_in_bounds depth (ranges_of c.args.self.now.ranges)) c.args.accesses.now c.loop-access.access-index d c.requires.2 c.loop-access-test.true))

pub returns : goal.returns
returns g c = λ stack holds.
    all_done (access_initialized stack.initialized (ranges_of c.args.self.now.ranges)) c.args.accesses.now c.loop-access.access-index c.loop-access-test.false (c.loop-access.invariant stack holds)

pub loop-access-preserved : goal.loop-access-preserved
loop-access-preserved g c = λ stack holds.
    let d : Access = record { register = 0; size = Fixed 0 } in
    all_more (access_initialized stack.initialized (ranges_of c.args.self.now.ranges)) c.args.accesses.now c.loop-access.access-index d c.access_initialized.result c.loop-access-test.true (c.loop-access.invariant stack holds) (c.access_initialized.ensures stack holds) c.if-not-access_initialized.false
