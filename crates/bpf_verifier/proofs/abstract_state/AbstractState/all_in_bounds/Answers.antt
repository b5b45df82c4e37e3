use Rattle.map_helpers.specs.declared.helper.Access.{Access}
use Rattle.map_helpers.specs.declared.helper.Extent.TheVariants.{Fixed}
use Rattle.bpf_model.specs.AbstractState.{access_in_bounds}
use Rattle.bpf_verifier.specs.Represents.{ranges_of}
use Rattle.bpf_verifier.proofs.Loops.{all_done, all_more}
use Rattle.bpf_verifier.proofs.abstract_state.AbstractState.all_in_bounds.Goals as goal

pub returns : goal.returns
returns g c =
    all_done (access_in_bounds c.args.depth (ranges_of c.args.self.now.ranges)) c.args.accesses.now c.loop-access.access-index c.loop-access-test.false c.loop-access.invariant

pub loop-access-preserved : goal.loop-access-preserved
loop-access-preserved g c =
    let d : Access = record { register = 0; size = Fixed 0 } in
    all_more (access_in_bounds c.args.depth (ranges_of c.args.self.now.ranges)) c.args.accesses.now c.loop-access.access-index d c.access_in_bounds.result c.loop-access-test.true c.loop-access.invariant c.access_in_bounds.ensures c.if-not-access_in_bounds.false
