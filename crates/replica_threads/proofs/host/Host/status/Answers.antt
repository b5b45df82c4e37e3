use Rattle.std.proofs.Common.{◌≡◌, Some, rules, subst}
use Rattle.std.specs.Prelude.{IfSome, slice_get}
use Rattle.host_types.specs.Configuration.{Configuration}
use Rattle.byz_world.specs.Status.{Status}
use Rattle.replica_threads.specs.Hosts.{Stands}
use Rattle.replica_threads.proofs.ClosingLaws.{stands_at}
use Rattle.replica_threads.proofs.host.Host.status.Goals as goal

pub returns : goal.returns
returns g c =
    let leaf = c.in_ok-first_leaf.first_leaf in
    let leaf_is : slice_get c.args.self.now.leaves c.args.id.0 ≡ Some leaf = search rules in
    let config : c.deref.result.now ≡ c.args.self.now.config = search rules in
    stands_at c.args.self.now c.args.id.0 leaf c.status.result leaf_is
    (subst (λ (x : Configuration). IfSome c.status.result (λ (s : Status). Stands x c.args.id.0 leaf s)) config c.status.ensures)
