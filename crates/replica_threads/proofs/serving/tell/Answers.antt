use Rattle.std.proofs.Common.{◌≡◌, ℕ, rules, subst, sym}
use Rattle.host_types.specs.Configuration.{Configuration}
use Rattle.replica_threads.specs.Hosts.{Stands}
use Rattle.replica_threads.proofs.StationLaws.{stands_so}
use Rattle.replica_threads.proofs.serving.tell.Goals as goal

pub new-standing-requires : goal.new-standing-requires
new-standing-requires g c =
    let k = g.K.Named in
    let under : c.in-Ok.config.value ≡ k.config = search rules in
    let there = stands_so k.config k.id c.args.first_leaf k.signer k.limit c.args.seat.now.rows c.report-status.result c.requires.leaf c.report-status.ensures.reported in
    let here = subst (λ (i : ℕ). Stands k.config i c.args.first_leaf c.report-status.result) (sym c.requires.id) there in
    record { stands = subst (λ (x : Configuration). Stands x c.args.id.0 c.args.first_leaf c.report-status.result) (sym under) here }
