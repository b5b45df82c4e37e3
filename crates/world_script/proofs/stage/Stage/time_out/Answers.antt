use Rattle.std.proofs.Common.{List, sym, subst}
use Rattle.std.proofs.lemmas.List.{take_all, take_more}
use Rattle.host_types.specs.declared.ReplicaId.{ReplicaId}
use Rattle.world_script.specs.Parts.{TellsTimeouts}
use Rattle.world_script.proofs.Telling.{timeouts_told}
use Rattle.world_script.proofs.stage.Stage.time_out.Goals as goal

pub loop-id-preserved : goal.loop-id-preserved
loop-id-preserved g c =
    let told = (goal.Watcher-dyn g c.args.watcher.now).told c.args.watcher.now.1 in
    let between = (goal.Watcher-dyn g c.loop-id.watcher.now).told c.loop-id.watcher.now.1 in
    let later = (goal.Watcher-dyn g (c.loop-id.watcher.now.0, c.time_out_at.new.watcher)).told c.time_out_at.new.watcher in
    subst (λ (ids : List ReplicaId). TellsTimeouts c.args.self.now ids c.time_out_at.new.self told later) (sym (take_more c.args.at.now c.loop-id.id-index (record { 0 = 0 }) c.loop-id-test.true))
    (timeouts_told _ _ c.args.self.now c.loop-id.self c.time_out_at.new.self told between later c.loop-id.invariant c.in_ok-time_out_at.ensures)

pub returns : goal.returns
returns g c =
    let told = (goal.Watcher-dyn g c.args.watcher.now).told c.args.watcher.now.1 in
    let between = (goal.Watcher-dyn g c.loop-id.watcher.now).told c.loop-id.watcher.now.1 in
    subst (λ (ids : List ReplicaId). TellsTimeouts c.args.self.now ids c.loop-id.self told between) (take_all c.loop-id.id-index c.args.at.now c.loop-id-test.false) c.loop-id.invariant
