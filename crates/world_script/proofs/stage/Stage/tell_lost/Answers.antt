use Rattle.std.proofs.Common.{◌≡◌, ◌<◌, ◌≤◌, ◌+◌, ℕ, Some, None, length, sym, subst}
use Rattle.std.specs.Prelude.{slice_get}
use Rattle.script_text.specs.declared.script.QueueEdit.{QueueEdit}
use Rattle.world_queue.specs.Letters.{meant_one}
use Rattle.world_script.specs.Facts.{StageFacts}
use Rattle.world_script.specs.Seen.{Tells, losses_seen}
use Rattle.world_script.proofs.Telling.{all_lost, lost_until, none_lost, one_lost}
use Rattle.world_script.proofs.stage.Stage.tell_lost.Goals as goal
use Rattle.world_script.proofs.stage.Stage.tell_lost.Goals.{in-Some+in_ok-lost, in_default-meant_at}

pub loop-index-preserved : goal.loop-index-preserved
loop-index-preserved g c =
    let told = (goal.Watcher-dyn g c.args.watcher.now).told c.args.watcher.now.1 in
    let between = (goal.Watcher-dyn g c.loop-index.watcher.now).told c.loop-index.watcher.now.1 in
    let f = c.in-Drop.filter in
    let i = c.loop-index.index in
    let q = c.args.self.now.queue in
    let all = subst (λ (s : StageFacts). c.len-index-end.result ≡ length s.queue) c.self.view_is c.len-index-end.ensures in
    let below = subst (λ (n : ℕ). i < n) all c.loop-index-test.true in
    elim c.match-meant_at.branch [
      | in-Some+in_ok-lost w ↦
          subst (λ wt. Tells told (lost_until f q (i + 1)) ((goal.Watcher-dyn g wt.now).told wt.now.1)) (sym w.watcher-is)
          (one_lost f q i w.in-Some.letter.now told between ((goal.Watcher-dyn g (c.loop-index.watcher.now.0, w.lost.new.self)).told w.lost.new.self) below
          (subst (λ (s : StageFacts). Some w.in-Some.letter.now ≡ meant_one f (slice_get s.queue i)) c.self.view_is w.in-Some.ensures) c.loop-index.invariant w.in_ok-lost.ensures)
      | in_default-meant_at w ↦
          subst (λ wt. Tells told (lost_until f q (i + 1)) ((goal.Watcher-dyn g wt.now).told wt.now.1)) (sym w.watcher-is)
          (none_lost f q i told between below (subst (λ (s : StageFacts). None ≡ meant_one f (slice_get s.queue i)) c.self.view_is w.in_default-meant_at.ensures) c.loop-index.invariant)
    ]

pub returns : goal.returns
returns g c =
    let told = (goal.Watcher-dyn g c.args.watcher.now).told c.args.watcher.now.1 in
    let between = (goal.Watcher-dyn g c.loop-index.watcher.now).told c.loop-index.watcher.now.1 in
    let q = c.args.self.now.queue in
    let all = subst (λ (s : StageFacts). c.len-index-end.result ≡ length s.queue) c.self.view_is c.len-index-end.ensures in
    subst (λ (e : QueueEdit). Tells told (losses_seen c.args.self.now e) between) (sym c.in-Drop.is)
    (all_lost c.in-Drop.filter q c.loop-index.index told between (subst (λ (n : ℕ). n ≤ c.loop-index.index) all c.loop-index-test.false) c.loop-index.invariant)
