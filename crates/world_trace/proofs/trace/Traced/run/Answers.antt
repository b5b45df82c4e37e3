use Rattle.std.proofs.Common.{◌≡◌, refl, sym, subst, ◌∙◌}
use Rattle.std.specs.String.{string_bytes}
use Rattle.world_script.specs.Expecting.{Scene}
use Rattle.world_trace.specs.Telling.{AreNoted, RunsInMemory}
use Rattle.world_trace.specs.declared.tracer.Tracer.{Tracer}
use Rattle.world_trace.proofs.trace.Traced.run.Goals as goal
use Rattle.world_trace.proofs.trace.Traced.run.Object-1.{Members}
use Rattle.world_trace.proofs.trace.Traced.run.OwnLists.{at-1-1, entry-1-1, own-1, same-1-1}
use base.Stored.{Gv}
use borrow.Pointer.Hide.{carried_sameᵐ, carry_nowᵐ}
use denote.MutBor.{MutBor}
use mir.Syntax.{Dict}

-- The tracer that stands behind the `dyn` is the one that was lent: their codes are the same.
lent : (x : MutBor entry-1-1.0.Denot) → carry_nowᵐ Members Dict entry-1-1 (own-1.entry at-1-1) same-1-1 x ≡ x.now
lent x = entry-1-1.0.coded.inj _ _ (carried_sameᵐ Members Dict entry-1-1 (own-1.entry at-1-1) same-1-1 Gv (λ j r. j.0.coded.code r.now) x)

pub returns : goal.returns
returns g c =
    let before : Scene = record { stage = c.args.self.now.stage; unread = string_bytes c.args.self.now.unread } in
    let after : Scene = record { stage = c.run_in_memory.new.stage; unread = string_bytes c.run_in_memory.new.unread } in
    let Runs : Tracer → Tracer → Type 0 =
    λ old new. RunsInMemory c.args.number before c.args.step.now c.args.printed.now.items c.run_in_memory.new.printed.items c.run_in_memory.result after (AreNoted old.happened.items) (AreNoted new.happened.items) in
    subst (λ (new : Tracer). Runs c.args.self.now.tracer new) (entry-1-1.0.coded.inj c.run_in_memory.new.watcher c.self-1.given.0.now c.self-1.given.2.codes ∙ sym (c.self-2-1.given.1 refl))
    (subst (λ (old : Tracer). Runs old c.run_in_memory.new.watcher) (lent _) c.run_in_memory.ensures)
