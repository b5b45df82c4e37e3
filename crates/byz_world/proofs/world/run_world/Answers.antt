use Rattle.std.proofs.Common.{ℕ}
use Rattle.std.specs.FinSet as set
use Rattle.byz_world.specs.Worlds.{first_world}
use Rattle.byz_world.proofs.RunLaws.{run_agrees, run_on, run_refused, run_safe, run_sound}
use Rattle.byz_world.proofs.world.run_world.Goals as goal

pub returns-in_err-event-clause-refused : goal.returns-in_err-event-clause-refused
returns-in_err-event-clause-refused c =
    run_refused (first_world c.args.config.now.value (λ (i : ℕ). set.contains c.args.faulty.now i) c.args.signers.items) c.args.events.now c.loop-event.event-index c.event-item.result c.loop-event.world
    _ c.in_err-event.field-0.0 c.from_residual-in_err-event.result c.loop-event-test.true c.event-item.is c.loop-event.invariant c.in_err-event.ensures.happens c.from_residual-in_err-event.ensures.1

pub loop-event-preserved : goal.loop-event-preserved
loop-event-preserved c =
    run_on (first_world c.args.config.now.value (λ (i : ℕ). set.contains c.args.faulty.now i) c.args.signers.items) c.args.events.now c.loop-event.event-index c.event-item.result c.loop-event.world
    c.event.new.self c.in_ok-event.field-0 c.loop-event-test.true c.event-item.is c.loop-event.invariant c.in_ok-event.ensures.happens

pub returns-clause-agrees : goal.returns-clause-agrees
returns-clause-agrees c =
    run_agrees c.args.config.now.value (λ (i : ℕ). set.contains c.args.faulty.now i) c.args.signers.items c.loop-event.world c.report.result
    (run_sound c.args.config.now.value (λ (i : ℕ). set.contains c.args.faulty.now i) c.args.signers.items c.args.events.now c.loop-event.event-index c.loop-event.world c.new.ensures.legal
    c.requires.keys c.loop-event.invariant) c.report.ensures.report

pub returns-clause-safe : goal.returns-clause-safe
returns-clause-safe c =
    run_safe c.args.config.now.value (λ (i : ℕ). set.contains c.args.faulty.now i) c.args.signers.items c.loop-event.world c.report.result
    (run_sound c.args.config.now.value (λ (i : ℕ). set.contains c.args.faulty.now i) c.args.signers.items c.args.events.now c.loop-event.event-index c.loop-event.world c.new.ensures.legal
    c.requires.keys c.loop-event.invariant) c.report.ensures.report
