use Rattle.std.proofs.Common.{rules, ◌≡◌, Some, None, sym, ap, ◌∙◌, inl, inr}
use Rattle.sandbox_c.specs.Inside.{code_of, entries_of}
use Rattle.sandbox_c.specs.Statuses.{number_of}
use Rattle.sandbox_c.proofs.Told.{no_memory, stopped}
use Rattle.sandbox_c.proofs.running.bpfh_run.Goals as goal

pub returns-in_default-take-clause-stopped : goal.returns-in_default-take-clause-stopped
returns-in_default-take-clause-stopped c = λ memory. absurd (no_memory (code_of c.deref.result.now) None c.args.args.now 0
    (sym (ap number_of (c.missing-status.ensures.value c.args.args.now 0)) ∙ sym c.number-in_default-take.ensures ∙ memory))

pub returns-in-Err-clause-stopped : goal.returns-in-Err-clause-stopped
returns-in-Err-clause-stopped c = λ memory.
    let first : Some c.deref-2.result.now ≡ c.args.procedure.now.slot.inside = search rules in
    let second : Some c.deref_mut.result.now ≡ c.args.map.now.slot.inside = search rules in
    let third : Some c.run_over-finished.new.map ≡ c.put-3.new.self.slot.inside = sym c.put-3.ensures in
    elim c.in-Err.ensures.refused [
      | inl refused ↦ stopped _ _ _ _ _ _ c.args.args.now c.args.client first second third refused.2
      | inr refused ↦ absurd (no_memory (code_of c.deref-2.result.now) (entries_of c.deref_mut.result.now) c.args.args.now _
          (sym (ap number_of refused.0) ∙ sym c.number-in-Err.ensures ∙ memory))
    ]
