use Rattle.std.proofs.Common.{List, ◌≡◌, ℕ, ◌++◌, ◌∷◌, [], refl, sym, ◌∙◌, ap, subst}
use Rattle.std.specs.Prelude.{max}
use Rattle.replica_journal.specs.Done.{Done}
use Rattle.byz_world.specs.declared.noted.Noted.{Noted}
use Rattle.byz_world.specs.Audits.{execution}
use Rattle.byz_world.specs.Noting.{IsFirst, IsNoted}
use Rattle.byz_world.proofs.NotedLaws.{noted_execution, noted_installation}
use Rattle.byz_world.proofs.noted.Noted.note.Goals as goal
use Rattle.byz_world.proofs.noted.Noted.note.Goals.{in-Executed+in_ok-note_execution-in-Executed, in-Installed+in_ok-note_installation-in-Installed}

pub returns-clause-noted : goal.returns-clause-noted
returns-clause-noted c =
    elim c.match-done.branch [
      | in-Executed+in_ok-note_execution-in-Executed w ↦ λ before noted.
          let new : Noted = record { executed = w.note_execution.new.executed; installed = c.args.self.now.installed; greatest = c.max-self.result } in
          let greatest : c.max-self.result ≡ max c.args.self.now.greatest w.in-Executed.number.0 =
          c.max-self.ensures ∙ ap (λ (s : Noted). max s.greatest c.match-done.number) w.self-is ∙ ap (max c.args.self.now.greatest) w.number-is in
          let first = subst (λ (r : List ℕ). IsFirst w.in-Executed.number.0 (execution w.in-Executed.digest r) c.args.self.now.executed w.note_execution.new.executed) w.as_slice.ensures w.in_ok-note_execution-in-Executed.ensures.noted in
          let after = noted_execution before c.args.self.now new w.in-Executed.number w.in-Executed.digest w.in-Executed.result noted first refl greatest in
          let here = subst (λ (x : Done). IsNoted (before ++ x ∷ []) new) (sym w.in-Executed.is) after in
          subst (λ (s : Noted). IsNoted (before ++ c.args.done.now ∷ []) (record { executed = s.executed; installed = s.installed; greatest = c.max-self.result })) (sym w.self-is) here
      | in-Installed+in_ok-note_installation-in-Installed w ↦ λ before noted.
          let new : Noted = record { executed = c.args.self.now.executed; installed = w.note_installation.new.installed; greatest = c.max-self.result } in
          let greatest : c.max-self.result ≡ max c.args.self.now.greatest w.in-Installed.number.0 =
          c.max-self.ensures ∙ ap (λ (s : Noted). max s.greatest c.match-done.number) w.self-is ∙ ap (max c.args.self.now.greatest) w.number-is in
          let after = noted_installation before c.args.self.now new w.in-Installed.number w.in-Installed.digest noted w.in_ok-note_installation-in-Installed.ensures.noted refl greatest in
          let here = subst (λ (x : Done). IsNoted (before ++ x ∷ []) new) (sym w.in-Installed.is) after in
          subst (λ (s : Noted). IsNoted (before ++ c.args.done.now ∷ []) (record { executed = s.executed; installed = s.installed; greatest = c.max-self.result })) (sym w.self-is) here
    ]
