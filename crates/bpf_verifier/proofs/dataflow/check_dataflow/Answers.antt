use Rattle.std.proofs.Common.{◌≡◌, ◌<◌, List, Option, length, subst, sym, refl, rules, arith, inl, inr}
use Rattle.std.specs.Prelude.{IfErr}
use Rattle.bpf_decode.specs.declared.insn.Insn.{Insn}
use Rattle.bpf_model.specs.AbstractState.{start_state}
use Rattle.bpf_model.specs.declared.fault.Refusal.{Refusal}
use Rattle.bpf_model.proofs.Visits.{no_faults}
use Rattle.bpf_verifier.proofs.States.{represents_same}
use Rattle.bpf_verifier.proofs.Visiting.{main_of, is_main, main_running, fails_first, handed_on}
use Rattle.bpf_verifier.proofs.dataflow.check_dataflow.Goals as goal

pub follow-requires : goal.follow-requires
follow-requires g c =
    let h = c.requires.code in
    let none = c.in_ok-visit.ensures.visits in
    let running = main_running c.args.profile g.row.WORDS c.args.slots.now h.0 c.requires.follows h.1 h.2 c.requires.some in (
      search rules,
      (
        search rules,
        (
          search rules,
          (
            c.requires.few,
            (
              search rules,
              (
                c.requires.some,
                (
                  c.in_ok-visit.ensures.steps,
                  (
                    omega (arith, none),
                    (main_of c.args.profile h.0, running, refl, sym none, represents_same _ _ (start_state c.args.profile) c.in_ok-visit.ensures.ranges c.in_ok-visit.ensures.initialized c.in_ok-visit.ensures.words (c.at_start.ensures c.args.profile c.requires.follows)),
                  ),
                ),
              ),
            ),
          ),
        ),
      ),
    )

pub returns-in_err-returned-clause-refused : goal.returns-in_err-returned-clause-refused
returns-in_err-returned-clause-refused g c =
    let same : IfErr c.from_residual-in_err-returned.result (λ (e : Refusal). e ≡ c.in_err-returned.field-0.0) = search rules in
    handed_on c.from_residual-in_err-returned.result c.in_err-returned.field-0.0 _ same
    (elim c.in_err-returned.ensures.refused [
      | inl memory ↦ inl memory
      | inr fails ↦ inr (λ code at structured.
          fails_first c.args.profile code c.in_err-returned.field-0.0.fault c.in_err-returned.field-0.0.slot (fails (main_of c.args.profile code) at refl refl (sym c.in_ok-visit.ensures.visits) (is_main c.args.profile code structured (subst (λ (l : List (Option Insn)). 0 < length l) at c.requires.some)) (represents_same _ _ (start_state c.args.profile) c.in_ok-visit.ensures.ranges c.in_ok-visit.ensures.initialized c.in_ok-visit.ensures.words (c.at_start.ensures c.args.profile c.requires.follows))))
    ])

pub returns-clause-right : goal.returns-clause-right
returns-clause-right g c = λ code at structured.
    let f = c.in_ok-returned.ensures.right (main_of c.args.profile code) at refl refl (sym c.in_ok-visit.ensures.visits) (is_main c.args.profile code structured (subst (λ (l : List (Option Insn)). 0 < length l) at c.requires.some)) (represents_same _ _ (start_state c.args.profile) c.in_ok-visit.ensures.ranges c.in_ok-visit.ensures.initialized c.in_ok-visit.ensures.words (c.at_start.ensures c.args.profile c.requires.follows)) in
    let few = c.in_ok-returned.ensures.few.1 in
    let count = f.count in
    no_faults c.args.profile code f.right (omega (arith, few, count))

pub returns-clause-bound : goal.returns-clause-bound
returns-clause-bound g c = λ code at structured.
    (c.in_ok-returned.ensures.right (main_of c.args.profile code) at refl refl (sym c.in_ok-visit.ensures.visits) (is_main c.args.profile code structured (subst (λ (l : List (Option Insn)). 0 < length l) at c.requires.some)) (represents_same _ _ (start_state c.args.profile) c.in_ok-visit.ensures.ranges c.in_ok-visit.ensures.initialized c.in_ok-visit.ensures.words (c.at_start.ensures c.args.profile c.requires.follows))).bound
