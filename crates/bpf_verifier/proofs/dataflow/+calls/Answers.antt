use Rattle.std.proofs.Common.{◌≡◌, ◌∙◌, ◌<◌, ◌≤◌, ◌+◌, ◌-◌, ℕ, ℤ, suc, max, Option, Some, None, Box, length, set, refl, sym, ap, subst, arith, rules, inl, inr}
use Rattle.std.specs.Prelude.{IfErr}
use Rattle.std.specs.Int.{w32, cast_signed, cast_unsigned}
use Rattle.std.specs.declared.alloc.Global.{Global}
use Rattle.std.proofs.lemmas.List.{length-set}
use Rattle.bpf_decode.specs.declared.insn.Insn.TheVariants.{CallLocal}
use Rattle.bpf_model.specs.AbstractState as model
use Rattle.bpf_model.specs.AbstractState.{edges, entry_state}
use Rattle.bpf_model.specs.Code.{target_of}
use Rattle.bpf_model.specs.Verdict.{insn_dataflow_fault, visits_in, visit_fault, max_visits}
use Rattle.bpf_model.specs.declared.fault.Refusal.{Refusal}
use Rattle.bpf_verifier.specs.declared.dataflow.Visit.{Visit}
use Rattle.bpf_verifier.specs.declared.dataflow.Returned.{Returned}
use Rattle.bpf_verifier.specs.Represents.{Stack, IsStackOf, Represents, state_of}
use Rattle.bpf_verifier.specs.Sweep.{Pending, visit_in, VisitJoined, Flowed, AreFew, Fails, Entered, activation_of, SweepAt, IsStart, nothing_returned, FailsInCall, CalledBack, callee_of}
use Rattle.bpf_model.proofs.Slots.{insn_at_less}
use Rattle.bpf_verifier.proofs.Sweeps.{pending_is, taken, length_flow, few_visited, steps_few, own_stack, own_stack_is}
use Rattle.bpf_verifier.proofs.Functions.{insn_there, begins_here, state_here, sweep_none, start_long, start_few, started, followed}
use Rattle.bpf_verifier.proofs.Visiting.{at_next, begin_fails, other_visited, exit_visited, call_visited, call_lands, call_fails, own_state, own_exit, is_callee, callee_running, is_none_of, flowed_from, called_few, finds_same, handed_on, if_ok, if_err}
use Rattle.bpf_verifier.proofs.dataflow.+calls.Goals as goal

-- ---- visit_slot

pub visit_slot-visit-requires : goal.visit_slot-visit-requires
visit_slot-visit-requires g t w =
    let h = w.requires.running in
    let f = h.0 in
    let inside : w.args.slot < length w.args.pending.now = omega (arith, w.requires.inside, w.requires.long) in
    let x = w.in-Some in
    let e = pending_is w.args.pending.now w.args.slot w.take.result w.index-pending-slot.result (Some x.visit) w.take.ensures.value inside x.is in
    let m = state_here f h.1.entered w.args.slot w.args.pending.now w.args.returned.now w.args.pass.now.visits h.2 inside x.visit.value e in (
      search rules,
      record {
        profile = h.1.profile;
        follows = h.1.follows;
        code = f.code;
        slots_are = h.1.slots_are;
        running = activation_of f;
        active = h.1.active;
        insn_is = insn_there f.code w.args.slots.now w.args.slot w.args.insn h.1.slots_are w.requires.insn (begins_here f h.1.entered w.args.slot w.args.pending.now w.args.returned.now w.args.pass.now.visits h.2 inside x.visit.value e);
        of = m.0;
        of_is = m.1;
        represents = subst (λ (u : Visit g.row.WORDS). Represents u.state m.0) (sym w.deref.ensures) m.2;
      },
    )

pub visit_slot-returns-in_default-clause-right : goal.visit_slot-returns-in_default-clause-right
visit_slot-returns-in_default-clause-right g c w = λ f same left is p.
    let inside : w.args.slot < length w.args.pending.now = omega (arith, w.requires.inside, w.requires.long) in
    subst (λ (z : Option (Box (Visit g.row.WORDS) Global)). SweepAt f (w.args.slot + 1) (set w.args.pending.now w.args.slot z) w.args.returned.now w.args.pass.now.visits) (sym w.take.ensures.after)
    (at_next f w.args.slot (taken w.args.pending.now w.args.slot) w.args.returned.now w.args.pass.now.visits
    (sweep_none f is w.args.slot w.args.pending.now w.args.returned.now w.args.pass.now.visits p inside (pending_is w.args.pending.now w.args.slot w.take.result w.index-pending-slot.result None w.take.ensures.value inside w.in_default.is)))

pub visit_slot-returns-in_err-begin-clause-refused : goal.visit_slot-returns-in_err-begin-clause-refused
visit_slot-returns-in_err-begin-clause-refused g c w =
    let same : IfErr w.from_residual.result (λ (e : Refusal). e ≡ w.in_err-begin.field-0.0) = search rules in
    handed_on w.from_residual.result w.in_err-begin.field-0.0 _ same (inr (λ f at left is p.
    let inside : w.args.slot < length w.args.pending.now = omega (arith, w.requires.inside, w.requires.long) in
    let x = w.in-Some in
    let e = pending_is w.args.pending.now w.args.slot w.take.result w.index-pending-slot.result (Some x.visit) w.take.ensures.value inside x.is in
    let x-is = insn_there f.code w.args.slots.now w.args.slot w.args.insn at w.requires.insn (begins_here f is w.args.slot w.args.pending.now w.args.returned.now w.args.pass.now.visits p inside x.visit.value e) in
    let bad = w.in_err-begin.ensures.refused in
    subst (λ (n : ℕ). Fails f.base (visits_in f.code (suc f.left) f.entry f.state) w.in_err-begin.field-0.0.fault n) (sym bad.0)
    (begin_fails f is w.args.slot w.args.pending.now w.args.returned.now w.args.pass.now.visits p inside x.visit.value e w.args.insn x-is (7 - w.args.left) (ap (λ (n : ℕ). 7 - n) (sym left)) w.in_err-begin.field-0.0.fault w.requires.few.visits_few (subst (λ (u : Visit g.row.WORDS). (stack : Stack) → IsStackOf u.state.initialized.words g.row.WORDS u.state.words.ranges stack → visit_fault w.args.pass.now.visits (Some (record { slot = w.args.slot; fault = insn_dataflow_fault (7 - w.args.left) (state_of u.state.ranges stack) w.args.insn })) ≡ Some w.in_err-begin.field-0.0.fault) w.deref-2.ensures bad.1))))

pub visit_slot-returns-in_err-callee-in-CallLocal-clause-refused : goal.visit_slot-returns-in_err-callee-in-CallLocal-clause-refused
visit_slot-returns-in_err-callee-in-CallLocal-clause-refused g c w =
    let same : IfErr w.from_residual-in_err-callee-in-CallLocal.result (λ (e : Refusal). e ≡ w.in_err-callee-in-CallLocal.field-0.0) = search rules in
    handed_on w.from_residual-in_err-callee-in-CallLocal.result w.in_err-callee-in-CallLocal.field-0.0 _ same
    (elim w.in_err-callee-in-CallLocal.ensures.refused [
      | inl memory ↦ inl memory
      | inr fails ↦ inr (λ f at left is p.
          let inside : w.args.slot < length w.args.pending.now = omega (arith, w.requires.inside, w.requires.long) in
          let x = w.in-Some in
          let e = pending_is w.args.pending.now w.args.slot w.take.result w.index-pending-slot.result (Some x.visit) w.take.ensures.value inside x.is in
          let x-is = insn_there f.code w.args.slots.now w.args.slot w.args.insn at w.requires.insn (begins_here f is w.args.slot w.args.pending.now w.args.returned.now w.args.pass.now.visits p inside x.visit.value e) in
          let refusal = w.in_err-callee-in-CallLocal.field-0.0 in
          let n = w.in-CallLocal.offset in
          let again : cast_signed w32 (cast_unsigned w32 n) ≡ n = search rules in
          call_fails f is w.args.slot w.args.pending.now w.args.returned.now w.args.pass.now.visits p inside x.visit.value e w.args.insn x-is (7 - w.args.left) (ap (λ (k : ℕ). 7 - k) (sym left)) n w.in-CallLocal.is (finds_same w.deref-2.result.now x.visit.value w.args.insn (7 - w.args.left) None w.deref-2.ensures w.in_ok-begin.ensures.right) refusal.fault refusal.slot
          (λ m rep none.
          subst (λ (k : ℕ). FailsInCall f w.args.slot n m k refusal.fault refusal.slot) w.in_ok-begin.ensures.count.0
          (subst (λ (z : ℤ). FailsInCall f w.args.slot z m w.begin.new.self.visits refusal.fault refusal.slot) again
          (fails f m at left is (subst (λ (u : Visit g.row.WORDS). Represents u.state m) (sym w.deref-in-CallLocal.ensures) rep) (x-is ∙ ap Some w.in-CallLocal.is ∙ ap (λ (z : ℤ). Some (CallLocal z)) (sym again)) none))))
    ])

pub visit_slot-call-requires : goal.visit_slot-call-requires
visit_slot-call-requires g t c κs within =
    let h = c.requires.running in
    let f = h.0 in
    let inside : c.args.slot < length c.args.pending.now = omega (arith, c.requires.inside, c.requires.long) in
    let x = c.in-Some in
    let e = pending_is c.args.pending.now c.args.slot c.take.result c.index-pending-slot.result (Some x.visit) c.take.ensures.value inside x.is in
    let x-is = insn_there f.code c.args.slots.now c.args.slot c.args.insn h.1.slots_are c.requires.insn (begins_here f h.1.entered c.args.slot c.args.pending.now c.args.returned.now c.args.pass.now.visits h.2 inside x.visit.value e) in
    let n = c.in-CallLocal.offset in
    let again : cast_signed w32 (cast_unsigned w32 n) ≡ n = search rules in
    let m = state_here f h.1.entered c.args.slot c.args.pending.now c.args.returned.now c.args.pass.now.visits h.2 inside x.visit.value e in
    let counted = c.in_ok-begin.ensures.count in
    let few : c.begin.new.self.visits ≤ max_visits = omega (arith, counted.0, counted.1) in (
      search rules,
      (
        search rules,
        (
          search rules,
          (
            search rules,
            (
              search rules,
              (
                search rules,
                (
                  c.requires.short,
                  (
                    c.requires.deep,
                    (
                      c.requires.inside,
                      (
                        few,
                        (f, m.0, h.1, subst (λ (u : Visit g.row.WORDS). Represents u.state m.0) (sym c.deref-in-CallLocal.ensures) m.2, m.1, x-is ∙ ap Some c.in-CallLocal.is ∙ ap (λ (z : ℤ). Some (CallLocal z)) (sym again)),
                      ),
                    ),
                  ),
                ),
              ),
            ),
          ),
        ),
      ),
    )

pub visit_slot-overflow_add-deref_mut : goal.visit_slot-overflow_add-deref_mut
visit_slot-overflow_add-deref_mut g t c =
    let inside : c.args.slot < length c.args.pending.now = omega (arith, c.requires.inside, c.requires.long) in
    let x = c.in-Some in
    let e = pending_is c.args.pending.now c.args.slot c.take.result c.index-pending-slot.result (Some x.visit) c.take.ensures.value inside x.is in
    let few = steps_few 0 c.args.pass.now.visits c.args.slot c.args.pending.now c.args.returned.now.bound x.visit.value c.requires.few e in
    let same = ap (λ (u : Visit g.row.WORDS). u.steps) c.deref_mut.ensures.value in
    let most = c.requires.few.visits_few in
    let more = called_few c.in_ok-callee-in-CallLocal.field-0 c.in-Some-2.callee c.args.left c.begin.new.self.visits c.call.new.pass.visits c.in-Some-2.is c.in_ok-callee-in-CallLocal.ensures.few in
    let counted = c.in_ok-begin.ensures.count in
    omega (arith, few, same, most, more.1, more.2, counted.0)

pub visit_slot-resume-requires : goal.visit_slot-resume-requires
visit_slot-resume-requires g c w =
    let few = called_few w.in_ok-callee-in-CallLocal.field-0 w.in-Some-2.callee w.args.left w.begin.new.self.visits w.call.new.pass.visits w.in-Some-2.is w.in_ok-callee-in-CallLocal.ensures.few in
    (search rules, (search rules, (omega (arith, few.0, w.requires.deep), search rules)))

pub visit_slot-overflow_add-deref_mut-in-Exit : goal.visit_slot-overflow_add-deref_mut-in-Exit
visit_slot-overflow_add-deref_mut-in-Exit g c w =
    let inside : w.args.slot < length w.args.pending.now = omega (arith, w.requires.inside, w.requires.long) in
    let x = w.in-Some in
    let e = pending_is w.args.pending.now w.args.slot w.take.result w.index-pending-slot.result (Some x.visit) w.take.ensures.value inside x.is in
    let few = steps_few 0 w.args.pass.now.visits w.args.slot w.args.pending.now w.args.returned.now.bound x.visit.value w.requires.few e in
    let same = ap (λ (u : Visit g.row.WORDS). u.steps) w.deref_mut-in-Exit.ensures.value in
    let most = w.requires.few.visits_few in
    omega (arith, few, same, most)

pub visit_slot-overflow_add-deref_mut-in_default-insn : goal.visit_slot-overflow_add-deref_mut-in_default-insn
visit_slot-overflow_add-deref_mut-in_default-insn g c w =
    let inside : w.args.slot < length w.args.pending.now = omega (arith, w.requires.inside, w.requires.long) in
    let x = w.in-Some in
    let e = pending_is w.args.pending.now w.args.slot w.take.result w.index-pending-slot.result (Some x.visit) w.take.ensures.value inside x.is in
    let few = steps_few 0 w.args.pass.now.visits w.args.slot w.args.pending.now w.args.returned.now.bound x.visit.value w.requires.few e in
    let same = ap (λ (u : Visit g.row.WORDS). u.steps) w.deref_mut-in_default-insn.ensures.value in
    let most = w.requires.few.visits_few in
    omega (arith, few, same, most)

pub visit_slot-returns-in-Some-2-clause-few : goal.visit_slot-returns-in-Some-2-clause-few
visit_slot-returns-in-Some-2-clause-few g c w = λ base few.
    let inside : w.args.slot < length w.args.pending.now = omega (arith, w.requires.inside, w.requires.long) in
    let x = w.in-Some in
    let v : Visit g.row.WORDS = x.visit.value in
    let e = pending_is w.args.pending.now w.args.slot w.take.result w.index-pending-slot.result (Some x.visit) w.take.ensures.value inside x.is in
    let back = w.in-Some-2.callee in
    let own = own_state v in
    let gone = own_exit back.exit in
    let less = called_few w.in_ok-callee-in-CallLocal.field-0 back w.args.left w.begin.new.self.visits w.call.new.pass.visits w.in-Some-2.is w.in_ok-callee-in-CallLocal.ensures.few in
    let one = w.in_ok-begin.ensures.count.0 in
    let same = w.resume.ensures.visits in
    let m : Visit g.row.WORDS = w.deref_mut.result.now in
    let is : m ≡ v = w.deref_mut.ensures.value in
    few_visited base w.args.pass.now.visits w.resume.new.pass.visits w.args.slot w.args.pending.now w.resume.new.pending w.args.returned.now.bound w.max-returned.result (1 + back.bound) v _ few e (omega (arith, less.1, one, same)) (omega (arith, less.2, same))
    (w.max-returned.ensures ∙ ap (λ (u : Visit g.row.WORDS). max w.args.returned.now.bound u.steps) w.deref-in-Some-2.ensures ∙ ap (λ (u : Visit g.row.WORDS). max w.args.returned.now.bound (u.steps + (1 + back.bound))) is)
    (flowed_from _ (m.steps + (1 + back.bound)) (v.steps + (1 + back.bound)) w.args.pending.now w.resume.new.pending w.args.slot w.take.new.self w.take.ensures.after (ap (λ (u : Visit g.row.WORDS). u.steps + (1 + back.bound)) is) (w.resume.ensures.flowed own.0 gone.0 (subst (λ (u : Visit g.row.WORDS). Represents u.state own.0) (sym is) own.1) gone.1))

pub visit_slot-returns-in-Some-2-clause-right : goal.visit_slot-returns-in-Some-2-clause-right
visit_slot-returns-in-Some-2-clause-right g c w = λ f at left is p.
    let inside : w.args.slot < length w.args.pending.now = omega (arith, w.requires.inside, w.requires.long) in
    let x = w.in-Some in
    let v : Visit g.row.WORDS = x.visit.value in
    let e = pending_is w.args.pending.now w.args.slot w.take.result w.index-pending-slot.result (Some x.visit) w.take.ensures.value inside x.is in
    let x-is = insn_there f.code w.args.slots.now w.args.slot w.args.insn at w.requires.insn (begins_here f is w.args.slot w.args.pending.now w.args.returned.now w.args.pass.now.visits p inside x.visit.value e) in
    let back = w.in-Some-2.callee in
    let m : Visit g.row.WORDS = w.deref_mut.result.now in
    let same : m ≡ v = w.deref_mut.ensures.value in
    let n = w.in-CallLocal.offset in
    let again : cast_signed w32 (cast_unsigned w32 n) ≡ n = search rules in
    call_visited f is w.args.slot w.args.pending.now w.args.returned.now w.args.pass.now.visits p inside v e w.args.insn x-is (7 - w.args.left) (ap (λ (k : ℕ). 7 - k) (sym left)) w.resume.new.pending (record { exit = w.args.returned.now.exit; bound = w.max-returned.result }) w.resume.new.pass.visits (finds_same w.deref-2.result.now v w.args.insn (7 - w.args.left) None w.deref-2.ensures w.in_ok-begin.ensures.right) n w.in-CallLocal.is back
    (λ s rep none.
    subst (λ (k : ℕ). CalledBack f w.args.slot n s k (Some back) w.resume.new.pass.visits) w.in_ok-begin.ensures.count.0
    (subst (λ (k : ℕ). CalledBack f w.args.slot n s w.begin.new.self.visits (Some back) k) (sym w.resume.ensures.visits)
    (subst (λ (o : Option (Returned g.row.WORDS)). CalledBack f w.args.slot n s w.begin.new.self.visits o w.call.new.pass.visits) w.in-Some-2.is
    (subst (λ (z : ℤ). CalledBack f w.args.slot z s w.begin.new.self.visits w.in_ok-callee-in-CallLocal.field-0 w.call.new.pass.visits) again
    (w.in_ok-callee-in-CallLocal.ensures.right f s at left is (subst (λ (u : Visit g.row.WORDS). Represents u.state s) (sym w.deref-in-CallLocal.ensures) rep) (x-is ∙ ap Some w.in-CallLocal.is ∙ ap (λ (z : ℤ). Some (CallLocal z)) (sym again)) none)))))
    (λ s gone rep out.
    flowed_from _ (m.steps + (1 + back.bound)) (v.steps + (1 + back.bound)) w.args.pending.now w.resume.new.pending w.args.slot w.take.new.self w.take.ensures.after (ap (λ (u : Visit g.row.WORDS). u.steps + (1 + back.bound)) same) (w.resume.ensures.flowed s gone (subst (λ (u : Visit g.row.WORDS). Represents u.state s) (sym same) rep) out))
    refl
    (w.max-returned.ensures ∙ ap (λ (u : Visit g.row.WORDS). max w.args.returned.now.bound u.steps) w.deref-in-Some-2.ensures ∙ ap (λ (u : Visit g.row.WORDS). max w.args.returned.now.bound (u.steps + (1 + back.bound))) same)

pub visit_slot-returns-in_default-2-clause-right : goal.visit_slot-returns-in_default-2-clause-right
visit_slot-returns-in_default-2-clause-right g c w = λ f at left is p.
    let inside : w.args.slot < length w.args.pending.now = omega (arith, w.requires.inside, w.requires.long) in
    let x = w.in-Some in
    let v : Visit g.row.WORDS = x.visit.value in
    let e = pending_is w.args.pending.now w.args.slot w.take.result w.index-pending-slot.result (Some x.visit) w.take.ensures.value inside x.is in
    let x-is = insn_there f.code w.args.slots.now w.args.slot w.args.insn at w.requires.insn (begins_here f is w.args.slot w.args.pending.now w.args.returned.now w.args.pass.now.visits p inside x.visit.value e) in
    let n = w.in-CallLocal.offset in
    let again : cast_signed w32 (cast_unsigned w32 n) ≡ n = search rules in
    let none_back : w.in_ok-callee-in-CallLocal.field-0 ≡ None = is_none_of w.in_ok-callee-in-CallLocal.field-0 w.in_default-2.not-Some in
    absurd (call_lands f is w.args.slot w.args.pending.now w.args.returned.now w.args.pass.now.visits p inside v e w.args.insn x-is (7 - w.args.left) (ap (λ (k : ℕ). 7 - k) (sym left)) w.args.pending.now w.args.returned.now w.call.new.pass.visits (finds_same w.deref-2.result.now v w.args.insn (7 - w.args.left) None w.deref-2.ensures w.in_ok-begin.ensures.right) n w.in-CallLocal.is
    (λ s rep none.
    subst (λ (k : ℕ). CalledBack {n = g.row.WORDS} f w.args.slot n s k None w.call.new.pass.visits) w.in_ok-begin.ensures.count.0
    (subst (λ (o : Option (Returned g.row.WORDS)). CalledBack f w.args.slot n s w.begin.new.self.visits o w.call.new.pass.visits) none_back
    (subst (λ (z : ℤ). CalledBack f w.args.slot z s w.begin.new.self.visits w.in_ok-callee-in-CallLocal.field-0 w.call.new.pass.visits) again
    (w.in_ok-callee-in-CallLocal.ensures.right f s at left is (subst (λ (u : Visit g.row.WORDS). Represents u.state s) (sym w.deref-in-CallLocal.ensures) rep) (x-is ∙ ap Some w.in-CallLocal.is ∙ ap (λ (z : ℤ). Some (CallLocal z)) (sym again)) none)))))

pub visit_slot-returns-in-Exit-clause-right : goal.visit_slot-returns-in-Exit-clause-right
visit_slot-returns-in-Exit-clause-right g c w = λ f at left is p.
    let inside : w.args.slot < length w.args.pending.now = omega (arith, w.requires.inside, w.requires.long) in
    let x = w.in-Some in
    let v : Visit g.row.WORDS = x.visit.value in
    let e = pending_is w.args.pending.now w.args.slot w.take.result w.index-pending-slot.result (Some x.visit) w.take.ensures.value inside x.is in
    let x-is = insn_there f.code w.args.slots.now w.args.slot w.args.insn at w.requires.insn (begins_here f is w.args.slot w.args.pending.now w.args.returned.now w.args.pass.now.visits p inside x.visit.value e) in
    let m : Visit g.row.WORDS = w.deref_mut-in-Exit.result.now in
    let same : m ≡ v = w.deref_mut-in-Exit.ensures.value in
    let after : Returned g.row.WORDS = record { exit = w.join_into.new.place; bound = w.max-returned-in-Exit.result } in
    exit_visited f is w.args.slot w.args.pending.now w.args.returned.now w.args.pass.now.visits p inside v e w.args.insn x-is (7 - w.args.left) (ap (λ (k : ℕ). 7 - k) (sym left)) (set w.args.pending.now w.args.slot w.take.new.self) after w.join_into.new.pass.visits (finds_same w.deref-2.result.now v w.args.insn (7 - w.args.left) None w.deref-2.ensures w.in_ok-begin.ensures.right) w.in-Exit.is
    (ap (λ (z : Option (Box (Visit g.row.WORDS) Global)). set w.args.pending.now w.args.slot z) w.take.ensures.after)
    (λ of rep.
    subst (λ (u : Visit g.row.WORDS). VisitJoined (visit_in w.args.returned.now.exit) of (u.steps + 1) (visit_in w.join_into.new.place)) same
    (w.join_into.ensures.visit of (subst (λ (u : Visit g.row.WORDS). Represents u.state of) (sym same) rep)))
    (w.join_into.ensures.visits ∙ w.in_ok-begin.ensures.count.0)
    (w.max-returned-in-Exit.ensures ∙ ap (λ (u : Visit g.row.WORDS). max w.args.returned.now.bound u.steps) w.deref-in-Exit.ensures ∙ ap (λ (u : Visit g.row.WORDS). max w.args.returned.now.bound (u.steps + 1)) same)

pub visit_slot-returns-in_ok-flow-in_default-insn-clause-few : goal.visit_slot-returns-in_ok-flow-in_default-insn-clause-few
visit_slot-returns-in_ok-flow-in_default-insn-clause-few g c w = λ base few.
    let inside : w.args.slot < length w.args.pending.now = omega (arith, w.requires.inside, w.requires.long) in
    let x = w.in-Some in
    let v : Visit g.row.WORDS = x.visit.value in
    let e = pending_is w.args.pending.now w.args.slot w.take.result w.index-pending-slot.result (Some x.visit) w.take.ensures.value inside x.is in
    let m : Visit g.row.WORDS = w.deref_mut-in_default-insn.result.now in
    let same : m ≡ v = w.deref_mut-in_default-insn.ensures.value in
    let one = w.in_ok-begin.ensures.count.0 in
    let less = w.in_ok-begin.ensures.count.1 in
    let visits = w.in_ok-flow-in_default-insn.ensures.visits in
    few_visited base w.args.pass.now.visits w.flow.new.pass.visits w.args.slot w.args.pending.now w.flow.new.pending w.args.returned.now.bound w.max-returned-in_default-insn.result 1 v _ few e (omega (arith, one, visits)) (omega (arith, one, less, visits))
    (w.max-returned-in_default-insn.ensures ∙ ap (λ (u : Visit g.row.WORDS). max w.args.returned.now.bound u.steps) w.deref-in_default-insn.ensures ∙ ap (λ (u : Visit g.row.WORDS). max w.args.returned.now.bound (u.steps + 1)) same)
    (flowed_from _ (m.steps + 1) (v.steps + 1) w.args.pending.now w.flow.new.pending w.args.slot w.take.new.self w.take.ensures.after (ap (λ (u : Visit g.row.WORDS). u.steps + 1) same) (w.in_ok-flow-in_default-insn.ensures.flowed (λ _ _. None) (own_stack m.state) w.in_default-insn.not-CallLocal (own_stack_is m.state)))

pub visit_slot-returns-in_ok-flow-in_default-insn-clause-right : goal.visit_slot-returns-in_ok-flow-in_default-insn-clause-right
visit_slot-returns-in_ok-flow-in_default-insn-clause-right g c w = λ f at left is p.
    let inside : w.args.slot < length w.args.pending.now = omega (arith, w.requires.inside, w.requires.long) in
    let x = w.in-Some in
    let v : Visit g.row.WORDS = x.visit.value in
    let e = pending_is w.args.pending.now w.args.slot w.take.result w.index-pending-slot.result (Some x.visit) w.take.ensures.value inside x.is in
    let x-is = insn_there f.code w.args.slots.now w.args.slot w.args.insn at w.requires.insn (begins_here f is w.args.slot w.args.pending.now w.args.returned.now w.args.pass.now.visits p inside x.visit.value e) in
    let m : Visit g.row.WORDS = w.deref_mut-in_default-insn.result.now in
    let same : m ≡ v = w.deref_mut-in_default-insn.ensures.value in
    other_visited f is w.args.slot w.args.pending.now w.args.returned.now w.args.pass.now.visits p inside v e w.args.insn x-is (7 - w.args.left) (ap (λ (k : ℕ). 7 - k) (sym left)) w.flow.new.pending (record { exit = w.args.returned.now.exit; bound = w.max-returned-in_default-insn.result }) w.flow.new.pass.visits (finds_same w.deref-2.result.now v w.args.insn (7 - w.args.left) None w.deref-2.ensures w.in_ok-begin.ensures.right) w.in_default-insn.not-CallLocal w.in_default-insn.not-Exit
    (subst (λ (u : Visit g.row.WORDS). (b : ℕ → model.AbstractState → Option model.AbstractState) (stack : Stack) → IsStackOf u.state.initialized.words g.row.WORDS u.state.words.ranges stack → Flowed (edges b w.args.slot (state_of u.state.ranges stack) w.args.insn) (u.steps + 1) (taken w.args.pending.now w.args.slot) w.flow.new.pending) same
    (λ b stack holds. flowed_from _ (m.steps + 1) (m.steps + 1) w.args.pending.now w.flow.new.pending w.args.slot w.take.new.self w.take.ensures.after refl (w.in_ok-flow-in_default-insn.ensures.flowed b stack w.in_default-insn.not-CallLocal holds)))
    (w.in_ok-flow-in_default-insn.ensures.visits ∙ w.in_ok-begin.ensures.count.0)
    refl
    (w.max-returned-in_default-insn.ensures ∙ ap (λ (u : Visit g.row.WORDS). max w.args.returned.now.bound u.steps) w.deref-in_default-insn.ensures ∙ ap (λ (u : Visit g.row.WORDS). max w.args.returned.now.bound (u.steps + 1)) same)

pub visit_slot-returns-in_ok-flow-in_default-insn-clause-long : goal.visit_slot-returns-in_ok-flow-in_default-insn-clause-long
visit_slot-returns-in_ok-flow-in_default-insn-clause-long g c w =
    let m : Visit g.row.WORDS = w.deref_mut-in_default-insn.result.now in
    length_flow _ (m.steps + 1) (set w.args.pending.now w.args.slot w.take.new.self) w.flow.new.pending (w.in_ok-flow-in_default-insn.ensures.flowed (λ _ _. None) (own_stack m.state) w.in_default-insn.not-CallLocal (own_stack_is m.state)) ∙ length-set w.args.pending.now w.args.slot w.take.new.self

-- ---- sweep

pub sweep-loop-slot-preserved : goal.sweep-loop-slot-preserved
sweep-loop-slot-preserved g c w =
    let i = w.loop-slot.invariant in
    record {
      long = w.in_ok-visit_by_kind.ensures.long ∙ i.long;
      few = w.in_ok-visit_by_kind.ensures.few w.args.pass.now.visits i.few;
      sweep = λ f at left is start. w.in_ok-visit_by_kind.ensures.right f at left is (i.sweep f at left is start);
    }

pub sweep-returns-in_err-visit_by_kind-clause-refused : goal.sweep-returns-in_err-visit_by_kind-clause-refused
sweep-returns-in_err-visit_by_kind-clause-refused g c w =
    let same : IfErr w.from_residual.result (λ (e : Refusal). e ≡ w.in_err-visit_by_kind.field-0.0) = search rules in
    handed_on w.from_residual.result w.in_err-visit_by_kind.field-0.0 _ same
    (elim w.in_err-visit_by_kind.ensures.refused [
      | inl memory ↦ inl memory
      | inr fails ↦ inr (λ f at left is start. fails f at left is (w.loop-slot.invariant.sweep f at left is start))
    ])

pub sweep-returns-clause-right : goal.sweep-returns-clause-right
sweep-returns-clause-right g c w = λ f at left is start.
    let many = ap length at in
    let end : w.loop-slot.slot ≡ length w.args.slots.now = omega (arith, w.loop-slot-test.false, w.loop-slot.auto.slot-end, w.requires.inside) in
    followed f is w.loop-slot.slot w.loop-slot.pending w.loop-slot.returned w.loop-slot.pass.visits (w.loop-slot.invariant.sweep f at left is start) (end ∙ many)

-- ---- follow

pub follow-sweep-requires : goal.follow-sweep-requires
follow-sweep-requires g t c κs within =
    let h = c.requires.running in
    let running = h.1 in
    let same = c.deref_mut.ensures.value in
    let long : length c.deref_mut.result.now ≡ length c.args.slots.now = ap length same ∙ start_long c.in_ok-pending.pending.items (length c.args.slots.now) c.args.entry c.args.visit (subst (λ (n : ℕ). IsStart c.in_ok-pending.pending.items n c.args.entry c.args.visit) c.len.ensures c.in_ok-pending.ensures) in
    let few : AreFew c.args.pass.now.visits c.args.pass.now.visits c.deref_mut.result.now 0 = subst (λ (l : Pending g.row.WORDS). AreFew c.args.pass.now.visits c.args.pass.now.visits l 0) (sym same) (start_few c.in_ok-pending.pending.items (length c.args.slots.now) c.args.entry c.args.pass.now.visits c.args.visit c.requires.inside (subst (λ (n : ℕ). IsStart c.in_ok-pending.pending.items n c.args.entry c.args.visit) c.len.ensures c.in_ok-pending.ensures) c.requires.steps c.requires.few) in (
      search rules,
      (
        search rules,
        (
          search rules,
          (
            search rules,
            (
              search rules,
              (
                search rules,
                (
                  c.requires.short,
                  (
                    c.requires.deep,
                    (
                      c.requires.inside,
                      (
                        long,
                        (
                          few,
                          (h.0, running, subst (λ (l : Pending g.row.WORDS). SweepAt h.0 c.args.entry l nothing_returned c.args.pass.now.visits) (sym c.deref_mut.ensures.value) (started h.0 running.entered c.in_ok-pending.pending.items c.args.slots.now c.args.visit c.args.entry c.args.pass.now.visits running.slots_are h.2 h.3 c.requires.inside (subst (λ (n : ℕ). IsStart c.in_ok-pending.pending.items n c.args.entry c.args.visit) c.len.ensures c.in_ok-pending.ensures) c.requires.steps h.4)),
                        ),
                      ),
                    ),
                  ),
                ),
              ),
            ),
          ),
        ),
      ),
    )

pub follow-returns-clause-right : goal.follow-returns-clause-right
follow-returns-clause-right g c w =
    if_ok w.sweep.result _ _ w.sweep.ensures.right (λ back h f at left entry base is rep.
    h f at left is (subst (λ (l : Pending g.row.WORDS). SweepAt f w.args.entry l nothing_returned w.args.pass.now.visits) (sym w.deref_mut.ensures.value) (started f is w.in_ok-pending.pending.items w.args.slots.now w.args.visit w.args.entry w.args.pass.now.visits at entry base w.requires.inside (subst (λ (n : ℕ). IsStart w.in_ok-pending.pending.items n w.args.entry w.args.visit) w.len.ensures w.in_ok-pending.ensures) w.requires.steps rep)))

pub follow-returns-clause-refused : goal.follow-returns-clause-refused
follow-returns-clause-refused g c w =
    if_err w.sweep.result _ _ w.sweep.ensures.refused (λ e h.
    elim h [
      | inl memory ↦ inl memory
      | inr fails ↦ inr (λ f at left entry base is rep.
          fails f at left is (subst (λ (l : Pending g.row.WORDS). SweepAt f w.args.entry l nothing_returned w.args.pass.now.visits) (sym w.deref_mut.ensures.value) (started f is w.in_ok-pending.pending.items w.args.slots.now w.args.visit w.args.entry w.args.pass.now.visits at entry base w.requires.inside (subst (λ (n : ℕ). IsStart w.in_ok-pending.pending.items n w.args.entry w.args.visit) w.len.ensures w.in_ok-pending.ensures) w.requires.steps rep)))
    ])

-- ---- call

pub call-returns-then-target-len-clause-right : goal.call-returns-then-target-len-clause-right
call-returns-then-target-len-clause-right g t c = λ f of at left is rep x-is none.
    let x = c.in-Some-Some in
    let n = c.args.offset in
    let again : cast_signed w32 (cast_unsigned w32 n) ≡ n = search rules in
    let leads : target_of c.args.slot n ≡ Some x.target = ap (target_of c.args.slot) (sym again) ∙ sym c.target_of.ensures ∙ x.is-0 in
    let begins = is_callee f is c.args.slot n of x.target 0 0 x-is leads in
    let less = insn_at_less f.code x.target begins.insn begins.begins in
    let many = ap length at in
    let outside = c.if-target-len.true in
    absurd (omega (arith, less, many, outside, c.len.ensures))

pub call-follow-requires : goal.call-follow-requires
call-follow-requires g t c κs within =
    let h = c.requires.running in
    let x = c.in-Some-Some in
    let n = c.args.offset in
    let again : cast_signed w32 (cast_unsigned w32 n) ≡ n = search rules in
    let leads : target_of c.args.slot n ≡ Some x.target = ap (target_of c.args.slot) (sym again) ∙ sym c.target_of.ensures ∙ x.is-0 in
    let one = x.ensures' in
    let running = h.2 in
    let left = running.left_is in
    let depth : 7 - x.left ≡ 7 - (h.0).left + 1 = omega (arith, left, one.0, one.1, c.requires.deep) in (
      search rules,
      (
        search rules,
        (
          search rules,
          (
            search rules,
            (
              search rules,
              (
                search rules,
                (
                  c.requires.short,
                  (
                    search rules,
                    (
                      search rules,
                      (
                        search rules,
                        (
                          search rules,
                          (callee_of h.0 h.1 x.target x.left c.entry_visit.new.self.visits, callee_running g.row.WORDS c.args.slots.now c.args.left x.left c.args.slot x.target n c.entry_visit.new.self.visits h.0 h.1 running h.4 h.5 leads (omega (arith, one.0, one.1)) c.requires.deep, refl, refl, subst (λ (d : ℕ). Represents c.in_ok-callee.callee.value.state (entry_state d h.1)) depth (c.in_ok-callee.ensures.state h.1 h.3)),
                        ),
                      ),
                    ),
                  ),
                ),
              ),
            ),
          ),
        ),
      ),
    )

pub call-returns-in_err-follow-clause-refused : goal.call-returns-in_err-follow-clause-refused
call-returns-in_err-follow-clause-refused g c w =
    let same : IfErr w.from_residual-in_err-follow.result (λ (e : Refusal). e ≡ w.in_err-follow.field-0.0) = search rules in
    handed_on w.from_residual-in_err-follow.result w.in_err-follow.field-0.0 _ same
    (elim w.in_err-follow.ensures.refused [
      | inl memory ↦ inl memory
      | inr fails ↦ inr (λ f of at left is rep x-is none.
          let x = w.in-Some-Some in
          let n = w.args.offset in
          let again : cast_signed w32 (cast_unsigned w32 n) ≡ n = search rules in
          let leads : target_of w.args.slot n ≡ Some x.target = ap (target_of w.args.slot) (sym again) ∙ sym w.target_of.ensures ∙ x.is-0 in
          let one = x.ensures' in
          let deeper : f.left ≡ suc x.left = omega (arith, left, one.0, one.1) in
          let g : Entered = callee_of f of x.target x.left w.args.pass.now.visits in
          let depth : 7 - x.left ≡ 7 - f.left + 1 = omega (arith, deeper, left, w.requires.deep) in
          (x.target, x.left, leads, deeper, fails g at refl refl (sym w.in_ok-callee.ensures.visits) (is_callee f is w.args.slot n of x.target x.left w.args.pass.now.visits x-is leads) (subst (λ (d : ℕ). Represents w.in_ok-callee.callee.value.state (entry_state d of)) depth (w.in_ok-callee.ensures.state of rep))))
    ])

pub call-returns-clause-right : goal.call-returns-clause-right
call-returns-clause-right g c w = λ f of at left is rep x-is none.
    let x = w.in-Some-Some in
    let n = w.args.offset in
    let again : cast_signed w32 (cast_unsigned w32 n) ≡ n = search rules in
    let leads : target_of w.args.slot n ≡ Some x.target = ap (target_of w.args.slot) (sym again) ∙ sym w.target_of.ensures ∙ x.is-0 in
    let one = x.ensures' in
    let deeper : f.left ≡ suc x.left = omega (arith, left, one.0, one.1) in
    let g : Entered = callee_of f of x.target x.left w.args.pass.now.visits in
    let depth : 7 - x.left ≡ 7 - f.left + 1 = omega (arith, deeper, left, w.requires.deep) in
    (x.target, x.left, leads, deeper, w.in_ok-follow.ensures.right g at refl refl (sym w.in_ok-callee.ensures.visits) (is_callee f is w.args.slot n of x.target x.left w.args.pass.now.visits x-is leads) (subst (λ (d : ℕ). Represents w.in_ok-callee.callee.value.state (entry_state d of)) depth (w.in_ok-callee.ensures.state of rep)))
