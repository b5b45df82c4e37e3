use Rattle.std.proofs.Common.{◌≡◌, ◌∙◌, ap, subst, sym, rules, ℕ, ℤ, List, Option, Some, None}
use Rattle.std.specs.Int.{w16, w32, w64, cast_signed, cast_unsigned}
use Rattle.map_helpers.specs.declared.helper.Access.{Access}
use Rattle.map_helpers.specs.declared.helper.Helper.{Helper}
use Rattle.map_helpers.specs.Helpers.{helper_of, max_answer}
use Rattle.bpf_decode.specs.declared.insn.Insn.{Insn}
use Rattle.bpf_model.specs.Access.{bytes_of}
use Rattle.bpf_model.specs.Words.{stored_range}
use Rattle.bpf_model.specs.AbstractState.{helper_writes, helper_max_answer, address_range, range_after_load, range_or_full, after_store, after_helper, after_insn}
use Rattle.reg_ranges.specs.Ranges as reg
use Rattle.reg_ranges.specs.Ranges.{single}
use Rattle.reg_ranges.specs.RangeOf.{range_of}
use Rattle.bpf_verifier.proofs.States.{ranged}
use Rattle.bpf_verifier.specs.Represents.{state_of, Represents}
use Rattle.bpf_verifier.proofs.abstract_state.AbstractState.after_insn.Goals as goal

pub returns-in-Load : goal.returns-in-Load
returns-in-Load g c = λ stack holds.
    let x = c.in-Load in
    let again : cast_signed w16 (cast_unsigned w16 x.offset) ≡ x.offset = search rules in
    let old = state_of c.args.self.now.ranges stack in
    let range : Some (range_of c.range_after_load-range.result) ≡ Some (range_after_load old x.size x.signed (address_range old x.base.number x.offset)) =
    ap Some (c.range_after_load-range.ensures stack holds ∙ ap (λ (z : ℤ). range_after_load old x.size x.signed (address_range old x.base.number z)) again) in
    subst (λ (i : Insn). Represents c.set-in-Load.new.self (after_insn old i)) (sym x.is)
    (ranged c.args.self.now c.set-in-Load.new.self stack x.dst.number _ _ holds c.set-in-Load.ensures.ranges c.set-in-Load.ensures.initialized c.set-in-Load.ensures.words range)

pub returns-in-StoreImm : goal.returns-in-StoreImm
returns-in-StoreImm g c = λ stack holds.
    let x = c.in-StoreImm in
    let again : cast_signed w16 (cast_unsigned w16 x.offset) ≡ x.offset = search rules in
    let old = state_of c.args.self.now.ranges stack in
    let value : range_of c.single-value.result ≡ single (cast_unsigned w64 x.imm) = search rules in
    subst (λ (i : Insn). Represents c.store.new.self (after_insn old i)) (sym x.is)
    (subst (λ (z : ℤ). Represents c.store.new.self (after_store old (address_range old x.base.number z) (bytes_of x.size) (stored_range x.size (single (cast_unsigned w64 x.imm))))) again
    (subst (λ (y : reg.Range). Represents c.store.new.self (after_store old (address_range old x.base.number (cast_signed w16 (cast_unsigned w16 x.offset))) (bytes_of x.size) (stored_range x.size y))) value (c.store.ensures stack holds)))

pub returns-in-Store : goal.returns-in-Store
returns-in-Store g c = λ stack holds.
    let x = c.in-Store in
    let again : cast_signed w16 (cast_unsigned w16 x.offset) ≡ x.offset = search rules in
    let old = state_of c.args.self.now.ranges stack in
    subst (λ (i : Insn). Represents c.store-in-Store.new.self (after_insn old i)) (sym x.is)
    (subst (λ (z : ℤ). Represents c.store-in-Store.new.self (after_store old (address_range old x.base.number z) (bytes_of x.size) (stored_range x.size (range_or_full (old.ranges x.src.number))))) again
    (subst (λ (y : reg.Range). Represents c.store-in-Store.new.self (after_store old (address_range old x.base.number (cast_signed w16 (cast_unsigned w16 x.offset))) (bytes_of x.size) (stored_range x.size y))) c.number_of-value.ensures (c.store-in-Store.ensures stack holds)))

pub returns-in-Some-of : goal.returns-in-Some-of
returns-in-Some-of g c = λ stack holds.
    let n = c.in-CallHelper.helper in
    let again : cast_signed w32 (cast_unsigned w32 n) ≡ n = search rules in
    let h : Helper = c.in-Some-of.helper in
    let known : helper_of n ≡ Some h = ap helper_of (sym again) ∙ sym c.of.ensures ∙ c.in-Some-of.is in
    let old = state_of c.args.self.now.ranges stack in
    subst (λ (i : Insn). Represents c.after_helper.new.self (after_insn old i)) (sym c.in-CallHelper.is)
    (subst (λ (o : Option Helper). Represents c.after_helper.new.self (after_helper old (helper_max_answer o) (helper_writes o))) (sym known)
    (subst (λ (written : List Access). Represents c.after_helper.new.self (after_helper old (max_answer h) written)) c.writes.ensures
    (subst (λ (most : ℕ). Represents c.after_helper.new.self (after_helper old most c.writes.result.now)) c.max_answer.ensures (c.after_helper.ensures stack holds))))

pub returns-in-None-of : goal.returns-in-None-of
returns-in-None-of g c = λ stack holds.
    let n = c.in-CallHelper.helper in
    let again : cast_signed w32 (cast_unsigned w32 n) ≡ n = search rules in
    let known : helper_of n ≡ None = ap helper_of (sym again) ∙ sym c.of.ensures ∙ c.in-None-of.is in
    let old = state_of c.args.self.now.ranges stack in
    subst (λ (i : Insn). Represents c.after_helper-in-None-of.new.self (after_insn old i)) (sym c.in-CallHelper.is)
    (subst (λ (o : Option Helper). Represents c.after_helper-in-None-of.new.self (after_helper old (helper_max_answer o) (helper_writes o))) (sym known) (c.after_helper-in-None-of.ensures stack holds))
