-- A run keeps bytes: each number in memory stays below 256, and the tenant's map stays one.
use Rattle.std.proofs.Common.{◌≡◌, ℕ, zero, suc, ◌+◌, ◌/◌, ◌^◌, ◌<◌, ◌≤◌, Bool, true, false, cond, not, ◌&&◌, eqb, List, [], ◌∷◌, length, get_or, Some, None, ℤ, sym, ap, subst, ◌∙◌, arith}
use Rattle.std.specs.Prelude.{All, nat_le, nat_lt}
use Rattle.std.specs.Int.{byte_at, byte_len, bytes_low_first, cast_unsigned, w64}
use Rattle.std.specs.FinMap as finite
use Rattle.std.proofs.lemmas.Nat.{mod_below}
use Rattle.std.proofs.lemmas.List.Elements.{All-head, All-tail}
use Rattle.bpf_model.specs.Insn.{Insn}
use Rattle.bpf_model.specs.Insn.TheVariants.{Alu, Swap, LoadImm, Load, StoreImm, Store, Jump, JumpLong, Test, CallHelper, CallLocal, Exit}
use Rattle.tenant_maps.specs.Entries.{IsTenantMap}
use Rattle.bpf_model.specs.Helper.{Helper}
use Rattle.bpf_model.specs.Helpers.{helper_of, reads, writes}
use Rattle.bpf_model.proofs.Kept.{tenant_map_kept, reads_put, writes_kept}
use Rattle.bpf_model.specs.Access.{bytes_of, word_of, address_of, stored_bytes}
use Rattle.bpf_model.specs.Code.{insn_at, target_of}
use Rattle.bpf_model.specs.Machine.{Machine, Frame, Memory, Call, start, frames, frame_start, frame_end, is_in_bounds, bytes_at}
use Rattle.bpf_model.specs.HelperCalls.{Answer, context, answer_of}
use Rattle.bpf_model.specs.Step.{Continues, entry_registers, enters, source_value, destination_value, tested_value, written, stores, jumps, branches, after_answer, without_frame, returned, effect}
use Rattle.bpf_model.specs.Run.{Run, Ending, EndsSo}
use Rattle.bpf_model.proofs.Options.{bind_some}
use Rattle.bpf_model.proofs.Runs.{continues_is}
use Rattle.bpf_model.proofs.Memories.{HoldsBytes, stored_small}
use Rattle.bpf_model.proofs.Soundness.{start_bytes}
use Rattle.bpf_model.proofs.HelperCalls.{all_small, called, read_by, written_small}

-- what holds of each machine that a call reaches
record HasBytes (m : Machine) : Type 0 where
  memory : HoldsBytes m.memory
  entries : IsTenantMap m.entries

-- ---- lists of bytes

pub small_of : (bytes : List ℕ) → All (λ byte. byte < 256) bytes → (i : ℕ) → get_or bytes i 0 < 256
small_of [] all i = omega arith
small_of (x ∷ xs) all zero = All-head (λ byte. byte < 256) x xs all
small_of (x ∷ xs) all (suc i) = small_of xs (All-tail (λ byte. byte < 256) x xs all) i

low_small : (i k n j : ℕ) → get_or (bytes_low_first i k n) j 0 < 256
low_small i zero n j = omega arith
low_small i (suc k) n zero = byte_small i n where
  byte_small : (i n : ℕ) → byte_at i n < 256
  byte_small zero n = omega arith
  byte_small (suc i) n = mod_below (n / 256 ^ suc i) 256 (omega arith)
low_small i (suc k) n (suc j) = low_small (suc i) k n j

-- ---- one instruction

continues_has : (k next : Machine) → Some (Continues k) ≡ Some (Continues next) → HasBytes k → HasBytes next
continues_has k next e has = subst HasBytes (continues_is k next e) has

written_has : (m next : Machine) (slots dst value : ℕ) → HasBytes m → written m slots dst value ≡ Some (Continues next) → HasBytes next
written_has m next slots dst value has e = cases (eqb dst 10) e where
  k : Machine
  k = record m { frame = record { pc = m.frame.pc + slots; registers = finite.insert m.frame.registers dst value } }

  cases : (b : Bool) → cond b None (Some (Continues k)) ≡ Some (Continues next) → HasBytes next
  cases true h = absurd cc
  cases false h = continues_has k next h (record { memory = has.memory; entries = has.entries })

stores_has : (m next : Machine) (slots address : ℕ) (bytes : List ℕ) → HasBytes m → ((i : ℕ) → get_or bytes i 0 < 256) → stores m slots address bytes ≡ Some (Continues next) → HasBytes next
stores_has m next slots address bytes has small e = cases (is_in_bounds (length m.callers) address (length bytes)) _ (stored_small m.memory address bytes has.memory small) e where
  cases : (b : Bool) (memory : Memory) → HoldsBytes memory → cond b (Some (Continues (record m { frame = record { pc = m.frame.pc + slots; registers = m.frame.registers }; memory = memory }))) None ≡ Some (Continues next) → HasBytes next
  cases true memory holds h = continues_has _ next h (record { memory = holds; entries = has.entries })
  cases false memory holds h = absurd cc

jumps_has : (m next : Machine) (offset : ℤ) → HasBytes m → jumps m offset ≡ Some (Continues next) → HasBytes next
jumps_has m next offset has e =
    let t = bind_some (target_of m.frame.pc offset) _ (Continues next) e in
    continues_has (record m { frame = record { pc = t.0; registers = m.frame.registers } }) next t.2 (record { memory = has.memory; entries = has.entries })

branches_has : (m next : Machine) (slots : ℕ) (offset : ℤ) (taken : Bool) → HasBytes m → branches m slots offset taken ≡ Some (Continues next) → HasBytes next
branches_has m next slots offset true has e = jumps_has m next offset has e
branches_has m next slots offset false has e =
    continues_has (record m { frame = record { pc = m.frame.pc + slots; registers = m.frame.registers } }) next e (record { memory = has.memory; entries = has.entries })

-- what a helper leaves
record AnswerHas (answer : Answer) : Type 0 where
  memory : HoldsBytes answer.memory
  entries : IsTenantMap answer.entries

answer_has : (helper : Helper) (m : Machine) (answer : Answer) → HasBytes m → answer_of helper m ≡ Some answer → AnswerHas answer
answer_has helper m answer has e =
    let call = called helper m answer e in
    let read = read_by m has.memory (reads helper) call.bytes call.bytes_are in
    let written = writes_kept helper (context m) call.bytes has.entries in
    record {
      memory = written_small m (writes helper) m.memory _ answer.memory has.memory (all_small _ written.small) call.memory_is;
      entries = subst IsTenantMap (sym call.entries_are) (tenant_map_kept helper (context m) call.bytes has.entries (reads_put helper call.bytes read));
    }

answered_has : (m next : Machine) (answer : Answer) → AnswerHas answer → Some (after_answer m 1 answer) ≡ Some (Continues next) → HasBytes next
answered_has m next answer has e = continues_has _ next e (record { memory = has.memory; entries = has.entries })

without_frame_holds : (d : ℕ) (memory : Memory) → HoldsBytes memory → HoldsBytes (without_frame d memory)
unfolding HoldsBytes
without_frame_holds d memory small address byte e =
    let is = finite.get-retain_keys memory (λ a. not (nat_le (frame_start d) a && nat_lt a (frame_end d))) address (λ x t. ap (λ (k : ℕ). not (nat_le (frame_start d) k && nat_lt k (frame_end d))) (sym (finite.nat_cmp-IsAntisymmetric address x t))) in
    cases (not (nat_le (frame_start d) address && nat_lt address (frame_end d))) (sym is ∙ e) where
      cases : (b : Bool) → cond b (finite.get memory address) None ≡ Some byte → byte < 256
      cases true h = small address byte h
      cases false h = absurd cc

returned_has : (callers : List Frame) (m next : Machine) (result : ℕ) → HasBytes m → Some (returned callers m result) ≡ Some (Continues next) → HasBytes next
returned_has [] m next result has e = absurd cc
returned_has (caller ∷ callers) m next result has e =
    continues_has _ next e (record { memory = without_frame_holds (length callers + 1) m.memory has.memory; entries = has.entries })

enters_has : (m next : Machine) (slots target : ℕ) → HasBytes m → enters m slots target ≡ Some (Continues next) → HasBytes next
enters_has m next slots target has e = cases (nat_lt (length m.callers + 1) frames) e where
  k : Machine
  k = record m {
    frame = record { pc = target; registers = entry_registers (length m.callers + 1) m.frame.registers };
    callers = record { pc = m.frame.pc + slots; registers = m.frame.registers } ∷ m.callers;
  }

  cases : (b : Bool) → cond b (Some (Continues k)) None ≡ Some (Continues next) → HasBytes next
  cases true h = continues_has k next h (record { memory = has.memory; entries = has.entries })
  cases false h = absurd cc

effect_has : (m next : Machine) (x : Insn) → HasBytes m → effect m x ≡ Some (Continues next) → HasBytes next
effect_has m next (Alu width op dst src) has e =
    let b = bind_some (source_value m.frame.registers src) _ (Continues next) e in
    let a = bind_some (destination_value m.frame.registers op dst.number) _ (Continues next) b.2 in
    written_has m next 1 dst.number _ has a.2
effect_has m next (Swap kind width dst) has e =
    let a = bind_some (finite.get m.frame.registers dst.number) _ (Continues next) e in written_has m next 1 dst.number _ has a.2
effect_has m next (LoadImm dst value) has e = written_has m next 2 dst.number value has e
effect_has m next (Load size signed dst base offset) has e =
    let a = bind_some (finite.get m.frame.registers base.number) _ (Continues next) e in
    let bytes = bind_some (bytes_at m.memory (address_of a.0 offset) (bytes_of size)) _ (Continues next) a.2 in
    written_has m next 1 dst.number _ has bytes.2
effect_has m next (StoreImm size base offset imm) has e =
    let a = bind_some (finite.get m.frame.registers base.number) _ (Continues next) e in
    stores_has m next 1 (address_of a.0 offset) _ has (low_small 0 (byte_len (word_of size)) (cast_unsigned w64 imm)) a.2
effect_has m next (Store size base offset src) has e =
    let a = bind_some (finite.get m.frame.registers base.number) _ (Continues next) e in
    let b = bind_some (finite.get m.frame.registers src.number) _ (Continues next) a.2 in
    stores_has m next 1 (address_of a.0 offset) (stored_bytes size b.0) has (low_small 0 (byte_len (word_of size)) b.0) b.2
effect_has m next (Jump offset) has e = jumps_has m next offset has e
effect_has m next (JumpLong offset) has e = jumps_has m next offset has e
effect_has m next (Test narrow test dst src offset) has e =
    let b = bind_some (tested_value m.frame.registers narrow src) _ (Continues next) e in
    let a = bind_some (finite.get m.frame.registers dst.number) _ (Continues next) b.2 in
    branches_has m next 1 offset _ has a.2
effect_has m next (CallHelper number) has e =
    let helper = bind_some (helper_of number) _ (Continues next) e in
    let answer = bind_some (answer_of helper.0 m) _ (Continues next) helper.2 in
    answered_has m next answer.0 (answer_has helper.0 m answer.0 has answer.1) answer.2
effect_has m next (CallLocal offset) has e =
    let t = bind_some (target_of m.frame.pc offset) _ (Continues next) e in
    enters_has m next 1 t.0 has t.2
effect_has m next Exit has e =
    let result = bind_some (finite.get m.frame.registers 0) _ (Continues next) e in
    returned_has m.callers m next result.0 has result.2

-- ---- a run

run_has : (code : List Insn) (first : Machine) (n : ℕ) (last : Machine) → HasBytes first → Run code first n last → HasBytes last
run_has code first zero last has e = subst HasBytes e has
run_has code first (suc n) last has (mid, run, e) =
    let insn = bind_some (insn_at code mid.frame.pc) (λ x. effect mid x) (Continues last) e in
    effect_has mid last insn.0 (run_has code first n mid has run) insn.2

-- a call with bytes leaves a tenant's map
pub ending_map : (code : List Insn) (call : Call) (ending : Ending) → length call.arguments ≤ 256 → All (λ byte. byte < 256) call.arguments → IsTenantMap call.entries → EndsSo code call ending → IsTenantMap ending.entries
ending_map code call ending short bytes is e =
    let begins : HasBytes (start call) = record {
      memory = start_bytes (record { arguments = call.arguments; client = 0; entries = call.entries }) (record { short = short; bytes = small_of call.arguments bytes; client = omega arith; entries = is });
      entries = is;
    } in
    let last = run_has code (start call) e.before e.last begins e.run in
    subst IsTenantMap (sym e.entries) last.entries
