use Rattle.std.proofs.Common.{rules, sym, ◌∙◌, ◌≡◌, true, ap, Some}
use Rattle.std.specs.Int.{w16, w32}
use Rattle.std.proofs.lemmas.Int.{to_z-of_z}
use Rattle.bpf_decode.specs.declared.opcode.Opcode.TheVariants as opcode
use Rattle.bpf_decode.specs.declared.opcode.SourceKind.{SourceKind}
use Rattle.bpf_decode.specs.declared.opcode.SourceKind.TheVariants.{K, X}
use Rattle.bpf_decode.specs.Opcodes.{opcode_byte, has_form, variant_of}
use Rattle.bpf_decode.specs.Faults.{has_stray_field}
use Rattle.bpf_decode.proofs.Reading.{alu_imm_read, alu_reg_read, alu_stray}
use Rattle.bpf_decode.proofs.slot.Slot.alu.Goals as goal

pub returns-then-has_stray_operand-clause-refused : goal.returns-then-has_stray_operand-clause-refused
returns-then-has_stray_operand-clause-refused c =
    let a = c.args in
    let found : variant_of a.width a.operation a.source a.self.offset ≡ Some c.in-Some.op = search rules in
    let stray : has_stray_field (opcode.Alu a.width a.operation a.source) a.self a.behind ≡ true =
    sym (c.has_stray_operand.ensures a.width a.behind) ∙ c.if-has_stray_operand.true in
    alu_stray a.self a.behind a.width a.operation a.source c.in-Some.op found stray

pub returns-in-K-clause-found : goal.returns-in-K-clause-found
returns-in-K-clause-found c =
    let a = c.args in
    let k : a.source ≡ K = search rules in
    alu_imm_read a.self a.behind _ a.width a.operation c.in-Some.op a.dst c.requires.fits (to_z-of_z w32 a.self.imm c.requires.fits.imm)
    (c.requires.opcode ∙ ap (λ (s : SourceKind). opcode_byte (opcode.Alu a.width a.operation s)) k)
    c.requires.dst c.in-Some.ensures.form.0
    (ap (λ (s : SourceKind). has_form a.width c.in-Some.op s) (sym k) ∙ c.in-Some.ensures.form.1)
    (λ e. c.in-Some.ensures.offset e ∙ to_z-of_z w16 a.self.offset c.requires.fits.offset) c.in-Some.ensures.no_offset
    (ap (λ (s : SourceKind). has_stray_field (opcode.Alu a.width a.operation s) a.self a.behind) (sym k) ∙ sym (c.has_stray_operand.ensures a.width a.behind) ∙ c.if-has_stray_operand.false)

pub returns-in-X-clause-found : goal.returns-in-X-clause-found
returns-in-X-clause-found c =
    let a = c.args in
    let k : a.source ≡ X = search rules in
    alu_reg_read a.self a.behind a.width a.operation c.in-Some.op a.dst a.src
    (c.requires.opcode ∙ ap (λ (s : SourceKind). opcode_byte (opcode.Alu a.width a.operation s)) k)
    c.requires.dst c.requires.src c.in-Some.ensures.form.0
    (ap (λ (s : SourceKind). has_form a.width c.in-Some.op s) (sym k) ∙ c.in-Some.ensures.form.1)
    (λ e. c.in-Some.ensures.offset e ∙ to_z-of_z w16 a.self.offset c.requires.fits.offset) c.in-Some.ensures.no_offset
    (ap (λ (s : SourceKind). has_stray_field (opcode.Alu a.width a.operation s) a.self a.behind) (sym k) ∙ sym (c.has_stray_operand.ensures a.width a.behind) ∙ c.if-has_stray_operand.false)
