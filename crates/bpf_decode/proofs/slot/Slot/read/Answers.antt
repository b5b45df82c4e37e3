use Rattle.std.specs.Prelude.{◌≡◌, IfErr}
use Rattle.bpf_decode.proofs.Reading.{refused_by}
use Rattle.bpf_decode.specs.declared.opcode.Opcode.TheVariants as opcode
use Rattle.bpf_decode.specs.declared.opcode.SourceKind.TheVariants.{K, X}
use Rattle.bpf_decode.specs.declared.refusal.DecodeFault.{DecodeFault}
use Rattle.std.proofs.Common.{rules}
use Rattle.bpf_decode.proofs.slot.Slot.read.Goals as goal

pub returns-in_err-alu-in-Alu-default-default-K-clause-refused : goal.returns-in_err-alu-in-Alu-default-default-K-clause-refused
returns-in_err-alu-in-Alu-default-default-K-clause-refused g c =
    let x = c.in-Alu-default-default-K in
    let f = c.in_err-alu-in-Alu-default-default-K.field-0.0 in
    let same : IfErr c.from_residual.result (λ (e : DecodeFault). e ≡ f) = search rules in
    refused_by _ _ _ c.from_residual.result (opcode.Alu x.width x.operation K) c.args.self c.args.behind f
    (search rules) (search rules) (search rules) c.in_err-alu-in-Alu-default-default-K.ensures.refused same

pub returns-in_err-alu-in-Alu-default-default-X-clause-refused : goal.returns-in_err-alu-in-Alu-default-default-X-clause-refused
returns-in_err-alu-in-Alu-default-default-X-clause-refused g c =
    let x = c.in-Alu-default-default-X in
    let f = c.in_err-alu-in-Alu-default-default-X.field-0.0 in
    let same : IfErr c.from_residual-in_err-alu-in-Alu-default-default-X.result (λ (e : DecodeFault). e ≡ f) = search rules in
    refused_by _ _ _ c.from_residual-in_err-alu-in-Alu-default-default-X.result (opcode.Alu x.width x.operation X) c.args.self c.args.behind f
    (search rules) (search rules) (search rules) c.in_err-alu-in-Alu-default-default-X.ensures.refused same
