use Rattle.std.proofs.Common.{refl, sym, subst, ap, ℕ, ◌∙◌}
use Rattle.std.specs.Prelude.{Result}
use Rattle.std.proofs.Math.Facts.{Fits-lt-pow}
use Rattle.bpf_decode.specs.declared.refusal.DecodeFault.{DecodeFault}
use Rattle.bpf_decode.proofs.Encodings.{read_encodes}
use Rattle.bpf_decode.proofs.Narrow.{narrow_encodes, narrow_faulty, wide_slots, narrow_slots}
use Rattle.bpf_decode.proofs.Reading.{found_in, handed_on}
use Rattle.bpf_decode.proofs.code.read_insn.Goals as goal
use Rattle.bpf_decode.proofs.code.read_insn.Goals.{then-first-eq-WIDE, else-first-eq-WIDE}

pub returns-in-Ok-clause-found : goal.returns-in-Ok-clause-found
returns-in-Ok-clause-found g c =
    let s = c.slot_at-first.result in
    elim c.if-first-eq-WIDE.branch [
      | then-first-eq-WIDE w ↦
          let read = ap (λ (p : Result (Unit {0}) DecodeFault × ℕ). p.0) w.read-is in
          let found = found_in _ w.read_wide.result c.in-Ok.field-0 (sym read ∙ c.in-Ok.is) w.read_wide.ensures.found in (
            found.0,
            read_encodes c.args.bytes.now c.args.slot s w.slot_behind.result found.0 c.slot_at-first.ensures w.slot_behind.ensures.behind found.1,
            ap (λ (p : Result (Unit {0}) DecodeFault × ℕ). p.1) w.read-is ∙ sym (wide_slots s w.slot_behind.result found.0 found.1 w.if-first-eq-WIDE.true),
            subst (g.S.Sink.takes c.args.sink.now found.0) (sym w.sink-is) found.2,
          )
      | else-first-eq-WIDE w ↦
          let read = ap (λ (p : Result (Unit {0}) DecodeFault × ℕ). p.0) w.read-is in
          let found = found_in _ w.read.result c.in-Ok.field-0 (sym read ∙ c.in-Ok.is) w.read.ensures.found in (
            found.0,
            narrow_encodes c.args.bytes.now (λ i. Fits-lt-pow (c.type_inv.bytes i)) c.args.slot c.requires.within c.requires.whole s c.slot_at-first.ensures w.if-first-eq-WIDE.false _ refl found.0 found.1,
            ap (λ (p : Result (Unit {0}) DecodeFault × ℕ). p.1) w.read-is ∙ sym (narrow_slots s _ found.0 found.1 w.if-first-eq-WIDE.false),
            subst (g.S.Sink.takes c.args.sink.now found.0) (sym w.sink-is) found.2,
          )
    ]

pub returns-in-Err-clause-refused : goal.returns-in-Err-clause-refused
returns-in-Err-clause-refused g c =
    let s = c.slot_at-first.result in
    let f = c.in-Err.fault in
    elim c.if-first-eq-WIDE.branch [
      | then-first-eq-WIDE w ↦
          let read = ap (λ (p : Result (Unit {0}) DecodeFault × ℕ). p.0) w.read-is in
          handed_on _ _ s w.slot_behind.result _ _ _ w.read_wide.result f c.args.slot (sym read ∙ c.in-Err.is) w.sink-is w.read_wide.ensures.refused (λ is. record {
            slot = s;
            behind = w.slot_behind.result;
            is_at = c.slot_at-first.ensures;
            is_behind = w.slot_behind.ensures.behind;
            fault_is = is;
          })
      | else-first-eq-WIDE w ↦
          let read = ap (λ (p : Result (Unit {0}) DecodeFault × ℕ). p.0) w.read-is in
          handed_on _ _ s _ _ _ _ w.read.result f c.args.slot (sym read ∙ c.in-Err.is) w.sink-is w.read.ensures.refused
          (narrow_faulty c.args.bytes.now (λ i. Fits-lt-pow (c.type_inv.bytes i)) c.args.slot c.requires.within c.requires.whole s c.slot_at-first.ensures w.if-first-eq-WIDE.false _ refl f)
    ]
