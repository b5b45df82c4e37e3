use Rattle.std.proofs.Common.{rules, ◌≡◌, ◌*◌, ◌+◌, ◌≤◌, [], ◌∷◌, ◌++◌, take, length, refl, sym, ap, subst, ◌∙◌, arith, inl, inr}
use Rattle.std.proofs.Math.Seq.{take-length}
use Rattle.std.specs.Prelude.{ℕ, IfErr, None}
use Rattle.bpf_decode.specs.declared.refusal.Refusal.{Refusal}
use Rattle.bpf_decode.specs.Encoding.{insn_slots}
use Rattle.bpf_decode.specs.Faults.{length_fault}
use Rattle.bpf_decode.specs.Taken.{TakesAll}
use Rattle.bpf_decode.proofs.Encodings.{encoded_more, fit_more, refused_here, refused_on}
use Rattle.bpf_decode.proofs.Taking.{takes_more, left_on}
use Rattle.bpf_decode.proofs.code.read_into.Goals as goal

pub loop-slot-init : goal.loop-slot-init
loop-slot-init g c =
    let fits : length_fault (length c.args.bytes.now) ≡ None = sym c.length_fault.ensures ∙ c.in_default.is in
    record {
      taken = ([], refl, tt, refl);
      whole = search rules;
      within = omega arith;
      fits = fits;
    }

pub loop-slot-preserved : goal.loop-slot-preserved
loop-slot-preserved g c =
    let i = c.loop-slot.invariant in
    let t = i.taken in
    let f = c.in_ok-slot.ensures.found in
    let x = f.0 in
    let fits : 8 * c.loop-slot.slot + 8 * c.in_ok-slot.field-0 ≤ length c.args.bytes.now = c.in_ok-slot.ensures.fits in
    let slots : c.in_ok-slot.field-0 ≡ length (insn_slots x) = f.2 in
    record {
      taken = (
        t.0 ++ x ∷ [],
        rw slots (encoded_more c.args.bytes.now c.loop-slot.slot t.0 x t.1 f.1),
        fit_more t.0 x t.2 f.1.1,
        takes_more g.S.Sink.takes c.args.sink.now c.loop-slot.sink c.read_insn.new.sink t.0 x t.3 f.3,
      );
      whole = i.whole;
      within = omega (arith, fits, i.whole);
      fits = i.fits;
    }

pub returns-in_err-slot-clause-refused : goal.returns-in_err-slot-clause-refused
returns-in_err-slot-clause-refused g c =
    let i = c.loop-slot.invariant in
    let t = i.taken in
    let r = c.in_err-slot.field-0.0 in
    let same : IfErr c.from_residual.result (λ (x : Refusal). x ≡ r) = search rules in
    refused_on c.args.bytes.now _ c.from_residual.result r (elim c.in_err-slot.ensures.refused [
      | inl memory ↦ inl memory
      | inr faulty ↦ refused_here c.args.bytes.now c.loop-slot.slot t.0 r i.fits t.2 t.1 (faulty.0, faulty.1)
    ]) same

pub returns-clause-found : goal.returns-clause-found
returns-clause-found g c =
    let i = c.loop-slot.invariant in
    let t = i.taken in
    let all : length c.args.bytes.now ≡ 8 * c.loop-slot.slot = omega (arith, i.whole, i.within, c.loop-slot-test.false) in
    (t.0, record { encoded = sym (take-length c.args.bytes.now) ∙ ap (λ (n : ℕ). take n c.args.bytes.now) all ∙ t.1; in_range = t.2; length_is = i.fits }, t.3)

pub returns-in_err-slot-clause-left : goal.returns-in_err-slot-clause-left
returns-in_err-slot-clause-left g c =
    let t = c.loop-slot.invariant.taken in
    let r = c.in_err-slot.field-0.0 in
    let same : IfErr c.from_residual.result (λ (x : Refusal). x ≡ r) = search rules in
    left_on c.args.bytes.now _ c.from_residual.result r g.S.Sink.takes c.args.sink.now c.read_insn.new.sink (elim c.in_err-slot.ensures.refused [
      | inl memory ↦ inl memory
      | inr faulty ↦ inr (t.0, ap (λ (n : ℕ). take (8 * n) c.args.bytes.now) faulty.0 ∙ t.1, subst (TakesAll g.S.Sink.takes c.args.sink.now t.0) (sym faulty.2) t.3)
    ]) same
