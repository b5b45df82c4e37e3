use Rattle.std.proofs.Common.{◌≡◌, ◌∙◌, ap, sym, refl, rules, cond, eqb, length, Option}
use Rattle.std.specs.Option.{option_map}
use Rattle.reg_ranges.specs.RangeOf.{range_of}
use Rattle.reg_ranges.specs.declared.range.Range.{Range}
use Rattle.bpf_verifier.specs.Represents.{ranges_of}
use Rattle.bpf_verifier.proofs.RegisterRanges.{range_given, range_forgotten}
use Rattle.bpf_verifier.proofs.registers.RegisterRanges.set.Goals as goal

pub returns-in-Some : goal.returns-in-Some
returns-in-Some c = λ r.
    let old = c.args.self.now in
    let k = c.args.register in
    let low : length old.lo ≡ 11 = search rules in
    let high : length old.hi ≡ 11 = search rules in
    range_given old.lo old.hi old.known k _ c.requires _ _ low high refl r
    ∙ ap (λ (o : Option Range). cond (eqb r k) (option_map range_of o) (ranges_of old r)) (sym c.in-Some.is)

pub returns-in-None : goal.returns-in-None
returns-in-None c = λ r.
    let old = c.args.self.now in
    let k = c.args.register in
    range_forgotten old.lo old.hi old.known k _ c.requires refl r
    ∙ ap (λ (o : Option Range). cond (eqb r k) (option_map range_of o) (ranges_of old r)) (sym c.in-None.is)
