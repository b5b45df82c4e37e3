use Rattle.std.proofs.Common.{◌≡◌, ◌+◌, ◌<◌, length, refl, sym, ap, ◌∙◌, arith}
use Rattle.std.proofs.lemmas.List.{length_push, length-set}
use Rattle.tenant_lanes.proofs.Filling.{fill_some, fill_none}
use Rattle.tenant_lanes.proofs.slots.fill.Goals as goal

pub loop-slot-preserved-then-is_some : goal.loop-slot-preserved-then-is_some
loop-slot-preserved-then-is_some g c =
    let is = c.in-Some.ensures.items in
    let many : length c.loop-slot.from.items ≡ length c.pop.new.self.items + 1 = ap length is ∙ length_push c.pop.new.self.items c.in-Some.slot in
    let at : c.len.result ≡ length c.pop.new.self.items = omega (arith, c.len.ensures) in
    let lt : c.len.result < length c.loop-slot.slots = omega (arith, at, many, c.loop-slot.invariant.short) in
    record {
      filled = fill_some c.pop.new.self.items c.loop-slot.from.items c.loop-slot.slots c.in-Some.slot c.len.result is at lt (sym c.is_some.ensures ∙ c.if-is_some.true) ∙ c.loop-slot.invariant.filled;
      short = omega (arith, many, c.loop-slot.invariant.short, length-set c.loop-slot.slots c.len.result c.in-Some.slot);
    }

pub loop-slot-preserved-then-is_some-2 : goal.loop-slot-preserved-then-is_some-2
loop-slot-preserved-then-is_some-2 g c =
    let is = c.in-Some.ensures.items in
    let many : length c.loop-slot.from.items ≡ length c.pop.new.self.items + 1 = ap length is ∙ length_push c.pop.new.self.items c.in-Some.slot in
    let at : c.len.result ≡ length c.pop.new.self.items = omega (arith, c.len.ensures) in
    let lt : c.len.result < length c.loop-slot.slots = omega (arith, at, many, c.loop-slot.invariant.short) in
    record {
      filled = fill_some c.pop.new.self.items c.loop-slot.from.items c.loop-slot.slots c.in-Some.slot c.len.result is at lt (sym c.is_some.ensures ∙ c.if-is_some.true) ∙ c.loop-slot.invariant.filled;
      short = omega (arith, many, c.loop-slot.invariant.short, length-set c.loop-slot.slots c.len.result c.in-Some.slot);
    }

pub loop-slot-preserved : goal.loop-slot-preserved
loop-slot-preserved g c =
    let is = c.in-Some.ensures.items in
    let many : length c.loop-slot.from.items ≡ length c.pop.new.self.items + 1 = ap length is ∙ length_push c.pop.new.self.items c.in-Some.slot in
    let lt : length c.pop.new.self.items < length c.loop-slot.slots = omega (arith, many, c.loop-slot.invariant.short) in
    record {
      filled = fill_none c.pop.new.self.items c.loop-slot.from.items c.loop-slot.slots c.in-Some.slot (length c.pop.new.self.items) is refl lt (sym c.is_some.ensures ∙ c.if-is_some.false) ∙ c.loop-slot.invariant.filled;
      short = omega (arith, many, c.loop-slot.invariant.short);
    }
