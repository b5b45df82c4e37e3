use Rattle.std.proofs.Common.{◌≡◌, ◌∙◌, ap, sym, rules, ℤ}
use Rattle.std.specs.Int.{w16, cast_signed, cast_unsigned}
use Rattle.bpf_model.specs.Access.{bytes_of}
use Rattle.bpf_model.specs.AbstractState.{in_bounds, address_range, has_accesses}
use Rattle.bpf_verifier.specs.Represents.{state_of}
use Rattle.bpf_verifier.proofs.abstract_state.AbstractState.has_accesses.Goals as goal

pub returns-in-Load : goal.returns-in-Load
returns-in-Load g c = λ stack.
    let n = c.in-Load.offset in
    let again : cast_signed w16 (cast_unsigned w16 n) ≡ n = search rules in
    c.has_access.ensures stack
    ∙ ap (λ (z : ℤ). in_bounds c.args.depth (address_range (state_of c.args.self.now.ranges stack) c.in-Load.base.number z) (bytes_of c.in-Load.size)) again
    ∙ ap (has_accesses c.args.depth (state_of c.args.self.now.ranges stack)) (sym c.in-Load.is)

pub returns-in-StoreImm : goal.returns-in-StoreImm
returns-in-StoreImm g c = λ stack.
    let n = c.in-StoreImm.offset in
    let again : cast_signed w16 (cast_unsigned w16 n) ≡ n = search rules in
    c.has_access-in-StoreImm.ensures stack
    ∙ ap (λ (z : ℤ). in_bounds c.args.depth (address_range (state_of c.args.self.now.ranges stack) c.in-StoreImm.base.number z) (bytes_of c.in-StoreImm.size)) again
    ∙ ap (has_accesses c.args.depth (state_of c.args.self.now.ranges stack)) (sym c.in-StoreImm.is)

pub returns-in-Store : goal.returns-in-Store
returns-in-Store g c = λ stack.
    let n = c.in-Store.offset in
    let again : cast_signed w16 (cast_unsigned w16 n) ≡ n = search rules in
    c.has_access-in-Store.ensures stack
    ∙ ap (λ (z : ℤ). in_bounds c.args.depth (address_range (state_of c.args.self.now.ranges stack) c.in-Store.base.number z) (bytes_of c.in-Store.size)) again
    ∙ ap (has_accesses c.args.depth (state_of c.args.self.now.ranges stack)) (sym c.in-Store.is)
