use Rattle.bpf_verifier.proofs.States.{no_stack}
use Rattle.std.proofs.Common.{◌≡◌, ◌∙◌, ◌++◌, ap, sym, rules, Option, Some, ℤ, true}
use Rattle.std.specs.Int.{w16, w32, cast_signed, cast_unsigned}
use Rattle.std.proofs.lemmas.List.Folds.{list_all-append}
use Rattle.map_helpers.specs.declared.helper.Helper.{Helper}
use Rattle.bpf_model.specs.Access.{bytes_of}
use Rattle.map_helpers.specs.Helpers.{helper_of, reads, writes}
use Rattle.bpf_model.specs.AbstractState.{in_bounds, is_initialized, has_bytes, access_in_bounds, address_range, has_accesses, all_in_bounds, helper_reads, helper_writes}
use Rattle.bpf_model.proofs.Options.{and_true}
use Rattle.bpf_verifier.specs.Represents.{state_of, ranges_of}
use Rattle.bpf_verifier.proofs.abstract_state.AbstractState.has_bytes.Goals as goal

pub has_bytes_at-requires : goal.has_bytes_at-requires
has_bytes_at-requires g c = (
  search rules,
  (
    c.requires.0,
    c.requires.1,
    λ stack.
        let n = c.in-Load.offset in
        let again : cast_signed w16 (cast_unsigned w16 n) ≡ n = search rules in
        ap (λ (z : ℤ). in_bounds c.requires.0 (address_range (state_of c.args.self.now.ranges stack) c.in-Load.base.number z) (bytes_of c.in-Load.size)) again
        ∙ ap (has_accesses c.requires.0 (state_of c.args.self.now.ranges stack)) (sym c.in-Load.is) ∙ c.requires.2 stack,
  ),
)

pub are_initialized-requires : goal.are_initialized-requires
are_initialized-requires g c =
    let n = c.in-CallHelper.helper in
    let again : cast_signed w32 (cast_unsigned w32 n) ≡ n = search rules in
    let h : Helper = c.in-Some.helper in
    let known : helper_of n ≡ Some h = ap helper_of (sym again) ∙ sym c.of.ensures ∙ c.in-Some.is in
    let whole : all_in_bounds c.requires.0 (ranges_of c.args.self.now.ranges) (reads h ++ writes h) ≡ true =
    ap (λ (o : Option Helper). all_in_bounds c.requires.0 (ranges_of c.args.self.now.ranges) (helper_reads o ++ helper_writes o)) (sym known)
    ∙ ap (has_accesses c.requires.0 (state_of c.args.self.now.ranges no_stack)) (sym c.in-CallHelper.is) ∙ c.requires.2 no_stack in
    let split = sym (list_all-append (access_in_bounds c.requires.0 (ranges_of c.args.self.now.ranges)) (reads h) (writes h)) ∙ whole in
    (search rules, (c.requires.0, c.requires.1, ap (all_in_bounds c.requires.0 (ranges_of c.args.self.now.ranges)) c.reads.ensures ∙ (and_true _ _ split).0))

pub returns-in-Load : goal.returns-in-Load
returns-in-Load g c = λ stack holds.
    let n = c.in-Load.offset in
    let again : cast_signed w16 (cast_unsigned w16 n) ≡ n = search rules in
    c.has_bytes_at.ensures stack holds
    ∙ ap (λ (z : ℤ). is_initialized stack.initialized (address_range (state_of c.args.self.now.ranges stack) c.in-Load.base.number z) (bytes_of c.in-Load.size)) again
    ∙ ap (has_bytes (state_of c.args.self.now.ranges stack)) (sym c.in-Load.is)
