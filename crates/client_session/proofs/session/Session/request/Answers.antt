use Rattle.std.proofs.Common.{◌≡◌, ◌+◌, ◌<◌, ◌^◌, ◌≤◌, sym, ap, subst, ◌∙◌, arith, rules}
use Rattle.lms_tree.specs.Keys.{IsKeyOf, after_signing}
use Rattle.lms_tree.specs.SigningState.{SigningState}
use Rattle.pbft_codec.specs.declared.body.Body.TheVariants as bodies
use Rattle.seal.specs.Opening.{CheckedMessage}
use Rattle.pbft_codec.proofs.LengthLaws.{length_body}
use Rattle.client_session.proofs.Signing.{few_leaves, short_signature}
use Rattle.client_session.proofs.session.Session.request.Goals as goal

pub seal-requires-clause-within : goal.seal-requires-clause-within
seal-requires-clause-within c =
    let leaves = few_leaves c.self.inside.signer in
    let short = short_signature c.self.inside.signer in
    let asked : c.self.inside.time ≤ 2 ^ 63 + c.self.inside.signer.next_leaf = c.self.invariant.1 in
    let used = c.leaves_left.ensures in
    let small : c.self.inside.time + 1 < 18446744073709551616 = omega (arith, leaves, asked, used) in
    omega (arith, length_body (bodies.Request (record { time = c.self.inside.time + 1; op = c.args.op })) small, short, c.requires)

pub invariant_of-self-2 : goal.invariant_of-self-2
invariant_of-self-2 c =
    let sign = c.self.invariant.0 in
    let leaf : c.self.inside.time ≤ 2 ^ 63 + c.self.inside.signer.next_leaf = c.self.invariant.1 in
    let used : c.seal.new.signer ≡ after_signing c.self.inside.signer = c.in_ok-request.ensures.used in
    let next : c.seal.new.signer.next_leaf ≡ c.self.inside.signer.next_leaf + 1 = ap (λ (s : SigningState). s.next_leaf) used in
    let handle : c.in_ok-open_request.open_request ≡ c.in_ok-request.request = c.in_ok-open_request.ensures in
    let signed = c.in_ok-request.ensures.signed in (
      record { key = sign.key; listed = sign.listed; is_key = subst (IsKeyOf sign.key) (sym used) sign.is_key },
      omega (arith, leaf, next),
      search rules,
      ap (λ (m : CheckedMessage). m.config) (handle ∙ signed),
    )
